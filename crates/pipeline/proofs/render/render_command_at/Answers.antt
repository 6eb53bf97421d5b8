-- `pipeline::render::render_command_at` meets its contract, part after part. Assumes nothing.
use Prim.Native.Nat.{◌-◌}
use mathlib.Core.Path.{ap}
use mathlib.Core.List.{◌++◌}
use Rattle.pipeline.specs.declared.render.RenderPlan.{RenderPlan}
use Rattle.pipeline.specs.Inner.{inner_commands}
use Rattle.pipeline.specs.Vertex.{vertex_commands}
use Rattle.pipeline.specs.Fixed.{fixed_commands}
use Rattle.pipeline.proofs.Ladder.{in-first, in_rest}
use Rattle.pipeline.proofs.render.render_command_at.Goals as goal

pub returns-then-k-plan : goal.returns-then-k-plan
returns-then-k-plan c =
    λ old same e.
    let a = c.args in
    let p = a.p in
    in-first c.vertex_command_at.result a.k a.plan.vertex (vertex_commands a.caps p a.v) (inner_commands p.inner old ++ fixed_commands p a.f)
    (ap (λ (q : RenderPlan). q.vertex) e) c.if-k-plan.true c.vertex_command_at.ensures

pub returns-then-at_inner-plan : goal.returns-then-at_inner-plan
returns-then-at_inner-plan c =
    λ old same e.
    let a = c.args in
    let p = a.p in
    let q = a.plan in
    let r = c.inner_command_at.result in
    let s = rw (same, ap (λ (q : RenderPlan). q.changed) e) at c.inner_command_at.ensures in
    in_rest r a.k q.vertex (vertex_commands a.caps p a.v) (inner_commands p.inner old ++ fixed_commands p a.f)
    (ap (λ (q : RenderPlan). q.vertex) e) c.if-k-plan.false
    (in-first r (a.k - q.vertex) q.inner (inner_commands p.inner old) (fixed_commands p a.f) (ap (λ (q : RenderPlan). q.inner) e) c.if-at_inner-plan.true s)

pub returns : goal.returns
returns c =
    λ old same e.
    let a = c.args in
    let p = a.p in
    let q = a.plan in
    let r = c.fixed_command_at.result in
    let s = c.fixed_command_at.ensures (ap (λ (q : RenderPlan). q.fixed) e) in
    in_rest r a.k q.vertex (vertex_commands a.caps p a.v) (inner_commands p.inner old ++ fixed_commands p a.f)
    (ap (λ (q : RenderPlan). q.vertex) e) c.if-k-plan.false
    (in_rest r (a.k - q.vertex) q.inner (inner_commands p.inner old) (fixed_commands p a.f) (ap (λ (q : RenderPlan). q.inner) e) c.if-at_inner-plan.false s)
