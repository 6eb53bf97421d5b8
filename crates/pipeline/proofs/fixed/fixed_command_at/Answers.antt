-- `pipeline::fixed::fixed_command_at` meets its contract, part after part. Assumes nothing.
use Prim.Native.Nat.{◌-◌}
use mathlib.Core.Path.{ap}
use Rattle.records.specs.declared.command.Command.TheVariants.{SetDepthBias, ConfigureDepthStencil, SetAlphaToCoverage, SetClipDistances}
use Rattle.pipeline.specs.Fixed.{aspects_of}
use Rattle.pipeline.specs.declared.plan.FixedPlan.{FixedPlan}
use Rattle.pipeline.proofs.Ladder as ladder
use Rattle.pipeline.proofs.fixed.fixed_command_at.Goals as goal

pub returns-then-k-plan : goal.returns-then-k-plan
returns-then-k-plan c =
    λ e.
    let a = c.args in
    rw c.map_primitive_state.ensures (ladder.on-primitive a.p a.f a.plan e a.k c.if-k-plan.true)

pub returns-then-at_bias-plan : goal.returns-then-at_bias-plan
returns-then-at_bias-plan c =
    λ e.
    let a = c.args in
    let q = a.plan in
    ladder.to-bias a.p a.f q e (SetDepthBias a.p.depth_bias) a.k c.if-k-plan.false
    (ladder.on-bias a.p a.f q e (a.k - q.primitive) c.if-at_bias-plan.true)

pub returns-then-at_depth-plan : goal.returns-then-at_depth-plan
returns-then-at_depth-plan c =
    λ e.
    let a = c.args in
    let q = a.plan in
    let r = c.depth_command_at.result in
    ladder.to-depth a.p a.f q e r a.k c.if-k-plan.false c.if-at_bias-plan.false
    (ladder.on-depth a.p a.f q e (a.k - q.primitive - q.bias) r c.if-at_depth-plan.true c.depth_command_at.ensures)

pub returns-then-at_stencil-plan : goal.returns-then-at_stencil-plan
returns-then-at_stencil-plan c =
    λ e.
    let a = c.args in
    let q = a.plan in
    let r = c.stencil_command_at.result in
    ladder.to-stencil a.p a.f q e r a.k c.if-k-plan.false c.if-at_bias-plan.false c.if-at_depth-plan.false
    (ladder.on-stencil a.p a.f q e (a.k - q.primitive - q.bias - q.depth) r c.if-at_stencil-plan.true c.stencil_command_at.ensures)

pub returns-then-at_aspects-eq0 : goal.returns-then-at_aspects-eq0
returns-then-at_aspects-eq0 c =
    λ e.
    let a = c.args in
    let q = a.plan in
    rw c.aspects.ensures
    (ladder.to-aspects a.p a.f q e (ConfigureDepthStencil (aspects_of a.p)) a.k c.if-k-plan.false c.if-at_bias-plan.false c.if-at_depth-plan.false c.if-at_stencil-plan.false
    (ladder.on-aspects a.p a.f q e (a.k - q.primitive - q.bias - q.depth - q.stencil) c.if-at_aspects-eq0.true))

pub returns-then-at_alpha-plan : goal.returns-then-at_alpha-plan
returns-then-at_alpha-plan c =
    λ e.
    let a = c.args in
    let q = a.plan in
    ladder.to-alpha a.p a.f q e (SetAlphaToCoverage a.p.alpha_to_coverage_enabled) a.k
    c.if-k-plan.false c.if-at_bias-plan.false c.if-at_depth-plan.false c.if-at_stencil-plan.false c.if-at_aspects-eq0.false
    (ladder.on-alpha a.p a.f q e (a.k - q.primitive - q.bias - q.depth - q.stencil - 1) c.if-at_alpha-plan.true)

pub returns-then-at_targets-plan : goal.returns-then-at_targets-plan
returns-then-at_targets-plan c =
    λ e.
    let a = c.args in
    let q = a.plan in
    let r = c.target_command_at.result in
    ladder.to-targets a.p a.f q e r a.k c.if-k-plan.false c.if-at_bias-plan.false c.if-at_depth-plan.false c.if-at_stencil-plan.false c.if-at_aspects-eq0.false c.if-at_alpha-plan.false
    (ladder.on-targets a.p a.f q e (a.k - q.primitive - q.bias - q.depth - q.stencil - 1 - q.alpha) r c.if-at_targets-plan.true
    (c.target_command_at.ensures (ap (λ (q : FixedPlan). q.alike) e)))

pub returns : goal.returns
returns c =
    λ e.
    let a = c.args in
    let q = a.plan in
    ladder.to-clip a.p a.f q e (SetClipDistances a.f.clip_distance_count a.p.inner.clip_distance_count) a.k
    c.if-k-plan.false c.if-at_bias-plan.false c.if-at_depth-plan.false c.if-at_stencil-plan.false c.if-at_aspects-eq0.false c.if-at_alpha-plan.false c.if-at_targets-plan.false
    (ladder.on-clip a.p a.f (a.k - q.primitive - q.bias - q.depth - q.stencil - 1 - q.alpha - q.targets))
