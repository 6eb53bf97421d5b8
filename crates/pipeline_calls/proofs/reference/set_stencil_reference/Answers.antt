use Rattle.std.proofs.Common.{refl}
use Rattle.calls.specs.Call.{set_stencil_reference}
use Rattle.pipeline_calls.specs.Sides.{SidesAllowed, sides_next, sides_at}
use Rattle.pipeline_calls.proofs.Rights.{done}
use Rattle.pipeline_calls.proofs.reference.set_stencil_reference.Goals as goal

pub returns : goal.returns
returns c =
    let a = c.args in
    let p = c.plan_set_stencil_reference-plan.result in
    done a.caps a.s (set_stencil_reference a.reference) (λ x. refl) refl refl _ _ _ p.outcome (sides_next p a.s) p.batch.at p.batch.n (sides_at p.batch) (SidesAllowed p.batch)
    c.plan_set_stencil_reference-plan.ensures c.sides_answer.ensures c.«record».ensures
