use Rattle.std.proofs.Common.{refl}
use Rattle.calls.specs.Call.{set_blend_constants}
use Rattle.single_calls.proofs.Ones.{one-done}
use Rattle.single_calls.proofs.settings.set_blend_constants.Goals as goal

pub returns : goal.returns
returns c =
    let a = c.args in
    one-done a.caps a.s (set_blend_constants a.color) (λ x. refl) refl refl _ _ _ _ c.plan_set_blend_constants-plan.ensures (c.one_answer.ensures, c.«record».ensures)
