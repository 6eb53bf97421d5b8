use Rattle.std.proofs.Common.{refl}
use Rattle.calls.specs.Call.{set_scissor_rect}
use Rattle.single_calls.proofs.Ones.{one-done}
use Rattle.single_calls.proofs.settings.set_scissor_rect.Goals as goal

pub returns : goal.returns
returns c =
    let a = c.args in
    one-done a.caps a.s (set_scissor_rect a.rect) (λ x. refl) refl refl _ _ _ _ c.plan_set_scissor_rect-plan.ensures (c.one_answer.ensures, c.«record».ensures)
