use Rattle.std.proofs.Common.{refl}
use Rattle.calls.specs.Call.{clear_buffer}
use Rattle.single_calls.proofs.Ones.{one-done}
use Rattle.single_calls.proofs.dispatches.clear_buffer.Goals as goal

pub returns : goal.returns
returns c =
    let a = c.args in
    one-done a.caps a.s (clear_buffer a.buffer a.range) (λ x. refl) refl refl _ _ _ _ c.plan_clear_buffer-plan.ensures (c.one_answer.ensures, c.«record».ensures)
