use Rattle.std.proofs.Common.{refl}
use Rattle.calls.specs.Call.{set_index_buffer}
use Rattle.single_calls.proofs.Ones.{one-done}
use Rattle.single_calls.proofs.settings.set_index_buffer.Goals as goal

pub returns : goal.returns
returns c =
    let a = c.args in
    one-done a.caps a.s (set_index_buffer a.buffer a.offset a.format) (λ x. refl) refl refl _ _ _ _ c.plan_set_index_buffer-plan.ensures (c.one_answer.ensures, c.«record».ensures)
