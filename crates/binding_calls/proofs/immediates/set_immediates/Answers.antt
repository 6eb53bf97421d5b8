use Rattle.binding_calls.proofs.ImmediateData.{immediates-done}
use Rattle.binding_calls.proofs.immediates.set_immediates.Goals as goal

pub returns : goal.returns
returns c =
    let a = c.args in
    immediates-done a.caps a.s a.offset (record { run = a.words.now; count = a.count }) _ _ _ _ _ _ c.plan_set_immediates-plan.ensures (c.sent_answer.ensures, c.«record».ensures) c.write_bytes.ensures
