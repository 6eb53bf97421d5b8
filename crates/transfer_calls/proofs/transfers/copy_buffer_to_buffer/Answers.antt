use Rattle.std.proofs.Common.{refl}
use Rattle.calls.specs.Call.{copy_buffer_to_buffer}
use Rattle.transfer_calls.proofs.CopyPlans.{copies-done}
use Rattle.transfer_calls.proofs.transfers.copy_buffer_to_buffer.Goals as goal

pub returns : goal.returns
returns c =
    let a = c.args in
    copies-done a.regions.now a.caps a.s (copy_buffer_to_buffer a.src a.dst (record { run = a.regions.now; count = a.count })) (λ x. refl) refl refl _ _ _ _ c.plan_copy_buffer_to_buffer-plan.ensures (c.copies_answer.ensures, c.«record».ensures)
