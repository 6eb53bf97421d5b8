use Rattle.std.proofs.Common.{refl}
use Rattle.calls.specs.Call.{transition_buffers}
use Rattle.transfer_calls.proofs.BarrierPlans.{barriers-done}
use Rattle.transfer_calls.proofs.transfers.transition_buffers.Goals as goal

pub returns : goal.returns
returns c =
    let a = c.args in
    barriers-done a.barriers.now a.caps a.s (transition_buffers (record { run = a.barriers.now; count = a.count })) (λ x. refl) refl refl _ _ _ _ c.plan_transition_buffers-plan.ensures (c.barriers_answer.ensures, c.«record».ensures)
