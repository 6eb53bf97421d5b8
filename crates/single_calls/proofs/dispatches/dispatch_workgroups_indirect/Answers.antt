use Rattle.std.proofs.Common.{refl}
use Rattle.calls.specs.Call.{dispatch_workgroups_indirect}
use Rattle.single_calls.proofs.Ones.{one-done}
use Rattle.single_calls.proofs.dispatches.dispatch_workgroups_indirect.Goals as goal

pub returns : goal.returns
returns c =
    let a = c.args in
    one-done a.caps a.s (dispatch_workgroups_indirect a.buffer a.offset) (λ x. refl) refl refl _ _ _ _ c.plan_dispatch_workgroups_indirect-plan.ensures (c.one_answer.ensures, c.«record».ensures)
