use Rattle.std.proofs.Common.{refl}
use Rattle.calls.specs.Call.{dispatch_workgroups}
use Rattle.single_calls.proofs.Ones.{one-done}
use Rattle.single_calls.proofs.dispatches.dispatch_workgroups.Goals as goal

pub returns : goal.returns
returns c =
    let a = c.args in
    one-done a.caps a.s (dispatch_workgroups a.x a.y a.z) (λ x. refl) refl refl _ _ _ _ c.plan_dispatch_workgroups-plan.ensures (c.one_answer.ensures, c.«record».ensures)
