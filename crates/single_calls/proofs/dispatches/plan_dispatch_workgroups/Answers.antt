-- `single_calls::dispatches::plan_dispatch_workgroups` meets its contract. Assumes nothing.
use Rattle.calls.specs.Step.{outcome_of}
use mathlib.Core.Bool.{◌||◌}
use lib.Dec.{eqb}
use Rattle.records.specs.declared.command.Command.TheVariants.{Dispatch}
use Rattle.single_calls.proofs.Ones.{not_none}
use Rattle.single_calls.proofs.dispatches.plan_dispatch_workgroups.Goals as goal

pub returns : goal.returns
unfolding outcome_of
returns c =
    let a = c.args in
    let k = rw (c.in_phase-c.ensures, c.in_compute.ensures) at (c.plan_one.ensures c.broken_limits-broken.ensures) in
    rw (not_none (eqb a.x 0 || (eqb a.y 0 || eqb a.z 0)) (Dispatch a.x a.y a.z)) at k
