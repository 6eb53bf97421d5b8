-- `single_calls::dispatches::plan_dispatch_workgroups_indirect` meets its contract. Assumes nothing.
use Rattle.calls.specs.Step.{outcome_of}
use Rattle.single_calls.proofs.dispatches.plan_dispatch_workgroups_indirect.Goals as goal

pub returns : goal.returns
unfolding outcome_of
returns c = rw (c.in_phase_with-c.ensures, c.in_compute.ensures) at (c.plan_one.ensures c.broken_limits-broken.ensures)
