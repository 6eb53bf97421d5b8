-- `single_calls::dispatches::plan_clear_buffer` meets its contract. Assumes nothing.
use Rattle.calls.specs.Step.{outcome_of}
use Rattle.single_calls.proofs.dispatches.plan_clear_buffer.Goals as goal

pub returns : goal.returns
unfolding outcome_of
returns c = rw (c.in_phase-c.ensures, c.in_open.ensures) at (c.plan_one.ensures c.broken_limits-broken.ensures)
