-- `single_calls::queries::plan_write_timestamp` meets its contract. Assumes nothing.
use Rattle.calls.specs.Step.{outcome_of}
use Rattle.single_calls.proofs.queries.plan_write_timestamp.Goals as goal

pub returns : goal.returns
unfolding outcome_of
returns c = rw (c.query_of-query.ensures, c.run_asks-c.ensures, c.not_closed.ensures, c.over_run-short.ensures) at (c.plan_one.ensures c.broken_limits-broken.ensures)
