use Rattle.std.proofs.Common.{refl}
use Rattle.calls.specs.Call.{copy_query_results}
use Rattle.transfer_calls.proofs.ResolvedPlans.{resolved-done}
use Rattle.transfer_calls.proofs.results.copy_query_results.Goals as goal

pub returns : goal.returns
returns c =
    let a = c.args in
    resolved-done a.set.now a.caps a.s (copy_query_results (record { queries = record { run = a.set.now; count = a.count }; target = a.target }) a.start a.end a.dst a.offset) (λ x. refl) refl _ _ _ _ _ _ c.plan_copy_query_results-plan.ensures (c.resolved_answer.ensures, c.«record».ensures) c.copy_queries.ensures
