use Rattle.std.proofs.Common.{refl}
use Rattle.calls.specs.Call.{end_query}
use Rattle.single_calls.proofs.Ones.{one-done}
use Rattle.single_calls.proofs.queries.end_query.Goals as goal

pub returns : goal.returns
returns c =
    let a = c.args in
    one-done a.caps a.s (end_query (record { queries = record { run = a.set.now; count = a.count }; target = a.target }) a.index) (λ x. refl) refl refl _ _ _ _ c.plan_end_query-plan.ensures (c.one_answer.ensures, c.«record».ensures)
