use Rattle.std.proofs.Common.{refl}
use Rattle.calls.specs.Call.{begin_query}
use Rattle.single_calls.proofs.Ones.{one-done}
use Rattle.single_calls.proofs.queries.begin_query.Goals as goal

pub returns : goal.returns
returns c =
    let a = c.args in
    one-done a.caps a.s (begin_query (record { queries = record { run = a.set.now; count = a.count }; target = a.target }) a.index) (λ x. refl) refl refl _ _ _ _ c.plan_begin_query-plan.ensures (c.one_answer.ensures, c.«record».ensures)
