use Rattle.std.proofs.Common.{refl}
use Rattle.calls.specs.Call.{write_timestamp}
use Rattle.single_calls.proofs.Ones.{one-done}
use Rattle.single_calls.proofs.queries.write_timestamp.Goals as goal

pub returns : goal.returns
returns c =
    let a = c.args in
    one-done a.caps a.s (write_timestamp (record { queries = record { run = a.set.now; count = a.count }; target = a.target }) a.index) (λ x. refl) refl refl _ _ _ _ c.plan_write_timestamp-plan.ensures (c.one_answer.ensures, c.«record».ensures)
