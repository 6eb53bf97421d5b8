use Rattle.walks.proofs.Fronts.{Front}
use Rattle.joining.specs.Joins.{record_of}
use Rattle.joining.specs.Plan.{reset_at}
use Rattle.joining.proofs.join.put_in.Given as goal

abbrev pub invariant-loop-i : goal.invariant-loop-i
invariant-loop-i l = Front (λ i. record_of (reset_at l.batch i)) l.initial.list l.batch.at l.batch.n l.list l.i
