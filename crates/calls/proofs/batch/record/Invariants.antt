use Rattle.walks.proofs.Fronts.{Front}
use Rattle.calls.specs.Did.{record_of}
use Rattle.calls.proofs.batch.record.Given as goal

abbrev pub invariant-loop-i : goal.invariant-loop-i
invariant-loop-i g l = Front (λ i. record_of (g.B.Batch.command_at l.batch i)) l.initial.list l.at l.n l.list l.i
