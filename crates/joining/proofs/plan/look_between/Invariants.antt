use Rattle.std.proofs.Common.{◌≤◌}
use Rattle.list_walks.proofs.Folded.{Folded}
use Rattle.joining.specs.Plan.{look_record}
use Rattle.joining.proofs.plan.look_between.Given as goal

abbrev pub invariant-loop-i : goal.invariant-loop-i
invariant-loop-i l = record { folded : Folded look_record l.initial.a l.list l.from l.to l.a l.i; low : l.a.surveyed.draws ≤ l.i }
