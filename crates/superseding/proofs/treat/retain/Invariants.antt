-- What is no blank of the first i records stands in front, and is j records.
use Rattle.list_walks.proofs.Sifted.{Retained}
use Rattle.superseding.specs.Seen.{stays_of}
use Rattle.superseding.proofs.treat.retain.Given as goal

abbrev pub invariant-loop-i : goal.invariant-loop-i
invariant-loop-i l = Retained stays_of l.initial.list l.n l.list l.j l.i
