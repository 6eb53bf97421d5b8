-- Past the first i records the list has its blanks, and all that stands there is seen.
use Rattle.list_walks.proofs.Backwards.{Back}
use Rattle.superseding.specs.Seen.{blanked_by, look_back}
use Rattle.superseding.proofs.treat.blank_superseded.Given as goal

abbrev pub invariant-loop-i : goal.invariant-loop-i
invariant-loop-i l = Back blanked_by look_back l.initial.a l.initial.list l.n l.a l.list l.i
