-- The survey so far is that of the records passed, and no more draws than places.
use Rattle.std.proofs.Common.{◌≤◌}
use Rattle.list_walks.proofs.Folded.{Folded}
use Rattle.lists.specs.Survey.{survey_record}
use Rattle.lists.proofs.Floats.{PartF32}
use Rattle.lists.proofs.limits.survey_between.Given as goal

abbrev pub invariant-loop-i : goal.invariant-loop-i
invariant-loop-i l =
    record {
      folded : Folded survey_record l.initial.a l.list l.from l.to l.a l.i;
      floats : PartF32 l.list l.from l.i;
      low : l.a.draws ≤ l.i;
    }
