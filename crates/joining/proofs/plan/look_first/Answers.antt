use Rattle.std.proofs.Common.{refl}
use Rattle.list_walks.proofs.Folded.{part-first}
use Rattle.joining.proofs.plan.look_first.Goals as goal

pub returns : goal.returns
returns c = rw (c.look_between.ensures, c.fresh_ending.ensures, c.first_survey.ensures, c.within.ensures, part-first) refl
