-- The survey from the start is that of the list.
use Rattle.std.proofs.Common.{subst}
use Rattle.list_walks.proofs.Folded.{part-first}
use Rattle.lists.proofs.Floats.{PartF32, used-f32}
use Rattle.lists.proofs.Surveying.{from_start}
use Rattle.lists.proofs.limits.survey.Goals as goal

pub returns-clause-survey : goal.returns-clause-survey
returns-clause-survey c =
    rw (c.survey_between.ensures.survey, c.first_survey-acc.ensures, c.looked_at-n.ensures, part-first)
    (from_start c.args.list.now c.args.used)

pub returns-clause-floats : goal.returns-clause-floats
returns-clause-floats c =
    used-f32 c.args.list.now c.args.used.commands (subst (PartF32 c.args.list.now 0) c.looked_at-n.ensures c.survey_between.ensures.floats)
