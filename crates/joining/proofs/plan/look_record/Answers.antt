use Rattle.joining.proofs.plan.look_record.Goals as goal

-- src/plan.rt:121:1
pub returns : goal.returns
returns c = simp (c.ended-ending.ensures, c.survey_record-surveyed.ensures.survey)
