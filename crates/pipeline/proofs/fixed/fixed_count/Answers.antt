-- `pipeline::fixed::fixed_count` meets its contract, by the plan. Assumes nothing.
use Rattle.pipeline.proofs.fixed.fixed_count.Goals as goal

pub returns : goal.returns
returns c = (rw c.fixed_plan-plan.ensures.0, c.fixed_plan-plan.ensures.1)
