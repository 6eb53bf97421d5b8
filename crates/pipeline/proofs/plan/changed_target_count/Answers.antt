-- `pipeline::plan::changed_target_count` meets its contract. Assumes nothing.
use mathlib.Core.Path.{sym, ◌∙◌}
use native.Mathlib.Omega.{arith}
use Rattle.pipeline.proofs.plan.changed_target_count.Goals as goal

pub returns-then-same_targets : goal.returns-then-same_targets
returns-then-same_targets c = (λ e. rw (sym c.same_targets.ensures ∙ c.if-same_targets.true), omega arith)

pub returns-else-same_targets : goal.returns-else-same_targets
returns-else-same_targets c = (λ e. rw (sym c.same_targets.ensures ∙ c.if-same_targets.false) (c.target_count.ensures.0 e), c.target_count.ensures.1)
