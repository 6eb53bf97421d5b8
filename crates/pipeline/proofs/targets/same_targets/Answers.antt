-- `pipeline::targets::same_targets` meets its contract. Assumes nothing.
use mathlib.Core.Path.{◌∙◌}
use Rattle.std.proofs.Common.{rules, tests}
use Rattle.pipeline.proofs.Target.{pointwise_same}
use Rattle.pipeline.proofs.targets.same_targets.Goals as goal

pub returns : goal.returns
returns c = c.eq.ensures ∙ rw (c.counted.ensures, c.counted-2.ensures) (pointwise_same _ (λ x y. search (rules, tests)) _ _)
