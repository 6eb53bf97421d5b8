-- `pipeline::inner::changed_units` meets its contract. Assumes nothing.
use Rattle.std.proofs.Common.{rules, tests}
use Rattle.pipeline.specs.Inner.{changed_units}
use Rattle.pipeline.proofs.inner.changed_units.Goals as goal

pub returns : goal.returns
unfolding changed_units
returns c = c.mask_where.ensures.made _ (λ u b h k. search (rules, tests))
