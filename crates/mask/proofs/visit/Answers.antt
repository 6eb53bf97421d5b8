-- `mask::visit` meets its contract: as many places as ones. Assumes nothing.
use Rattle.mask.specs.Laws.{ones-places}
use Rattle.mask.proofs.visit.Goals as goal

pub returns-clause-count : goal.returns-clause-count
returns-clause-count c = ones-places 32 0 c.args.m c.ranges.m.fits
