-- `mask::without` meets its contract. Assumes nothing.
use mathlib.Core.Path.{refl}
use Rattle.mask.specs.Mask.{without}
use Rattle.mask.proofs.without.Goals as goal

pub returns : goal.returns
unfolding without
returns c = refl
