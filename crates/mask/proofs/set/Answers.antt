-- `mask::set` meets its contract. Assumes nothing.
use Rattle.mask.specs.Mask.{set_bit}
use Rattle.mask.proofs.set.Goals as goal

pub returns : goal.returns
unfolding set_bit
returns c = rw c.bit.ensures
