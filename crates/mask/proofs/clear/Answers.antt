-- `mask::clear` meets its contract. Assumes nothing.
use Rattle.mask.specs.Mask.{clear_bit, without}
use Rattle.mask.proofs.clear.Goals as goal

pub returns : goal.returns
unfolding clear_bit without
returns c = rw c.bit.ensures
