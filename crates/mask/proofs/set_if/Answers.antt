-- `mask::set_if` meets its contract. Assumes nothing.
use Rattle.mask.specs.Mask.{set_bit_if}
use Rattle.mask.proofs.set_if.Goals as goal

pub returns-then-b : goal.returns-then-b
unfolding set_bit_if
returns-then-b c = simp c.if-b.true c.set.ensures

pub returns-else-b : goal.returns-else-b
unfolding set_bit_if
returns-else-b c = simp c.if-b.false
