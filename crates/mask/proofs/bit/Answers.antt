-- `mask::bit` meets its contract: the shift of 1, and nothing past the mask. Assumes nothing.
use mathlib.Core.Path.{sym, ◌∙◌}
use borrow.Author.Tests.{le-ltb}
use Rattle.mask.specs.Mask.{bit_at}
use Rattle.mask.specs.Laws.{shl_one, bit-at}
use Rattle.mask.proofs.bit.Goals as goal

pub returns-then-i-lt32 : goal.returns-then-i-lt32
returns-then-i-lt32 c = shl_one c.args.i c.if-i-lt32.true ∙ sym (bit-at c.args.i c.if-i-lt32.true)

pub returns-else-i-lt32 : goal.returns-else-i-lt32
unfolding bit_at
returns-else-i-lt32 c = rw (le-ltb c.args.i 32 c.if-i-lt32.false)
