-- `mask::test` meets its contract: the masked digit is 0 or not. Assumes nothing.
use Prim.Native.Nat.{ℕ}
use mathlib.Core.Path.{ap, ◌∙◌}
use mathlib.Core.Bool.{not}
use lib.Dec.{eqb}
use lib.Bits.{bit_and}
use Rattle.mask.specs.Laws.{bit_test}
use Rattle.mask.proofs.test.Goals as goal

pub returns : goal.returns
returns c = ap (λ (x : ℕ). not (eqb (bit_and c.args.m x) 0)) c.bit.ensures ∙ bit_test c.args.m c.args.i c.ranges.m.fits
