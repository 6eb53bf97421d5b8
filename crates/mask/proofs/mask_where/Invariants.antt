-- `mask::mask_where` meets its contract. Invariant: the places below i are where f says so. Assumes nothing.
use Prim.Native.Nat.{ℕ, ◌<◌, ◌^◌}
use Rattle.mask.specs.Mask.{test_bit}
use Rattle.mask.proofs.mask_where.Given as goal

abbrev pub invariant-loop-i : goal.invariant-loop-i
invariant-loop-i g l = (l.m < 2 ^ l.i) × ((j : ℕ) → j < l.i → goal.F-post g l.f j (test_bit l.m j))
