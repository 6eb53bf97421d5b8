-- `mask::nth` meets its contract: what is left has the place at k - counter. Assumes nothing.
use Rattle.std.proofs.Common.{◌≡◌, ◌-◌, ◌<◌, ◌^◌, get_or}
use Rattle.mask.specs.Mask.{places}
use Rattle.mask.proofs.nth.Given as goal

abbrev pub invariant-loop : goal.invariant-loop
invariant-loop l = (l.left < 2 ^ 32) × (get_or (places l.left) (l.k - l.counter) 32 ≡ get_or (places l.m) l.k 32)
