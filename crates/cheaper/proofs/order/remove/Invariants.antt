-- `cheaper::order::remove` meets its contract: below j nothing has changed; from j up to the place before k each element is the next one. Assumes nothing.
use Prim.Native.Nat.{ℕ, suc, ◌+◌, ◌≤◌, ◌<◌}
use mathlib.Core.Path.{◌≡◌}
use lib.ListN.{length, get_or}
use Rattle.cheaper.proofs.order.remove.Given as goal

abbrev pub invariant-loop-k : goal.invariant-loop-k
invariant-loop-k l = (length l.r ≡ 8) × ((q : ℕ) → q < l.j → get_or l.r q 0 ≡ get_or l.left q 0) × ((q : ℕ) → l.j ≤ q → q + 1 < l.k → get_or l.r q 0 ≡ get_or l.left (suc q) 0)
