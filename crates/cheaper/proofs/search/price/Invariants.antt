-- `cheaper::search::price` meets its contract: with the price from the place before k on the sum is the whole. Assumes nothing.
use Prim.Native.Nat.{◌+◌, ◌-◌, ◌*◌, ◌≤◌}
use mathlib.Core.Path.{◌≡◌}
use lib.ListN.{length, get_or, drop}
use Rattle.cheaper.specs.Prices.{total}
use Rattle.cheaper.proofs.search.price.Given as goal

abbrev pub invariant-loop-k : goal.invariant-loop-k
invariant-loop-k l = (l.sum + total (λ a b. get_or l.between (a * 8 + b) 0) (drop (l.k - 1) l.order) ≡ total (λ a b. get_or l.between (a * 8 + b) 0) l.order) × (l.sum ≤ 18 * (l.k - 1)) × (l.k - 1 ≤ length l.order - 1)
