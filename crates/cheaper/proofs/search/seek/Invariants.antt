-- `cheaper::search::seek` meets its contract: x is the cheapest so far: with the orders that are left it gives the cheapest of all. Assumes nothing.
use Prim.Native.Nat.{ℕ, ◌+◌, ◌-◌, ◌*◌}
use mathlib.Core.Path.{◌≡◌}
use mathlib.Core.List.{List, ◌++◌}
use lib.ListN.{get_or}
use lib.ListN.{take, drop, replicate}
use Rattle.cheaper.specs.Orders.{orders}
use Rattle.cheaper.specs.Prices.{total, cheapest}
use Rattle.cheaper.specs.Search.{sought}
use Rattle.cheaper.proofs.search.seek.Given as goal

abbrev pub invariant-loop-i : goal.invariant-loop-i
invariant-loop-i l = (x : List ℕ) × (l.best.order ≡ x ++ replicate (8 - l.n) 0) ×
    (l.best.price ≡ total (λ a b. get_or l.between (a * 8 + b) 0) x) × (cheapest (total (λ a b. get_or l.between (a * 8 + b) 0)) x (drop l.i (take l.turns (orders l.n))) ≡ sought l.between l.n l.turns)
