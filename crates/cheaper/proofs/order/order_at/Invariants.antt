-- `cheaper::order::order_at` meets its contract: d are the places given out, of orders that go on with what is left. Assumes nothing.
use Prim.Native.Nat.{ℕ, ◌-◌, ◌<◌}
use mathlib.Core.Path.{◌≡◌}
use mathlib.Core.List.{List, ◌++◌}
use lib.ListN.{length}
use lib.ListN.{take, replicate}
use Rattle.cheaper.specs.Orders.{given, factorial}
use Rattle.cheaper.specs.Search.{order_at}
use Rattle.cheaper.proofs.order.order_at.Given as goal

abbrev pub invariant-loop-k : goal.invariant-loop-k
invariant-loop-k l = (l.rest < factorial (l.n - l.k)) × (length l.left ≡ 8) × (length l.out ≡ 8) ×
    ((d : List ℕ) × (l.out ≡ d ++ replicate (8 - l.k) 0) × (length d ≡ l.k) × (d ++ order_at (l.n - l.k) (take (l.n - l.k) l.left) l.rest ≡ order_at l.n (given l.n) l.i))
