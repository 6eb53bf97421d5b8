-- `cheaper::search::tried_at` meets its contract: an order has the places below n. Assumes nothing.
use Prim.Native.Nat.{ℕ, ◌+◌, ◌-◌, ◌*◌, ◌≤◌, ◌<◌}
use mathlib.Core.Path.{◌≡◌, sym, ap, ◌∙◌, subst}
use mathlib.Core.List.{List, ◌++◌}
use native.Mathlib.Omega.{arith}
use lib.ListN.{length, get_or, take, replicate}
use Rattle.std.proofs.Math.Seq.{take-append_seam}
use Rattle.cheaper.specs.Orders.{given, factorial}
use Rattle.cheaper.specs.Prices.{total}
use Rattle.cheaper.specs.Same.{all-order, order-places}
use Rattle.cheaper.specs.Search.{order_at}
use Rattle.cheaper.proofs.Totals.{all-at, order-in}
use Rattle.cheaper.proofs.search.tried_at.Goals as goal

-- the first n places are the order
front : (n i : ℕ) (r : List ℕ) → i < factorial n → r ≡ order_at n (given n) i ++ replicate (8 - n) 0 → take n r ≡ order_at n (given n) i
front n i r h e =
    ap (take n) e
    ∙ ap (λ (k : ℕ). take k (order_at n (given n) i ++ replicate (8 - n) 0)) (sym (order-places n (order_at n (given n) i) (order-in n i h)))
    ∙ take-append_seam (order_at n (given n) i) (replicate (8 - n) 0)

pub price-price-requires : goal.price-price-requires
price-price-requires c =
    let a = c.args in
    let r = c.requires in
    let e = front a.n a.i c.order_at-order.result r.1 c.order_at-order.ensures in
    let m = order-in a.n a.i r.1 in (
      subst (λ (l : List ℕ). length l ≤ 8) (sym e) (subst (λ (k : ℕ). k ≤ 8) (sym (order-places a.n (order_at a.n (given a.n) a.i) m)) r.0),
      λ q. subst (λ (l : List ℕ). get_or l q 0 < 8) (sym e) (all-at 8 (order_at a.n (given a.n) a.i) q (omega arith) (all-order 8 a.n (order_at a.n (given a.n) a.i) r.0 m)),
      r.2,
    )

pub returns : goal.returns
returns c =
    let a = c.args in
    (c.order_at-order.ensures, c.price-price.ensures ∙ ap (total (λ x y. get_or a.between.now (x * 8 + y) 0)) (front a.n a.i c.order_at-order.result c.requires.1 c.order_at-order.ensures))
