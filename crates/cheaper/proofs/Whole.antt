-- The search by the table is the search by the pieces; the things of the pieces in front are those at their places. Assumes nothing.
use Prim.Native.Nat.{ℕ, zero, suc, ◌+◌, ◌-◌, ◌*◌, ◌/◌, ◌%◌, ◌≤◌, ◌<◌, min}
use mathlib.Core.Path.{◌≡◌, refl, ap, ◌∙◌}
use mathlib.Core.List.{List, ◌∷◌, map}
use native.Mathlib.Omega.{arith}
use lib.ListN.{length, get_or, take, drop}
use lib.Seq.{drop-cons}
use Rattle.cheaper.specs.Orders.{from, given, orders, factorial, In}
use Rattle.cheaper.specs.Prices.{sum_to, between, total, price_of, distinct, floor_of, cheapest, tried, chosen}
use Rattle.cheaper.specs.Budget.{cheapest-in, tried-in}
use Rattle.cheaper.specs.Same.{all-order, total-same, cheapest-same}
use Rattle.cheaper.specs.declared.pieces.Piece.{Piece}
use Rattle.cheaper.specs.Board.{no_piece, value_in, things}
use Rattle.cheaper.specs.Past.{sum_same}
use Rattle.cheaper.specs.Search.{sought}
use Rattle.cheaper.proofs.Totals.{all-tried}

module _ (v : ℕ → ℕ → ℕ) (table : List ℕ) (right : (k : ℕ) → k < 64 → get_or table k 0 ≡ between v (k / 8) (k % 8)) where
  at : (x y : ℕ) → x < 8 → y < 8 → get_or table (x * 8 + y) 0 ≡ between v x y
  at x y h k =
      let d : (x * 8 + y) / 8 ≡ x = omega arith in
      let r : (x * 8 + y) % 8 ≡ y = omega arith in
      right (x * 8 + y) (omega arith) ∙ ap (λ (i : ℕ). between v i ((x * 8 + y) % 8)) d ∙ ap (between v x) r

  pub same-price : (n : ℕ) (o : List ℕ) → n ≤ 8 → In o (orders n) → total (λ x y. get_or table (x * 8 + y) 0) o ≡ price_of v o
  same-price n o h m = total-same (λ x y. get_or table (x * 8 + y) 0) (between v) 8 o at (all-order 8 n o h m)

  pub same-choice : (n budget : ℕ) → n ≤ 8 → 0 < budget → sought table n (min budget (factorial n)) ≡ chosen v n budget
  same-choice n budget h p =
      ap (cheapest (total (λ x y. get_or table (x * 8 + y) 0)) (given n)) (all-tried n budget)
      ∙ cheapest-same (total (λ x y. get_or table (x * 8 + y) 0)) (price_of v) (given n) (tried n budget) (λ z m. same-price n z h (tried-in n budget z p m))

  pub chosen-in : (n budget : ℕ) → 0 < budget → In (chosen v n budget) (orders n)
  chosen-in n budget p = tried-in n budget (chosen v n budget) p (cheapest-in (price_of v) (given n) (tried n budget))

-- the things of k pieces from place i on
things-from : (ps : List Piece) (t i k : ℕ) → i + k ≤ length ps → things t (take k (drop i ps)) ≡ map (value_in ps t) (from i k)
unfolding from
things-from ps t i zero h = refl
things-from ps t i (suc k) h =
    ap (λ (l : List Piece). things t (take (suc k) l)) (drop-cons ps i no_piece (omega arith))
    ∙ ap (λ (l : List ℕ). value_in ps t i ∷ l) (things-from ps t (suc i) k (omega arith))

pub floor-is : (ps : List Piece) (n r : ℕ) → n ≤ length ps → r ≡ sum_to 18 (λ t. distinct (things t (take n ps)) - 1) → r ≡ floor_of (value_in ps) n
floor-is ps n r h e =
    e
    ∙ sum_same 18 (λ t. distinct (things t (take n ps)) - 1) (λ t. distinct (map (value_in ps t) (given n)) - 1)
    (λ t. ap (λ (l : List ℕ). distinct l - 1) (things-from ps t 0 n (omega arith)))
