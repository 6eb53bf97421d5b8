-- Past the count nothing is looked at: boards that agree at the places below n have the same floor and the same choice, at the same price. Assumes nothing.
use Prim.Native.Nat.{ℕ, zero, suc, ◌+◌, ◌-◌, ◌≤◌, ◌<◌}
use Rattle.std.specs.Prelude.{◌≡◌}
use Rattle.std.proofs.Math.Path.{refl, ap₂}
use Rattle.std.proofs.Common.{ap, arith, le_refl}
use mathlib.Core.List.{List, ◌∷◌, map}
use Rattle.cheaper.specs.Orders.{from, given, orders, In}
use Rattle.cheaper.specs.Prices.{sum_to, differs, between, price_of, distinct, floor_of, tried, chosen}
use Rattle.cheaper.specs.Same.{all-order, total-same, cheapest-same}
use Rattle.cheaper.specs.Budget.{tried-in}

pub sum_same : (n : ℕ) (f g : ℕ → ℕ) → ((t : ℕ) → f t ≡ g t) → sum_to n f ≡ sum_to n g
unfolding sum_to
sum_same zero f g h = refl
sum_same (suc n) f g h = ap₂ (λ (x y : ℕ). x + y) (sum_same n f g h) (h n)

module _ (v w : ℕ → ℕ → ℕ) (n : ℕ) (agree : (t a : ℕ) → a < n → v t a ≡ w t a) where
  between-same : (a b : ℕ) → a < n → b < n → between v a b ≡ between w a b
  between-same a b h l = sum_same 18 (λ t. differs (v t a) (v t b)) (λ t. differs (w t a) (w t b)) (λ t. ap₂ differs (agree t a h) (agree t b l))

  pub price-same : (o : List ℕ) → In o (orders n) → price_of v o ≡ price_of w o
  price-same o m = total-same (between v) (between w) n o between-same (all-order n n o (le_refl n) m)

  values_same : (t i k : ℕ) → i + k ≤ n → map (v t) (from i k) ≡ map (w t) (from i k)
  unfolding from
  values_same t i zero h = refl
  values_same t i (suc k) h = ap₂ (λ (x : ℕ) (l : List ℕ). x ∷ l) (agree t i (omega arith)) (values_same t (suc i) k (omega arith))

  pub floor-same : floor_of v n ≡ floor_of w n
  floor-same =
      sum_same 18 (λ t. distinct (map (v t) (given n)) - 1) (λ t. distinct (map (w t) (given n)) - 1)
      (λ t. ap (λ (l : List ℕ). distinct l - 1) (values_same t 0 n (omega arith)))

  pub chosen-same : (budget : ℕ) → 0 < budget → chosen v n budget ≡ chosen w n budget
  chosen-same budget p = cheapest-same (price_of v) (price_of w) (given n) (tried n budget) (λ z m. price-same z (tried-in n budget z p m))
