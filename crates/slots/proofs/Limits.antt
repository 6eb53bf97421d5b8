-- Where a number or a sum leaves its field, said without the sum. Assumes nothing.
use Prim.Native.Nat.{ℕ, ◌+◌, ◌-◌, ◌^◌, ◌<◌, ◌≤◌}
use mathlib.Core.Bool.{Bool, true, false, not, ◌&&◌, ◌||◌}
use mathlib.Core.Path.{◌≡◌, refl}
use native.Mathlib.Omega.{arith}
use lib.Dec.{ltb}
use borrow.Author.Tests.{ltb-true, ltb-false, lt-ltb, le-ltb}

other_way : (x y p q : ℕ) → (p < q → y ≤ x) → (q ≤ p → x < y) → ltb x y ≡ not (ltb p q)
other_way x y p q f g = go (ltb p q) refl
  where
    go : (t : Bool) → ltb p q ≡ t → ltb x y ≡ not t
    go true e = le-ltb x y (f (ltb-true p q e))
    go false e = lt-ltb x y (g (ltb-false p q e))

-- a ≥ n, by the last number below n
pub past : (n a : ℕ) → 0 < n → ltb (n - 1) a ≡ not (ltb a n)
past n a p = other_way (n - 1) a a n (λ h. omega arith) (λ h. omega arith)

-- a sum past n, by what is left of n
pub past-sum : (n x a : ℕ) → x < n → ltb ((n - 1) - x) a ≡ not (ltb (x + a) n)
past-sum n x a p = other_way ((n - 1) - x) a (x + a) n (λ h. omega arith) (λ h. omega arith)

pub not-both : (t u : Bool) → (not t || not u) ≡ not (t && u)
not-both true u = refl
not-both false u = refl

pub not-second : (t : Bool) → true ≡ not (t && false)
not-second true = refl
not-second false = refl

bad : {X : Type 0} → true ≡ false → X
bad e = let z : ◌≡◌ {A = ℕ} 0 1 = cc in absurd (omega arith)

-- what the limits of slot i and of an attribute say where they are kept
pub record Fits (product sum n : ℕ) : Type 0 where
  pub product_fits : product < 2 ^ 32
  pub sum_fits : sum < n

pub fits : (product sum n : ℕ) → not (ltb product (2 ^ 32) && ltb sum n) ≡ false → Fits product sum n
fits product sum n e = go (ltb product (2 ^ 32)) refl (ltb sum n) refl e
  where
    go : (t : Bool) → ltb product (2 ^ 32) ≡ t → (u : Bool) → ltb sum n ≡ u → not (t && u) ≡ false → Fits product sum n
    go true p true q e = record { product_fits = ltb-true product (2 ^ 32) p; sum_fits = ltb-true sum n q }
    go true p false q e = bad e
    go false p u q e = bad e
