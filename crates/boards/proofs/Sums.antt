-- Two tests for equality that hold together are one `Bool`. Assumes nothing.
use Prim.Native.Nat.{ℕ}
use mathlib.Core.Path.{◌≡◌, refl, sym}
use mathlib.Core.Bool.{Bool, true, false}
use borrow.Author.Tests.{eqb-true, eqb-false, eq-eqb, ne_eqb}
use lib.Dec.{eqb}

-- equal exactly where the others are
pub same_test : (p q r s : ℕ) → (p ≡ q → r ≡ s) → (r ≡ s → p ≡ q) → eqb p q ≡ eqb r s
same_test p q r s to back = go (eqb p q) refl
  where
    go : (t : Bool) → eqb p q ≡ t → t ≡ eqb r s
    go true e = sym (eq-eqb r s (to (eqb-true p q e)))
    go false e = sym (ne_eqb r s (λ h. eqb-false p q e (back h)))
