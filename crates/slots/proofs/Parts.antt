-- The element at a place of two lists put together. Assumes nothing.
use Prim.Native.Nat.{ℕ, zero, suc, ◌-◌, ◌≤◌, ◌<◌}
use mathlib.Core.Path.{◌≡◌, sym, ap, ◌∙◌}
use mathlib.Core.List.{List, [], ◌∷◌, ◌++◌}
use native.Mathlib.Nat.{not-suc-le-zero, le_of_suc-le-suc}
use native.Mathlib.Omega.{arith}
use lib.ListN.{length, get_or, length-append, get_or-append}
use Rattle.slots.specs.Place.{Stands}

module _ {A : Type 0} where
  -- in the first list
  pub stands-left : (c : A) (k : ℕ) (xs ys : List A) → k < length xs → Stands c k xs → Stands c k (xs ++ ys)
  stands-left c k xs ys h s l d = s h d ∙ sym (get_or-append xs ys d k h)

  past : (xs ys : List A) (k : ℕ) (d : A) → length xs ≤ k → get_or (xs ++ ys) k d ≡ get_or ys (k - length xs) d
  past [] ys k d h = ap (λ (n : ℕ). get_or ys n d) (omega arith)
  past (x ∷ xs) ys zero d h = absurd (not-suc-le-zero h)
  past (x ∷ xs) ys (suc k) d h = past xs ys k d (le_of_suc-le-suc h) ∙ ap (λ (n : ℕ). get_or ys n d) (omega arith)

  -- past it
  pub stands-right : (c : A) (k : ℕ) (xs ys : List A) → length xs ≤ k → Stands c (k - length xs) ys → Stands c k (xs ++ ys)
  stands-right c k xs ys h s l d = s shorter d ∙ sym (past xs ys k d h)
    where
      shorter : k - length xs < length ys
      shorter = let e = length-append xs ys in omega arith
