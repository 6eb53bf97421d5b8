-- Whole numbers of an `i32` and of a `u32`, and their sums. Assumes nothing.
-- `fits-wide`, `back-wide`: an `i32` as an `i64`. `sum_fits`, `sum_back`: the sum as an `i64`. `sum_low`: a sum that is not past an `i32` fits one.
use Prim.Native.Nat.{ℕ, suc, ◌+◌, ◌-◌, ◌<◌, ◌^◌}
use mathlib.Core.Bool.{Bool, true, false, cond, true≢false}
use mathlib.Core.Path.{◌≡◌, refl, sym, ap, ap₂, ◌∙◌, subst}
use native.Mathlib.Omega.{arith}
use lib.Dec.{ltb}
use lib.IntN.{ℤ, pos, negsuc, ◌+ℤ◌}
use lib.Signed.{mag, lt_z}
use mir.Syntax.{w32, w64}
use mir.Val.{SFits, to_z, of_z}
use mir.ValLaws.{to_z-of_z, to_z_pos}
use borrow.Author.Tests.{ltb-false, le-ltb}

-- what the machine reads back of a number's bits
abbrev pub back : ℤ → ℤ
back z = to_z w32 (of_z w32 z)

abbrev pub back64 : ℤ → ℤ
back64 z = to_z w64 (of_z w64 z)

wide : (z : ℤ) → SFits w32 z → SFits w64 z
wide z f = let h : mag z < 2 ^ 31 = f.sfits in record { sfits = omega arith }

pub fits-wide : (z : ℤ) → SFits w32 z → SFits w64 (back z)
fits-wide z f = subst (λ (y : ℤ). SFits w64 y) (sym (to_z-of_z w32 z f)) (wide z f)

pub back-wide : (z : ℤ) → SFits w32 z → back64 (back z) ≡ z
back-wide z f = to_z-of_z w64 (back z) (fits-wide z f) ∙ to_z-of_z w32 z f

sum-wide : (z : ℤ) (n : ℕ) → mag z < 2 ^ 31 → n < 2 ^ 32 → mag (z +ℤ pos n) < 2 ^ 63
sum-wide (pos a) n h k = omega arith
sum-wide (negsuc a) n h k = go (ltb n (suc a))
  where
    go : (t : Bool) → mag (cond t (negsuc (suc a - suc n)) (pos (n - suc a))) < 2 ^ 63
    go true = omega arith
    go false = omega arith

module _ (z : ℤ) (n : ℕ) (f : SFits w32 z) (k : n < 2 ^ 32) where
  is : back64 (back z) +ℤ to_z w64 n ≡ z +ℤ pos n
  is = ap₂ (λ (x y : ℤ). x +ℤ y) (back-wide z f) (to_z_pos w64 n (omega arith))

  pub sum_fits : SFits w64 (back64 (back z) +ℤ to_z w64 n)
  sum_fits = subst (λ (y : ℤ). SFits w64 y) (sym is) (record { sfits = sum-wide z n f.sfits k })

  pub sum_back : back64 (back64 (back z) +ℤ to_z w64 n) ≡ z +ℤ pos n
  sum_back = to_z-of_z w64 (back64 (back z) +ℤ to_z w64 n) sum_fits ∙ is

pub sum_low : (z : ℤ) (n : ℕ) → mag z < 2 ^ 31 → lt_z (pos (2 ^ 31 - 1)) (z +ℤ pos n) ≡ false → mag (z +ℤ pos n) < 2 ^ 31
sum_low (pos a) n h e = omega (arith, ltb-false (2 ^ 31 - 1) (a + n) e)
sum_low (negsuc a) n h e = go (ltb n (suc a)) e
  where
    go : (t : Bool) → lt_z (pos (2 ^ 31 - 1)) (cond t (negsuc (suc a - suc n)) (pos (n - suc a))) ≡ false
        → mag (cond t (negsuc (suc a - suc n)) (pos (n - suc a))) < 2 ^ 31
    go true k = omega arith
    go false k = omega (arith, ltb-false (2 ^ 31 - 1) (n - suc a) k)

-- the tests against the two ends of an `i32`
ltz-high : (z : ℤ) → mag z < 2 ^ 31 → lt_z (pos 2147483647) z ≡ false
ltz-high (pos a) h = le-ltb 2147483647 a (omega arith)
ltz-high (negsuc a) h = refl

ltz-low : (z : ℤ) → mag z < 2 ^ 31 → lt_z z (negsuc 2147483647) ≡ false
ltz-low (pos a) h = refl
ltz-low (negsuc a) h = le-ltb 2147483647 a (omega arith)

pub ends : (z : ℤ) → lt_z (pos 2147483647) z ≡ false → lt_z z (negsuc 2147483647) ≡ false → SFits w32 z
ends (pos a) e k = record { sfits = omega (arith, ltb-false 2147483647 a e) }
ends (negsuc a) e k = record { sfits = omega (arith, ltb-false 2147483647 a k) }

module _ (z : ℤ) (f : SFits w64 z) where
  pub not-above : mag z < 2 ^ 31 → lt_z (pos 2147483647) (back64 z) ≡ true → ⊥
  not-above h e = true≢false (sym e ∙ ap (lt_z (pos 2147483647)) (to_z-of_z w64 z f) ∙ ltz-high z h)

  pub not-below : mag z < 2 ^ 31 → lt_z (back64 z) (negsuc 2147483647) ≡ true → ⊥
  not-below h e = true≢false (sym e ∙ ap (λ (y : ℤ). lt_z y (negsuc 2147483647)) (to_z-of_z w64 z f) ∙ ltz-low z h)

pub whole-low : (t : Bool) (z : ℤ) (n : ℕ) → mag z < 2 ^ 31 → lt_z (pos (2 ^ 31 - 1)) (cond t (z +ℤ pos n) z) ≡ false → mag (cond t (z +ℤ pos n) z) < 2 ^ 31
whole-low true z n h e = sum_low z n h e
whole-low false z n h e = h

-- what `low` gives, read back
pub low-back : (w r l : ℤ) → r ≡ w → mag w < 2 ^ 31 → (mag (back64 r) < 2 ^ 31 → l ≡ back64 r) → back l ≡ w
low-back w r l e h f =
    let k : back64 r ≡ w = ap back64 e ∙ to_z-of_z w64 w (record { sfits = omega arith }) in
    ap back (f (subst (λ (y : ℤ). mag y < 2 ^ 31) (sym k) h) ∙ k) ∙ to_z-of_z w32 w (record { sfits = h })
