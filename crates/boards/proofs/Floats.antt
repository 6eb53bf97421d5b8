-- The two comparisons of floats: by both a float is like itself, and two `f32`s are the same number where they have the same bits, and where both are zeros. Assumes nothing.
use Prim.Native.Nat.{ℕ, zero, suc, ◌*◌, ◌<◌}
use mathlib.Core.Path.{◌≡◌, refl, sym, ap, ap₂, ◌∙◌, subst}
use mathlib.Core.Bool.{Bool, true, false, beq, ◌&&◌, ◌||◌, true≢false, false≢true}
use native.Mathlib.Nat.{mul-one, zero-mul, suc-mul}
use native.Mathlib.Omega.{arith}
use lib.Dec.{T, eqb, lit<}
use lib.IntN.{ℤ, pos}
use lib.Ieee.{Float, nan, inf, fin, binary32, up, down, fits, eq, is_nan, of_bits}
use lib.Ieee.Fits.{down_pos}
use borrow.Author.Tests.{eqb-true, eqb-false, eq-eqb}
use Rattle.numbers.specs.Convert.{bits32}
use Rattle.numbers.specs.Agree.{bits-same}
use Rattle.numbers.specs.Same.{unique}
use Rattle.boards.specs.Alike.{same_bits, same_number, Reflexive}
use Rattle.boards.specs.Remains.{IsF32, is_zero, NotMinusZero}
use Rattle.boards.proofs.Sums.{same_test}

-- ---- a float is like itself
level-self : (n : ℕ) → (eqb n n && true) || false ≡ true
level-self n = ap (λ (t : Bool). (t && true) || false) (eq-eqb n n refl)

pub number-self : Reflexive same_number
unfolding eq is_nan
number-self nan = refl
number-self (inf true) = refl
number-self (inf false) = refl
number-self (fin true m e) = level-self (m * up e * down e)
number-self (fin false m e) = level-self (m * up e * down e)

pub bits-self : Reflexive same_bits
bits-self x = eq-eqb (bits32 x) (bits32 x) refl

-- two that are equal are alike by their bits
not_equal : (x y : Float) → same_bits x y ≡ false → x ≡ y → ⊥
not_equal x y e h = true≢false (sym (subst (λ (z : Float). same_bits x z ≡ true) h (bits-self x)) ∙ e)

-- ---- zeros
times_zero : (a c : ℕ) → 0 < c → eqb (a * c) 0 ≡ eqb a 0
times_zero a c h = same_test (a * c) 0 a 0 (λ e. factor a c h e) (λ e. ap (λ (n : ℕ). n * c) e ∙ zero-mul c)
  where
    factor : (a c : ℕ) → 0 < c → a * c ≡ 0 → a ≡ 0
    factor zero c h e = refl
    factor (suc a) c h e = omega (arith, suc-mul a c, e, h)

either_same : (p q : Bool) → p && (q || p) ≡ p
either_same true true = refl
either_same true false = refl
either_same false q = refl

-- a finite float is a zero where its digits are, at every exponent of the other
zero_is : (s : Bool) (m : ℕ) (e d : ℤ) → is_zero (fin s m e) ≡ eqb (m * up e * down d) 0
unfolding eq of_bits
zero_is s m e d =
    ap₂ (λ (a z : ℕ). eqb a z && (beq s false || eqb a 0)) (mul-one (m * up e)) (zero-mul (down e))
    ∙ either_same (eqb (m * up e) 0) (beq s false)
    ∙ sym (times_zero (m * up e) (down d) (down_pos d))

-- ---- the same number
no_second : (p : Bool) → false ≡ p && false
no_second true = refl
no_second false = refl

same_sign : (s t : Bool) → beq s t ≡ true → t ≡ s
same_sign true true e = refl
same_sign true false e = absurd (false≢true e)
same_sign false true e = absurd (false≢true e)
same_sign false false e = refl

-- two sizes a and b, of the same sign (q) only where they differ
levels : (a b : ℕ) (q : Bool) → (q ≡ true → a ≡ b → ⊥) → (eqb a b && (q || eqb a 0)) || false ≡ eqb a 0 && eqb b 0
levels a b q h = go (eqb a b) refl (eqb a 0) refl (eqb b 0) refl q refl
  where
    go : (t : Bool) → eqb a b ≡ t → (u : Bool) → eqb a 0 ≡ u → (v : Bool) → eqb b 0 ≡ v → (p : Bool) → q ≡ p → (t && (p || u)) || false ≡ u && v
    go true e true f true g true i = refl
    go true e true f true g false i = refl
    go true e true f false g p i = absurd (eqb-false b 0 g (sym (eqb-true a b e) ∙ eqb-true a 0 f))
    go true e false f v g true i = absurd (h i (eqb-true a b e))
    go true e false f v g false i = refl
    go false e true f true g p i = absurd (eqb-false a b e (eqb-true a 0 f ∙ sym (eqb-true b 0 g)))
    go false e true f false g p i = refl
    go false e false f v g p i = refl

-- where the bits differ only zeros are the same number
zeros-alone : (x y : Float) → IsF32 x → IsF32 y → same_bits x y ≡ false → same_number x y ≡ is_zero x && is_zero y
unfolding eq is_nan of_bits
zeros-alone nan nan F G e = absurd (not_equal nan nan e refl)
zeros-alone nan (inf t) F G e = refl
zeros-alone nan (fin t n d) F G e = refl
zeros-alone (inf s) nan F G e = refl
zeros-alone (inf true) (inf true) F G e = absurd (not_equal (inf true) (inf true) e refl)
zeros-alone (inf true) (inf false) F G e = refl
zeros-alone (inf false) (inf true) F G e = refl
zeros-alone (inf false) (inf false) F G e = absurd (not_equal (inf false) (inf false) e refl)
zeros-alone (inf s) (fin t n d) F G e = refl
zeros-alone (fin s m c) nan F G e = no_second (is_zero (fin s m c))
zeros-alone (fin s m c) (inf t) F G e = no_second (is_zero (fin s m c))
zeros-alone (fin s m c) (fin t n d) F G e =
    levels (m * up c * down d) (n * up d * down c) (beq s t) equal ∙ sym (ap₂ (λ (p q : Bool). p && q) (zero_is s m c d) (zero_is t n d c))
  where
    equal : beq s t ≡ true → m * up c * down d ≡ n * up d * down c → ⊥
    equal f h =
        not_equal (fin s m c) (fin t n d) e
        (unique binary32 (fin s m c) (fin t n d) s (m * up c) (down c) (down_pos c) F G (refl, refl) (same_sign s t f, sym h))

pub as-numbers : (x y : Float) → IsF32 x → IsF32 y → same_number x y ≡ same_bits x y || (is_zero x && is_zero y)
as-numbers x y F G = go (same_bits x y) refl
  where
    go : (t : Bool) → same_bits x y ≡ t → same_number x y ≡ t || (is_zero x && is_zero y)
    go true e = subst (λ (z : Float). same_number x z ≡ true) (bits-same x y F G (eqb-true (bits32 x) (bits32 y) e)) (number-self x)
    go false e = zeros-alone x y F G e

-- the comparison by bits is the finer one
pub finer : (x y : Float) → IsF32 x → IsF32 y → same_bits x y ≡ true → same_number x y ≡ true
finer x y F G e = as-numbers x y F G ∙ ap (λ (t : Bool). t || (is_zero x && is_zero y)) e

-- ---- where neither is a minus zero, they are the same comparison
plus-zero : (x : Float) → IsF32 x → NotMinusZero x → is_zero x ≡ true → x ≡ of_bits binary32 0
unfolding eq of_bits fits
plus-zero nan F n z = absurd (false≢true z)
plus-zero (inf s) F n z = absurd (false≢true z)
plus-zero (fin s m e) F n z = go s F n (the_zero s)
  where
    nothing : m * up e * down (pos 0) ≡ 0
    nothing = eqb-true (m * up e * down (pos 0)) 0 (sym (zero_is s m e (pos 0)) ∙ z)

    the_zero : (t : Bool) → T (fits binary32 (fin t m e)) → fin t m e ≡ fin t 0 (pos 0)
    the_zero t G = unique binary32 (fin t m e) (fin t 0 (pos 0)) t 0 1 (lit< tt) G tt (refl, nothing ∙ sym (zero-mul (down e))) (refl, refl)

    go : (t : Bool) → T (fits binary32 (fin t m e)) → NotMinusZero (fin t m e) → (T (fits binary32 (fin t m e)) → fin t m e ≡ fin t 0 (pos 0)) → fin t m e ≡ fin false 0 (pos 0)
    go false G k h = h G
    go true G k h = absurd (not_equal (fin true m e) (fin true 0 (pos 0)) k (h G))

pub as_bits : (x y : Float) → IsF32 x → IsF32 y → NotMinusZero x → NotMinusZero y → same_number x y ≡ same_bits x y
as_bits x y F G m n = as-numbers x y F G ∙ go (same_bits x y) refl (is_zero x) refl (is_zero y) refl
  where
    go : (t : Bool) → same_bits x y ≡ t → (p : Bool) → is_zero x ≡ p → (q : Bool) → is_zero y ≡ q → t || (p && q) ≡ t
    go true e p f q g = refl
    go false e true f true g = absurd (not_equal x y e (plus-zero x F m f ∙ sym (plus-zero y G n g)))
    go false e true f false g = refl
    go false e false f q g = refl
