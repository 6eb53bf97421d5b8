-- A list gone through from its counted end to its beginning: what is behind the place `left` is `drop left (take count l)`. Assumes nothing.
-- `none-behind`: at the counted end nothing is behind.
-- `one-behind`, `one-counted`: a step back puts the element there before what is behind, in a whole list and in the counted part of one.
-- `next-counted`: the counted part from a place on is the element there and the part from the next place on.
-- `one-if-counted`: the same of a property of some element, where the counted part may end before the place.
use Prim.Native.Nat.{ℕ, suc, ◌-◌, ◌≤◌, ◌<◌, min}
use mathlib.Core.Path.{◌≡◌, ap, ◌∙◌, refl}
use mathlib.Core.Bool.{Bool, true, false, ◌&&◌, ◌||◌}
use mathlib.Core.List.{List, [], ◌∷◌}
use native.Mathlib.Omega.{arith}
use borrow.Author.Tests.{ltb-true, ltb-false}
use lib.Dec.{ltb}
use lib.ListN.{length, take, drop, get_or, length-take, drop_of_length-le}
use lib.Seq.{drop-cons, get_or-take}
use Rattle.records.specs.Check.{some?}

module _ {A : Type 0} (l : List A) where
  pub none-behind : (count n : ℕ) → length l ≡ n → drop (min count n) (take count l) ≡ []
  none-behind count n e = drop_of_length-le (take count l) {i = min count n} (omega (arith, length-take count l))

  pub one-behind : (left : ℕ) (d : A) → 0 < left → left ≤ length l → drop (left - 1) l ≡ get_or l (left - 1) d ∷ drop left l
  one-behind left d h k =
      let e : suc (left - 1) ≡ left = omega arith in
      drop-cons l (left - 1) d (omega arith) ∙ ap (λ (i : ℕ). get_or l (left - 1) d ∷ drop i l) e

pub next-counted : {A : Type 0} (l : List A) (count n i : ℕ) (d : A) → length l ≡ n → i < min count n
    → drop i (take count l) ≡ get_or l i d ∷ drop (suc i) (take count l)
next-counted l count n i d e h =
    drop-cons (take count l) i d (omega (arith, length-take count l))
    ∙ ap (λ (x : _). x ∷ drop (suc i) (take count l)) (get_or-take count l i d (omega arith))

pub one-counted : {A : Type 0} (l : List A) (count n left : ℕ) (d : A) → length l ≡ n → 0 < left → left ≤ min count n
    → drop (left - 1) (take count l) ≡ get_or l (left - 1) d ∷ drop left (take count l)
one-counted l count n left d e h k =
    let z : suc (left - 1) ≡ left = omega arith in
    next-counted l count n (left - 1) d e (omega arith) ∙ ap (λ (i : ℕ). get_or l (left - 1) d ∷ drop i (take count l)) z

pub one-if-counted : {A : Type 0} (f : A → Bool) (l : List A) (count left : ℕ) (d : A) → 0 < left → left ≤ length l
    → some? f (drop (left - 1) (take count l)) ≡ (ltb (left - 1) count && f (get_or l (left - 1) d)) || some? f (drop left (take count l))
unfolding some?
one-if-counted f l count left d h k = go (ltb (left - 1) count) refl
  where
    go : (t : Bool) → ltb (left - 1) count ≡ t → some? f (drop (left - 1) (take count l)) ≡ (t && f (get_or l (left - 1) d)) || some? f (drop left (take count l))
    go true e = rw (one-counted l count (length l) left d refl h (omega (arith, ltb-true (left - 1) count e)))
    go false e =
        let over : count ≤ left - 1 = ltb-false (left - 1) count e in
        rw (
          drop_of_length-le (take count l) {i = left - 1} (omega (arith, length-take count l)),
          drop_of_length-le (take count l) {i = left} (omega (arith, length-take count l)),
        )
