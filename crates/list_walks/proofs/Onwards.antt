-- Facts of `map_on`.
-- Assumes nothing.
use mathlib.Core.Path.{◌≡◌, refl, ◌∙◌, ap, ap₂, sym}
use mathlib.Core.List.{List, [], ◌∷◌, ◌++◌}
use Prim.Native.Nat.{ℕ, suc, ◌+◌, ◌<◌, ◌≤◌}
use native.Mathlib.Nat.{add-zero, add-suc, suc-add, zero-add}
use native.Mathlib.Numerals.{add-one}
use native.Mathlib.Omega.{arith}
use lib.ListN.{length, take, drop, get_or, set}
use lib.Seq.{take-suc, length-take-le}
use Rattle.list_walks.specs.Fold.{fold_at}
use Rattle.list_walks.specs.On.{map_on}
use Rattle.list_walks.specs.Sift.{over}
use Rattle.list_walks.proofs.Folded.{fold_more}
use Rattle.list_walks.proofs.Sifted.{over-length, over-get_or, over-more}

module _ {A : Type 0} {X : Type 0} (g : A → ℕ → X → X) (f : A → ℕ → X → A) where
  on-length : (a : A) (i : ℕ) (xs : List X) → length (map_on g f a i xs) ≡ length xs
  unfolding map_on
  on-length a i [] = refl
  on-length a i (x ∷ xs) = ap suc (on-length (f a i x) (suc i) xs)

  on-more : (a : A) (i : ℕ) (xs : List X) (x : X) → map_on g f a i (xs ++ (x ∷ [])) ≡ map_on g f a i xs ++ (g (fold_at f a i xs) (i + length xs) x ∷ [])
  unfolding map_on fold_at
  on-more a i [] x = ap (λ (k : ℕ). g a k x ∷ []) (sym (add-zero i))
  on-more a i (y ∷ ys) x = ap (λ (m : List X). g a i y ∷ m) (on-more (f a i y) (suc i) ys x
      ∙ ap (λ (k : ℕ). map_on g f (f a i y) (suc i) ys ++ (g (fold_at f (f a i y) (suc i) ys) k x ∷ [])) (suc-add i (length ys) ∙ sym (add-suc i (length ys))))

  module _ (a : A) (l : List X) where
    abbrev pub value : ℕ → A
    value i = fold_at f a 0 (take i l)

    -- the list with the first i changed
    abbrev pub changed : ℕ → List X
    changed i = over (map_on g f a 0 (take i l)) l

    count : (i : ℕ) → i ≤ length l → length (map_on g f a 0 (take i l)) ≡ i
    count i h = on-length a 0 (take i l) ∙ length-take-le i l h

    pub value-next : (i : ℕ) (d : X) → i < length l → value (i + 1) ≡ f (value i) i (get_or l i d)
    value-next i d h =
        ap (λ (m : ℕ). value m) (add-one i) ∙ ap (fold_at f a 0) (take-suc l i d h) ∙ fold_more f a 0 (take i l) (get_or l i d)
        ∙ ap (λ (k : ℕ). f (value i) k (get_or l i d)) (zero-add (length (take i l)) ∙ length-take-le i l (omega arith))

    pub changed-length : (i : ℕ) → i ≤ length l → length (changed i) ≡ length l
    changed-length i h = over-length l (map_on g f a 0 (take i l)) (omega (arith, count i h))

    pub changed-get_or : (i : ℕ) (d : X) → i < length l → get_or (changed i) i d ≡ get_or l i d
    changed-get_or i d h = over-get_or l (map_on g f a 0 (take i l)) i d (omega (arith, count i (omega arith)))

    pub changed-next : (i : ℕ) (d : X) (y : X) → i < length l → y ≡ g (value i) i (get_or l i d) → set (changed i) i y ≡ changed (i + 1)
    changed-next i d y h e =
        ap (λ (k : ℕ). set (changed i) k y) (sym (count i (omega arith))) ∙ over-more l (map_on g f a 0 (take i l)) y (omega (arith, count i (omega arith)))
        ∙ ap (λ (m : List X). over m l) (ap (λ (z : X). map_on g f a 0 (take i l) ++ (z ∷ []))
        (e ∙ ap (λ (k : ℕ). g (value i) k (get_or l i d)) (sym (zero-add (length (take i l)) ∙ length-take-le i l (omega arith)))) ∙ sym (on-more a 0 (take i l) (get_or l i d)) ∙ ap
        (map_on g f a 0) (sym (take-suc l i d h)))
        ∙ ap (λ (m : ℕ). changed m) (sym (add-one i))

    -- a loop that goes up: b is the value of the first i, and these are changed; it ends at n
    abbrev pub On : ℕ → A → List X → ℕ → Type 0
    On n b m i = (i ≤ n) × (b ≡ value i) × (m ≡ changed i)

    pub on-none : (n : ℕ) → On n a l 0
    unfolding fold_at map_on
    on-none n = (omega arith, refl, refl)

    pub on-next : (n : ℕ) (b c : A) (m : List X) (i : ℕ) (d y : X) → On n b m i → i < n → n ≤ length l → c ≡ f b i (get_or m i d) → y ≡ g b i (get_or m i d)
        → On n c (set m i y) (i + 1)
    on-next n b c m i d y h less k e e' =
        let inside : i < length l = omega arith in
        let read : get_or m i d ≡ get_or l i d = ap (λ (r : List X). get_or r i d) h.2 ∙ changed-get_or i d inside in (
          omega arith,
          e ∙ ap₂ (λ (z : A) (x : X). f z i x) h.1 read ∙ sym (value-next i d inside),
          ap (λ (r : List X). set r i y) h.2 ∙ changed-next i d y inside (e' ∙ ap₂ (λ (z : A) (x : X). g z i x) h.1 read),
        )

    pub on-end : (n : ℕ) (b : A) (m : List X) (i : ℕ) → On n b m i → n ≤ i → (b ≡ value n) × (m ≡ changed n)
    on-end n b m i h past = let e : i ≡ n = omega (arith, h.0) in (h.1 ∙ ap value e, h.2 ∙ ap changed e)

    pub changed-is : (n : ℕ) → n ≤ length l → changed n ≡ map_on g f a 0 (take n l) ++ drop n l
    changed-is n h = ap (λ (k : ℕ). map_on g f a 0 (take n l) ++ drop k l) (count n h)
