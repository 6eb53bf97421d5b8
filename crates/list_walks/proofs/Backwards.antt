-- Facts of `fold_back` and `map_back`.
-- Assumes nothing.
use mathlib.Core.Path.{◌≡◌, refl, ◌∙◌, ap, ap₂, subst, sym}
use mathlib.Core.List.{List, [], ◌∷◌, ◌++◌, append_assoc, append-nil}
use Prim.Native.Nat.{ℕ, suc, ◌-◌, ◌<◌, ◌≤◌}
use native.Mathlib.Omega.{arith}
use lib.ListN.{length, take, drop, get_or, set, length-append, length-drop, take-append-drop, get_or-append}
use lib.Seq.{take-suc, set_at, get_or-take, length-take-le, slice, slice_empty, slice-cons, length-slice}
use Rattle.list_walks.specs.Back.{fold_back, map_back}

module _ {A : Type 0} {X : Type 0} (g : A → ℕ → X → X) (f : A → ℕ → X → A) (a : A) (l : List X) (n : ℕ) where
  pub map_back-length : (i : ℕ) (xs : List X) → length (map_back g f a i xs) ≡ length xs
  unfolding map_back
  map_back-length i [] = refl
  map_back-length i (x ∷ xs) = ap suc (map_back-length (suc i) xs)

  -- the value past the first i elements
  abbrev pub value : ℕ → A
  value i = fold_back f a i (slice i n l)

  -- what is changed past the first i
  abbrev changes : ℕ → List X
  changes i = map_back g f a i (slice i n l)

  -- the list with what is changed past the first i
  abbrev pub changed : ℕ → List X
  changed i = take i l ++ changes i ++ drop n l

  pub value-last : value n ≡ a
  unfolding fold_back
  value-last = ap (fold_back f a n) (slice_empty n l)

  pub value-next : (i : ℕ) (d : X) → i < n → n ≤ length l → value i ≡ f (value (suc i)) i (get_or l i d)
  unfolding fold_back
  value-next i d h k = ap (fold_back f a i) (slice-cons i n l d h k)

  changes-next : (i : ℕ) (d : X) → i < n → n ≤ length l → changes i ≡ g (value (suc i)) i (get_or l i d) ∷ changes (suc i)
  unfolding map_back
  changes-next i d h k = ap (map_back g f a i) (slice-cons i n l d h k)

  pub changed-last : changed n ≡ l
  unfolding map_back
  changed-last = ap (λ (m : List X). take n l ++ map_back g f a n m ++ drop n l) (slice_empty n l) ∙ ap (λ (m : List X). m ++ drop n l) (append-nil (take n l))
      ∙ take-append-drop n l

  pub changed-length : (i : ℕ) → i ≤ n → n ≤ length l → length (changed i) ≡ length l
  changed-length i h k = length-append (take i l ++ changes i) (drop n l) ∙ omega
      (arith, length-append (take i l) (changes i), map_back-length i (slice i n l), length-slice i n l k, length-take-le i l (omega arith), length-drop n l)

  -- the next element is as it was
  pub changed-get_or : (i : ℕ) (d : X) → i < n → n ≤ length l → get_or (changed (suc i)) i d ≡ get_or l i d
  changed-get_or i d h k =
      let less : i < length (take (suc i) l) = omega (arith, length-take-le (suc i) l (omega arith)) in
      ap (λ (m : List X). get_or m i d) (append_assoc (take (suc i) l) (changes (suc i)) (drop n l)) ∙ get_or-append (take (suc i) l) (changes (suc i) ++ drop n l) d i less
      ∙ get_or-take (suc i) l i d (omega arith)

  -- it is changed
  pub changed-next : (i : ℕ) (d : X) (y : X) → i < n → n ≤ length l → y ≡ g (value (suc i)) i (get_or l i d) → set (changed (suc i)) i y ≡ changed i
  changed-next i d y h k e =
      let inside : i < length l = omega arith in
      ap (λ (m : List X). set (m ++ changes (suc i) ++ drop n l) i y) (take-suc l i d inside)
      ∙ ap (λ (m : List X). set m i y) (append_assoc (take i l ++ (get_or l i d ∷ [])) (changes (suc i)) (drop n l) ∙ append_assoc (take i l) (get_or l i d ∷ [])
      (changes (suc i) ++ drop n l))
      ∙ set_at (take i l) (get_or l i d) (changes (suc i) ++ drop n l) y i (length-take-le i l (omega arith))
      ∙ ap (λ (z : X). take i l ++ z ∷ (changes (suc i) ++ drop n l)) e
      ∙ sym (append_assoc (take i l) (g (value (suc i)) i (get_or l i d) ∷ changes (suc i)) (drop n l))
      ∙ ap (λ (m : List X). take i l ++ m ++ drop n l) (sym (changes-next i d h k))

  -- a loop that goes down: b is the value past the first i, and the list is changed there
  abbrev pub Back : A → List X → ℕ → Type 0
  Back b m i = (i ≤ n) × (b ≡ value i) × (m ≡ changed i)

  pub back_none : Back a l n
  back_none = (omega arith, sym value-last, sym changed-last)

  back-next : (b c : A) (m : List X) (i : ℕ) (d y : X) → Back b m (suc i) → n ≤ length l → c ≡ f b i (get_or m i d) → y ≡ g b i (get_or m i d) → Back c (set m i y) i
  back-next b c m i d y h k e e' =
      let read : get_or m i d ≡ get_or l i d = ap (λ (r : List X). get_or r i d) h.2 ∙ changed-get_or i d h.0 k in (
        omega (arith, h.0),
        e ∙ ap₂ (λ (z : A) (x : X). f z i x) h.1 read ∙ sym (value-next i d h.0 k),
        ap (λ (r : List X). set r i y) h.2 ∙ changed-next i d y h.0 k (e' ∙ ap₂ (λ (z : A) (x : X). g z i x) h.1 read),
      )

  pub back-more : (b c : A) (m : List X) (i : ℕ) (d y : X) → Back b m i → 0 < i → n ≤ length l → c ≡ f b (i - 1) (get_or m (i - 1) d) → y ≡ g b (i - 1) (get_or m (i - 1) d)
      → Back c (set m (i - 1) y) (i - 1)
  back-more b c m i d y h less k e e' =
      let one : i ≡ suc (i - 1) = omega arith in
      back-next b c m (i - 1) d y (subst (Back b m) one h) k e e'

  pub back-length : (b : A) (m : List X) (i : ℕ) → Back b m i → n ≤ length l → length m ≡ length l
  back-length b m i h k = ap length h.2 ∙ changed-length i h.0 k

  pub back-end : (b : A) (m : List X) (i : ℕ) → Back b m i → i ≤ 0 → (b ≡ fold_back f a 0 (take n l)) × (m ≡ map_back g f a 0 (take n l) ++ drop n l)
  back-end b m i h low = let e : i ≡ 0 = omega arith in (h.1 ∙ ap value e, h.2 ∙ ap changed e)
