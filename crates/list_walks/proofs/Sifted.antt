-- Facts of `sifted`, and of `over`.
-- Assumes nothing.
use mathlib.Core.Path.{◌≡◌, refl, ◌∙◌, ap, ap₂, sym}
use mathlib.Core.Bool.{Bool, true, false, not}
use mathlib.Core.List.{List, [], ◌∷◌, ◌++◌, append_assoc, append-nil}
use Prim.Native.Nat.{ℕ, suc, ◌+◌, ◌-◌, ◌<◌, ◌≤◌}
use native.Mathlib.Numerals.{add-one}
use native.Mathlib.Omega.{arith}
use lib.Dec.{T}
use lib.ListN.{length, take, drop, get_or, set, length-append, length-drop}
use lib.Seq.{take-suc, drop-cons, set_at, get_or-drop, get_or-append-add, length-take-le}
use Rattle.list_walks.specs.Sift.{put_if, sifted, over}

pub is_true : (t : Bool) → T t → t ≡ true
is_true true h = refl
is_true false h = absurd h

pub is_false : (t : Bool) → T (not t) → t ≡ false
is_false true h = absurd h
is_false false h = refl

module _ {X : Type 0} (keep : X → Bool) where
  put-append : (t : Bool) (x : X) (xs ys : List X) → put_if t x (xs ++ ys) ≡ put_if t x xs ++ ys
  put-append true x xs ys = refl
  put-append false x xs ys = refl

  pub sift-more : (xs : List X) (x : X) → sifted keep (xs ++ (x ∷ [])) ≡ sifted keep xs ++ put_if (keep x) x []
  unfolding sifted
  sift-more [] x = refl
  sift-more (y ∷ ys) x = ap (put_if (keep y) y) (sift-more ys x) ∙ put-append (keep y) y _ _

  put-short : (t : Bool) (x : X) (xs : List X) (n : ℕ) → length xs ≤ n → length (put_if t x xs) ≤ suc n
  put-short true x xs n h = omega arith
  put-short false x xs n h = omega arith

  pub sift-short : (xs : List X) → length (sifted keep xs) ≤ length xs
  unfolding sifted
  sift-short [] = omega arith
  sift-short (x ∷ xs) = put-short (keep x) x _ (length xs) (sift-short xs)

  module _ (l : List X) where
    -- what is kept of the first i
    abbrev pub kept : ℕ → List X
    kept i = sifted keep (take i l)

    kept_next : (i : ℕ) (d : X) → i < length l → kept (i + 1) ≡ kept i ++ put_if (keep (get_or l i d)) (get_or l i d) []
    kept_next i d h = ap (λ (m : ℕ). kept m) (add-one i) ∙ ap (sifted keep) (take-suc l i d h) ∙ sift-more (take i l) (get_or l i d)

    pub kept_more : (i : ℕ) (d : X) → i < length l → keep (get_or l i d) ≡ true → kept (i + 1) ≡ kept i ++ (get_or l i d ∷ [])
    kept_more i d h e = kept_next i d h ∙ ap (λ (t : Bool). kept i ++ put_if t (get_or l i d) []) e

    pub kept_same : (i : ℕ) (d : X) → i < length l → keep (get_or l i d) ≡ false → kept (i + 1) ≡ kept i
    kept_same i d h e = kept_next i d h ∙ ap (λ (t : Bool). kept i ++ put_if t (get_or l i d) []) e ∙ append-nil (kept i)

    pub kept-short : (i : ℕ) → i ≤ length l → length (kept i) ≤ i
    kept-short i h = omega (arith, sift-short (take i l), length-take-le i l h)

-- ---- `over`
module _ {X : Type 0} (l : List X) where
  pub over-length : (ks : List X) → length ks ≤ length l → length (over ks l) ≡ length l
  over-length ks h = length-append ks (drop (length ks) l) ∙ omega (arith, length-drop (length ks) l)

  -- past ks the list is as it was
  pub over-get_or : (ks : List X) (i : ℕ) (d : X) → length ks ≤ i → get_or (over ks l) i d ≡ get_or l i d
  over-get_or ks i d h =
      let place : length ks + (i - length ks) ≡ i = omega arith in
      ap (λ (m : ℕ). get_or (over ks l) m d) (sym place) ∙ get_or-append-add ks (drop (length ks) l) (i - length ks) d ∙ get_or-drop (length ks) l (i - length ks) d ∙ ap
      (λ (m : ℕ). get_or l m d) place

  -- one more in front
  pub over-more : (ks : List X) (x : X) → length ks < length l → set (over ks l) (length ks) x ≡ over (ks ++ (x ∷ [])) l
  over-more ks x h =
      ap (λ (m : List X). set (ks ++ m) (length ks) x) (drop-cons l (length ks) x h) ∙ set_at ks _ (drop (suc (length ks)) l) x (length ks) refl
      ∙ sym (append_assoc ks (x ∷ []) (drop (suc (length ks)) l)) ∙ ap (λ (m : ℕ). (ks ++ (x ∷ [])) ++ drop m l) (sym (snoc-length ks x))
    where
      snoc-length : (ks : List X) (x : X) → length (ks ++ (x ∷ [])) ≡ suc (length ks)
      snoc-length ks x = length-append ks (x ∷ []) ∙ omega arith

-- ---- a loop that moves what is kept to the front: of the first i these are j, and stand there; it ends at n
module _ {X : Type 0} (keep : X → Bool) (l : List X) (n : ℕ) where
  abbrev pub Retained : List X → ℕ → ℕ → Type 0
  Retained m j i = (i ≤ n) × (j ≡ length (kept keep l i)) × (m ≡ over (kept keep l i) l)

  pub retained_none : Retained l 0 0
  unfolding sifted
  retained_none = (omega arith, refl, refl)

  pub retained_short : (m : List X) (j i : ℕ) → Retained m j i → n ≤ length l → j ≤ i
  retained_short m j i h k = omega (arith, h.0, h.1, kept-short keep l i (omega (arith, h.0)))

  pub retained_length : (m : List X) (j i : ℕ) → Retained m j i → n ≤ length l → length m ≡ length l
  retained_length m j i h k = ap length h.2 ∙ over-length l (kept keep l i) (omega (arith, h.0, kept-short keep l i (omega (arith, h.0))))

  pub retained-get_or : (m : List X) (j i : ℕ) (d : X) → Retained m j i → n ≤ length l → get_or m i d ≡ get_or l i d
  retained-get_or m j i d h k = ap (λ (r : List X). get_or r i d) h.2 ∙ over-get_or l (kept keep l i) i d (kept-short keep l i (omega (arith, h.0)))

  -- it is kept
  pub retained_more : (m : List X) (j i : ℕ) (d : X) → Retained m j i → i < n → n ≤ length l → keep (get_or m i d) ≡ true
      → Retained (set m j (get_or m i d)) (j + 1) (i + 1)
  retained_more m j i d h less k e =
      let inside : i < length l = omega arith in
      let x = get_or l i d in
      let read = retained-get_or m j i d h k in
      let next = kept_more keep l i d inside (ap keep (sym read) ∙ e) in
      let low : length (kept keep l i) < length l = omega (arith, kept-short keep l i (omega arith)) in (
        omega arith,
        omega (arith, h.1, ap length next, length-append (kept keep l i) (x ∷ [])),
        ap (set m j) read ∙ ap₂ (λ (r : List X) (p : ℕ). set r p x) h.2 h.1 ∙ over-more l (kept keep l i) x low ∙ ap (λ (ks : List X). over ks l) (sym next),
      )

  -- it is not
  pub retained_same : (m : List X) (j i : ℕ) (d : X) → Retained m j i → i < n → n ≤ length l → keep (get_or m i d) ≡ false → Retained m j (i + 1)
  retained_same m j i d h less k e =
      let same = kept_same keep l i d (omega arith) (ap keep (sym (retained-get_or m j i d h k)) ∙ e) in
      (omega arith, h.1 ∙ ap length (sym same), h.2 ∙ ap (λ (ks : List X). over ks l) (sym same))

  pub retained_end : (m : List X) (j i : ℕ) → Retained m j i → n ≤ i → (j ≡ length (sifted keep (take n l))) × (m ≡ over (sifted keep (take n l)) l)
  retained_end m j i h past =
      let e : i ≡ n = omega (arith, h.0) in
      (h.1 ∙ ap (λ (p : ℕ). length (kept keep l p)) e, h.2 ∙ ap (λ (p : ℕ). over (kept keep l p) l) e)
