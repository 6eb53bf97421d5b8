-- The elements of a list that pass a test, each turned into what its place gives: by a mask of the places. Assumes nothing.
-- `gather-places`: they are those at the mask's places, in order. `gather-count`: how many. `gather-next`: one element more. `some-places`: whether there is one.
use Prim.Native.Nat.{ℕ, zero, suc, ◌+◌, ◌*◌, ◌^◌, ◌≤◌, ◌<◌}
use Rattle.std.specs.Prelude.{◌≡◌, Bool, true, false, not, ◌||◌, length, take, eqb}
use Rattle.std.proofs.Math.Path.{refl, ap}
use Rattle.std.proofs.Common.{sym, ◌∙◌, not-suc-le-zero, le_of_suc-le-suc, lt_of_lt_of_le, add-zero, add-suc, suc-add, zero-add, arith, pow_mono, ne_eqb}
use Rattle.std.proofs.Math.Bool.{cond}
use mathlib.Core.List.{List, [], ◌∷◌, ◌++◌, map}
use Rattle.std.specs.Int.Count.{ones}
use Rattle.std.proofs.Math.ListN.{get_or}
use Rattle.std.proofs.lemmas.List.{length-map}
use Rattle.tables.specs.Tabulate.{tabulate}
use Rattle.mask.specs.Mask.{digit_of, mask_of, cons?, places_from, places}
use Rattle.mask.specs.Laws.{odd-mask, half-mask, places-none, ones-places}
use Rattle.mask.specs.By.{mask_by, by-lt}
use Rattle.records.specs.Check.{some?}

unfoldable pub gather : {A B : Type 0} → (ℕ → A → Bool) → (ℕ → A → B) → ℕ → List A → List B
gather f g i [] = []
gather f g i (a ∷ l) = cond (f i a) (g i a ∷ gather f g (suc i) l) (gather f g (suc i) l)

one_more : (k i : ℕ) (b : Bool) (bs : List Bool) → places_from (suc k) i (mask_of (b ∷ bs)) ≡ cons? b i (places_from k (suc i) (mask_of bs))
unfolding places_from
one_more k i b bs = rw (odd-mask b bs, half-mask b bs)

none_of : (n : ℕ) (F : ℕ → Bool) → ((j : ℕ) → F j ≡ false) → mask_of (tabulate n F) ≡ 0
unfolding mask_of tabulate
none_of zero F h = refl
none_of (suc n) F h = rw (h 0, none_of n (λ j. F (suc j)) (λ j. h (suc j)))

next : (i j : ℕ) → i + suc j ≡ suc i + j
next i j = add-suc i j ∙ sym (suc-add i j)

module _ {A B : Type 0} (f : ℕ → A → Bool) (g : ℕ → A → B) (d : A) (out : (i : ℕ) → f i d ≡ false) where
  kept : (n k i : ℕ) (l : List A) (F : ℕ → Bool) (G : ℕ → B) → length l ≤ n → n ≤ k → ((j : ℕ) → F j ≡ f (i + j) (get_or l j d)) → ((j : ℕ) → g (i + j) (get_or l j d) ≡ G (i + j))
      → gather f g i l ≡ map G (places_from k i (mask_of (tabulate n F)))
  unfolding gather tabulate
  kept n k i [] F G h w e q = rw (none_of n F (λ j. e j ∙ ap (f (i + j)) (nothing j) ∙ out (i + j)), places-none k i)
    where
      nothing : (j : ℕ) → get_or [] j d ≡ d
      nothing zero = refl
      nothing (suc j) = refl
  kept zero k i (a ∷ l) F G h w e q = absurd (not-suc-le-zero h)
  kept (suc n) zero i (a ∷ l) F G h w e q = absurd (not-suc-le-zero w)
  kept (suc n) (suc k) i (a ∷ l) F G h w e q =
      go (f i a) (F 0) (e 0 ∙ ap (λ (m : ℕ). f m a) (add-zero i))
      (kept n k (suc i) l (λ j. F (suc j)) G (le_of_suc-le-suc h) (le_of_suc-le-suc w)
      (λ j. e (suc j) ∙ ap (λ (m : ℕ). f m (get_or l j d)) (next i j))
      (λ j. ap (λ (m : ℕ). g m (get_or l j d)) (sym (next i j)) ∙ q (suc j) ∙ ap G (next i j)))
    where
      first : g i a ≡ G i
      first = ap (λ (m : ℕ). g m a) (sym (add-zero i)) ∙ q 0 ∙ ap G (add-zero i)

      rest : List Bool
      rest = tabulate n (λ j. F (suc j))

      go : (b c : Bool) → c ≡ b → gather f g (suc i) l ≡ map G (places_from k (suc i) (mask_of rest))
          → cond b (g i a ∷ gather f g (suc i) l) (gather f g (suc i) l) ≡ map G (places_from (suc k) i (mask_of (c ∷ rest)))
      go true c s ih = rw (s, one_more k i true rest, ih, first)
      go false c s ih = rw (s, one_more k i false rest) ih

  module _ (n : ℕ) (l : List A) (short : length l ≤ n) (few : n ≤ 32) where
    abbrev pub gather_mask : ℕ
    gather_mask = mask_by n (λ j. f j (get_or l j d))

    abbrev pub gather_at : ℕ → B
    gather_at j = g j (get_or l j d)

    mask_fits : gather_mask < 2 ^ 32
    mask_fits = lt_of_lt_of_le (by-lt n (λ j. f j (get_or l j d))) (pow_mono few)

    pub gather-places : gather f g 0 l ≡ map gather_at (places gather_mask)
    unfolding mask_by
    gather-places =
        kept n 32 0 l (λ j. f j (get_or l j d)) gather_at short few (λ j. ap (λ (m : ℕ). f m (get_or l j d)) (sym (zero-add j)))
        (λ j. ap (λ (m : ℕ). g m (get_or l j d)) (zero-add j) ∙ ap gather_at (sym (zero-add j)))

    pub gather-count : length (gather f g 0 l) ≡ ones gather_mask
    gather-count = ap length gather-places ∙ length-map (places gather_mask) gather_at ∙ ones-places 32 0 gather_mask mask_fits

  -- one element more
  pub gather-next : (i k : ℕ) (l : List A) → gather f g k (take (suc i) l) ≡ gather f g k (take i l) ++ cond (f (k + i) (get_or l i d)) (g (k + i) (get_or l i d) ∷ []) []
  unfolding gather
  gather-next zero k [] = rw (out (k + 0))
  gather-next (suc i) k [] = rw (out (k + suc i))
  gather-next zero k (a ∷ l) = rw (add-zero k)
  gather-next (suc i) k (a ∷ l) =
      go (f k a)
      (gather-next i (suc k) l ∙ ap (λ (m : ℕ). gather f g (suc k) (take i l) ++ cond (f m (get_or l i d)) (g m (get_or l i d) ∷ []) []) (sym (next k i)))
    where
      last : List B
      last = cond (f (k + suc i) (get_or l i d)) (g (k + suc i) (get_or l i d) ∷ []) []

      go : (b : Bool) → gather f g (suc k) (take (suc i) l) ≡ gather f g (suc k) (take i l) ++ last
          → cond b (g k a ∷ gather f g (suc k) (take (suc i) l)) (gather f g (suc k) (take (suc i) l))
          ≡ cond b (g k a ∷ gather f g (suc k) (take i l)) (gather f g (suc k) (take i l)) ++ last
      go true ih = ap (λ (x : List B). g k a ∷ x) ih
      go false ih = ih

-- an element passes a test where the mask has a place
pub some-places : {A : Type 0} (f : A → Bool) (d : A) → f d ≡ false → (n : ℕ) (l : List A) → length l ≤ n → not (eqb (mask_by n (λ j. f (get_or l j d))) 0) ≡ some? f l
unfolding mask_by tabulate mask_of some?
some-places f d out n [] h = rw (none_of n (λ j. f (get_or [] j d)) (λ j. ap f (nothing j) ∙ out))
  where
    nothing : (j : ℕ) → get_or [] j d ≡ d
    nothing zero = refl
    nothing (suc j) = refl
some-places f d out zero (a ∷ l) h = absurd (not-suc-le-zero h)
some-places f d out (suc n) (a ∷ l) h = go (f a) (mask_of (tabulate n (λ j. f (get_or l j d)))) (some-places f d out n l (le_of_suc-le-suc h))
  where
    go : (b : Bool) (m : ℕ) → not (eqb m 0) ≡ some? f l → not (eqb (m * 2 + digit_of b) 0) ≡ b || some? f l
    go true m ih = rw (ne_eqb (m * 2 + 1) 0 (λ e. omega arith))
    go false zero ih = ih
    go false (suc m) ih = rw (ne_eqb (suc m * 2 + 0) 0 (λ e. omega arith)) (rw (ne_eqb (suc m) 0 (λ e. omega arith)) at ih)
