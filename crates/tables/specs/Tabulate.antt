-- Lists whose element at each place is a function of the place: what a loop over an array makes. Assumes nothing.
-- `at_place`: the element at place i. `set-place`: one place changed. `same`: a list is the table of its own elements. `renew-start`, `renew-next`, `renew-end`: a loop that writes place after place.
use Prim.Native.Nat.{ℕ, zero, suc, ◌<◌}
use Rattle.std.specs.Prelude.{◌≡◌, Bool, true, false, cond, eqb, ltb, length, get_or}
use Rattle.std.proofs.Math.Path.{refl, sym, ap, ap₂}
use Rattle.std.proofs.Common.{◌∙◌, le_of_suc-le-suc, not-suc-le-zero, arith}
use mathlib.Core.List.{List, [], ◌∷◌}
use Rattle.std.proofs.Math.Decide.{ℕ_discrete}
use Rattle.std.proofs.Math.ListN.{set}
use borrow.Author.Tests.{eq-eqb, ne_eqb, lt-ltb, le-ltb, ltb-true, ltb-false}

-- f 0, f 1, .. f (n - 1)
unfoldable pub tabulate : {A : Type 0} → ℕ → (ℕ → A) → List A
tabulate zero f = []
tabulate (suc n) f = f 0 ∷ tabulate n (λ i. f (suc i))

-- f with a at place k
abbrev pub upd : {A : Type 0} → (ℕ → A) → ℕ → A → ℕ → A
upd f k a i = cond (eqb i k) a (f i)

pub upd_same : {A : Type 0} (f : ℕ → A) (k : ℕ) (a : A) → upd f k a k ≡ a
upd_same f k a = rw (eq-eqb k k refl)

pub upd_other : {A : Type 0} (f : ℕ → A) (k i : ℕ) (a : A) → (i ≡ k → ⊥) → upd f k a i ≡ f i
upd_other f k i a ne = rw (ne_eqb i k ne)

module _ {A : Type 0} where
  pub long : (n : ℕ) (f : ℕ → A) → length (tabulate n f) ≡ n
  unfolding tabulate
  long zero f = refl
  long (suc n) f = ap suc (long n (λ i. f (suc i)))

  pub at_place : (n : ℕ) (f : ℕ → A) (i : ℕ) (d : A) → i < n → get_or (tabulate n f) i d ≡ f i
  unfolding tabulate
  at_place zero f i d h = absurd (not-suc-le-zero h)
  at_place (suc n) f zero d h = refl
  at_place (suc n) f (suc i) d h = at_place n (λ i. f (suc i)) i d (le_of_suc-le-suc h)

  pub alike : (n : ℕ) (f g : ℕ → A) → ((i : ℕ) → i < n → f i ≡ g i) → tabulate n f ≡ tabulate n g
  unfolding tabulate
  alike zero f g h = refl
  alike (suc n) f g h = ap₂ (λ (x : A) (xs : List A). x ∷ xs) (h 0 (omega arith)) (alike n (λ i. f (suc i)) (λ i. g (suc i)) (λ i l. h (suc i) (omega arith)))

  pub same : (l : List A) (d : A) → tabulate (length l) (λ i. get_or l i d) ≡ l
  unfolding tabulate
  same [] d = refl
  same (x ∷ xs) d = ap (λ (ys : List A). x ∷ ys) (same xs d)

  pub same-long : (l : List A) (n : ℕ) (d : A) → length l ≡ n → l ≡ tabulate n (λ i. get_or l i d)
  same-long l n d e = sym (same l d) ∙ ap (λ (k : ℕ). tabulate k (λ i. get_or l i d)) e

  pub set-place : (n : ℕ) (f : ℕ → A) (k : ℕ) (a : A) → set (tabulate n f) k a ≡ tabulate n (upd f k a)
  unfolding tabulate
  set-place zero f k a = nothing k
    where
      nothing : (k : ℕ) → set [] k a ≡ []
      nothing zero = refl
      nothing (suc k) = refl
  set-place (suc n) f zero a = ap (λ (ys : List A). a ∷ ys) (alike n (λ i. f (suc i)) (λ i. upd f 0 a (suc i)) (λ i l. sym (upd_other f 0 (suc i) a (λ e. omega arith))))
  set-place (suc n) f (suc k) a =
      ap₂ (λ (x : A) (xs : List A). x ∷ xs) (sym (upd_other f (suc k) 0 a (λ e. omega arith)))
      (set-place n (λ i. f (suc i)) k a ∙ alike n (upd (λ i. f (suc i)) k a) (λ i. upd f (suc k) a (suc i)) (λ i l. step i (ℕ_discrete i k)))
    where
      step : (i : ℕ) → Dec (i ≡ k) → upd (λ i. f (suc i)) k a i ≡ upd f (suc k) a (suc i)
      step i (yes e) = rw (eq-eqb i k e, eq-eqb (suc i) (suc k) (ap suc e))
      step i (no ne) = rw (ne_eqb i k ne, ne_eqb (suc i) (suc k) (λ e. ne (omega arith)))

  -- one place of any list of n elements
  pub set_is : (l : List A) (n k : ℕ) (a d : A) → length l ≡ n → set l k a ≡ tabulate n (upd (λ i. get_or l i d) k a)
  set_is l n k a d e = ap (λ (xs : List A). set xs k a) (same-long l n d e) ∙ set-place n (λ i. get_or l i d) k a

  -- new below i, old from i on: where a loop over the places stands
  abbrev pub renewed : (ℕ → A) → (ℕ → A) → ℕ → ℕ → A
  renewed old new i j = cond (ltb j i) (new j) (old j)

  pub renew-start : (l : List A) (n : ℕ) (new : ℕ → A) (d : A) → length l ≡ n → l ≡ tabulate n (renewed (λ j. get_or l j d) new 0)
  renew-start l n new d e = same-long l n d e ∙ alike n (λ j. get_or l j d) (renewed (λ j. get_or l j d) new 0) (λ j h. rw (le-ltb j 0 (omega arith)))

  pub renew-next : (n : ℕ) (old new : ℕ → A) (i : ℕ) → set (tabulate n (renewed old new i)) i (new i) ≡ tabulate n (renewed old new (suc i))
  renew-next n old new i = set-place n (renewed old new i) i (new i) ∙ alike n (upd (renewed old new i) i (new i)) (renewed old new (suc i)) (λ j h. at j (ℕ_discrete j i))
    where
      near : (j : ℕ) → (j ≡ i → ⊥) → (t u : Bool) → ltb j i ≡ t → ltb j (suc i) ≡ u → cond t (new j) (old j) ≡ cond u (new j) (old j)
      near j ne true true p q = refl
      near j ne true false p q = let a = ltb-true j i p in let b = ltb-false j (suc i) q in absurd (omega arith)
      near j ne false true p q = let a = ltb-false j i p in let b = ltb-true j (suc i) q in absurd (ne (omega arith))
      near j ne false false p q = refl

      at : (j : ℕ) → Dec (j ≡ i) → upd (renewed old new i) i (new i) j ≡ renewed old new (suc i) j
      at j (yes e) = rw (eq-eqb j i e, lt-ltb j (suc i) (omega arith)) (ap new (sym e))
      at j (no ne) = rw (ne_eqb j i ne) (near j ne (ltb j i) (ltb j (suc i)) refl refl)

  pub renew-end : (n : ℕ) (old new : ℕ → A) → tabulate n (renewed old new n) ≡ tabulate n new
  renew-end n old new = alike n (renewed old new n) new (λ j h. rw (lt-ltb j n h))

  -- what stands past the loop's place is old
  pub renewed-at : (n : ℕ) (old new : ℕ → A) (i : ℕ) (d : A) → i < n → get_or (tabulate n (renewed old new i)) i d ≡ old i
  renewed-at n old new i d h = at_place n (renewed old new i) i d h ∙ rw (le-ltb i i (omega arith))
