-- A mask whose place i is in it where a function says so, for the places below n: what a loop over an array makes. Assumes nothing.
-- `by-at`: the function is what the mask says. `by_next`, `grown`: one more place. `by-lt`: no place from n on. `by-same`: a mask is made of its own places.
use Rattle.std.specs.Prelude.{ℕ, suc, ◌+◌, ◌^◌, ◌≤◌, ◌<◌, ◌≡◌, refl, Bool, true, false, ◌||◌, ◌&&◌, eqb}
use Rattle.std.proofs.Common.{sym, ap, ◌∙◌, subst, lt_of_lt_of_le, arith, pow_mono, eq-eqb, ne_eqb}
use Rattle.std.proofs.Math.Decide.{ℕ_discrete}
use Rattle.tables.specs.Tabulate.{tabulate, long, at_place, alike}
use Rattle.mask.specs.Mask.{test_bit, set_bit_if, mask_of}
use Rattle.mask.specs.Laws.{ext, test-mask, mask_lt, test-beyond, test-set, set-lt}

-- the places i below n with f i
unfoldable pub mask_by : ℕ → (ℕ → Bool) → ℕ
mask_by n f = mask_of (tabulate n f)

pub by-lt : (n : ℕ) (f : ℕ → Bool) → mask_by n f < 2 ^ n
unfolding mask_by
by-lt n f = subst (λ (k : ℕ). mask_of (tabulate n f) < 2 ^ k) (long n f) (mask_lt (tabulate n f))

pub by-at : (n : ℕ) (f : ℕ → Bool) (i : ℕ) → i < n → test_bit (mask_by n f) i ≡ f i
unfolding mask_by
by-at n f i h = test-mask (tabulate n f) i ∙ at_place n f i false h

pub by-beyond : (n : ℕ) (f : ℕ → Bool) (i : ℕ) → n ≤ i → test_bit (mask_by n f) i ≡ false
by-beyond n f i h = test-beyond n (mask_by n f) i (by-lt n f) h

pub by_alike : (n : ℕ) (f g : ℕ → Bool) → ((i : ℕ) → i < n → f i ≡ g i) → mask_by n f ≡ mask_by n g
unfolding mask_by
by_alike n f g h = ap mask_of (alike n f g h)

pub by-same : (n m : ℕ) → m < 2 ^ n → m ≡ mask_by n (test_bit m)
by-same n m h = ext n m (mask_by n (test_bit m)) h (by-lt n (test_bit m)) (λ i l. sym (by-at n (test_bit m) i l))

-- a mask with the places of f below n
pub by-is : (n m : ℕ) (f : ℕ → Bool) → m < 2 ^ n → ((i : ℕ) → i < n → test_bit m i ≡ f i) → m ≡ mask_by n f
by-is n m f h e = by-same n m h ∙ by_alike n (test_bit m) f e

-- what `set_bit_if` does at each place
pub test-set-if : (b : Bool) (m i j : ℕ) → j < 32 → test_bit (set_bit_if b m j) i ≡ (test_bit m i || (b && eqb i j))
unfolding set_bit_if
test-set-if true m i j h = test-set m i j h
test-set-if false m i j h = sym (or-false (test_bit m i))
  where
    or-false : (b : Bool) → b || false ≡ b
    or-false true = refl
    or-false false = refl

pub set-if-lt : (b : Bool) (k m j : ℕ) → m < 2 ^ k → j < k → k ≤ 32 → set_bit_if b m j < 2 ^ k
unfolding set_bit_if
set-if-lt true k m j h l w = set-lt k m j h l w
set-if-lt false k m j h l w = h

-- one more place of a loop
pub by_next : (i : ℕ) (f : ℕ → Bool) → i < 32 → set_bit_if (f i) (mask_by i f) i ≡ mask_by (suc i) f
by_next i f h =
    by-is (suc i) (set_bit_if (f i) (mask_by i f) i) f
    (set-if-lt (f i) (suc i) (mask_by i f) i (lt_of_lt_of_le (by-lt i f) (pow_mono (omega arith))) (omega arith) (omega arith))
    (λ j l. test-set-if (f i) (mask_by i f) j i h ∙ at j l (ℕ_discrete j i))
  where
    and-true : (b : Bool) → b && true ≡ b
    and-true true = refl
    and-true false = refl

    and-false : (b : Bool) → b && false ≡ false
    and-false true = refl
    and-false false = refl

    or-false : (b : Bool) → b || false ≡ b
    or-false true = refl
    or-false false = refl

    at : (j : ℕ) → j < suc i → Dec (j ≡ i) → (test_bit (mask_by i f) j || (f i && eqb j i)) ≡ f j
    at j l (yes e) = rw (eq-eqb j i e, by-beyond i f j (omega arith)) (and-true (f i) ∙ ap f (sym e))
    at j l (no ne) = rw (ne_eqb j i ne, and-false (f i), or-false (test_bit (mask_by i f) j)) (by-at i f j (omega arith))

-- a mask of i places, place i put in where b says so, has i + 1
pub set-if-grown : (b : Bool) (i m : ℕ) → m < 2 ^ i → i < 32 → set_bit_if b m i < 2 ^ (i + 1)
set-if-grown b i m h l = set-if-lt b (i + 1) m i (lt_of_lt_of_le h (pow_mono (omega arith))) (omega arith) (omega arith)

-- what holds of each place below i and of b at place i holds of each place below i + 1
pub grown : (P : ℕ → Bool → Type 0) (b : Bool) (i m : ℕ) → i < 32 → m < 2 ^ i → P i b → ((j : ℕ) → j < i → P j (test_bit m j))
    → (j : ℕ) → j < i + 1 → P j (test_bit (set_bit_if b m i) j)
grown P b i m l h new old j k = go (ℕ_discrete j i)
  where
    here : (b : Bool) → b ≡ (false || (b && true))
    here true = refl
    here false = refl

    there : (b t : Bool) → t ≡ (t || (b && false))
    there true true = refl
    there true false = refl
    there false true = refl
    there false false = refl

    go : Dec (j ≡ i) → P j (test_bit (set_bit_if b m i) j)
    go (yes e) = rw (test-set-if b m j i l, eq-eqb j i e, test-beyond i m j h (omega arith)) (subst (P j) (here b) (subst (λ (k : ℕ). P k b) (sym e) new))
    go (no ne) = rw (test-set-if b m j i l, ne_eqb j i ne) (subst (P j) (there b (test_bit m j)) (old j (omega arith)))
