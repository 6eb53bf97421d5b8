-- The places of a mask, as a list: a place stands there exactly where its bit is set, and none stands there from 32 on. Assumes nothing.
use Rattle.std.specs.Prelude.{ℕ, zero, suc, ◌+◌, ◌/◌, ◌≤◌, ◌<◌, ◌≡◌, refl, Bool, true, false}
use Rattle.std.proofs.Common.{sym, ap, ◌∙◌, le_of_suc-le-suc, not-suc-le-zero, add-zero, add-suc, suc-add, zero-add, arith, eq-eqb, ne_eqb}
use Rattle.mask.specs.Mask.{test_bit, odd, cons?, places_from, places}
use Rattle.records.specs.Check.{among}

not-before : (k j m x : ℕ) → x < j → among x (places_from k j m) ≡ false
unfolding places_from among
not-before zero j m x h = refl
not-before (suc k) j m x h = go (odd m) (not-before k (suc j) (m / 2) x (omega arith))
  where
    go : (t : Bool) → among x (places_from k (suc j) (m / 2)) ≡ false → among x (cons? t j (places_from k (suc j) (m / 2))) ≡ false
    go true ih = rw (ne_eqb x j (λ e. omega arith)) ih
    go false ih = ih

among-from : (k j m i : ℕ) → i < k → among (j + i) (places_from k j m) ≡ test_bit m i
unfolding places_from among test_bit
among-from zero j m i h = absurd (not-suc-le-zero h)
among-from (suc k) j m zero h = go (odd m)
  where
    go : (t : Bool) → among (j + 0) (cons? t j (places_from k (suc j) (m / 2))) ≡ t
    go true = rw (eq-eqb (j + 0) j (add-zero j))
    go false = not-before k (suc j) (m / 2) (j + 0) (omega arith)
among-from (suc k) j m (suc i) h = go (odd m) (among-from k (suc j) (m / 2) i (le_of_suc-le-suc h))
  where
    here : j + suc i ≡ suc j + i
    here = add-suc j i ∙ sym (suc-add j i)

    go : (t : Bool) → among (suc j + i) (places_from k (suc j) (m / 2)) ≡ test_bit (m / 2) i → among (j + suc i) (cons? t j (places_from k (suc j) (m / 2))) ≡ test_bit (m / 2) i
    go true ih = rw (ne_eqb (j + suc i) j (λ e. omega arith)) (ap (λ (x : ℕ). among x (places_from k (suc j) (m / 2))) here ∙ ih)
    go false ih = ap (λ (x : ℕ). among x (places_from k (suc j) (m / 2))) here ∙ ih

-- a place is among the places of a mask where its bit is set
pub among-places : (m i : ℕ) → i < 32 → among i (places m) ≡ test_bit m i
among-places m i h = ap (λ (x : ℕ). among x (places m)) (sym (zero-add i)) ∙ among-from 32 0 m i h

-- no place stands past the last bit that is looked at
not-past : (k j m x : ℕ) → j + k ≤ x → among x (places_from k j m) ≡ false
unfolding places_from among
not-past zero j m x h = refl
not-past (suc k) j m x h = go (odd m) (not-past k (suc j) (m / 2) x (omega arith))
  where
    go : (t : Bool) → among x (places_from k (suc j) (m / 2)) ≡ false → among x (cons? t j (places_from k (suc j) (m / 2))) ≡ false
    go true ih = rw (ne_eqb x j (λ e. omega arith)) ih
    go false ih = ih

-- no place from 32 on is among the places of a mask
pub none-past : (m i : ℕ) → 32 ≤ i → among i (places m) ≡ false
none-past m i h = not-past 32 0 m i (omega arith)
