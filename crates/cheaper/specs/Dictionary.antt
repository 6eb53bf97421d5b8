-- The orders go up in dictionary order: a smaller number is an earlier order. Assumes nothing.
use Rattle.std.specs.Prelude.{ℕ, zero, suc, ◌+◌, ◌*◌, ◌/◌, ◌%◌, ◌≤◌, ◌<◌, ◌≡◌, refl, List, [], ◌∷◌, ◌⊎◌, length, get_or}
use Rattle.std.proofs.Common.{sym, ap, ◌∙◌, subst, subst₂, inl, inr, arith, mul-le-mul_right, div-mul-le_self, div-add-mod', suc-mul, div-lt_iff_lt-mul, mod-lt, not-suc-le-zero, le_of_suc-le-suc}
use Rattle.std.proofs.Math.Nat.{lt-div-mul-add}
use Rattle.std.proofs.Math.Decide.{dec_lt}
use Rattle.cheaper.specs.Orders.{from, given, orders, factorial, Earlier}
use Rattle.cheaper.specs.Shuffles.{from-long}
use Rattle.cheaper.specs.Count.{factorial-pos, removed-long, orders-at}
use Rattle.cheaper.specs.Search.{removed, order_at}

abbrev Up : List ℕ → Type 0
Up xs = (j k : ℕ) → j < k → k < length xs → get_or xs j 0 < get_or xs k 0

pub removed-low : (xs : List ℕ) (r j : ℕ) → j < r → get_or (removed r xs) j 0 ≡ get_or xs j 0
unfolding removed
removed-low [] r j h = refl
removed-low (x ∷ xs) zero j h = absurd (not-suc-le-zero h)
removed-low (x ∷ xs) (suc r) zero h = refl
removed-low (x ∷ xs) (suc r) (suc j) h = removed-low xs r j (le_of_suc-le-suc h)

pub removed-high : (xs : List ℕ) (r j : ℕ) → r ≤ j → get_or (removed r xs) j 0 ≡ get_or xs (suc j) 0
unfolding removed
removed-high [] r j h = refl
removed-high (x ∷ xs) zero j h = refl
removed-high (x ∷ xs) (suc r) zero h = absurd (not-suc-le-zero h)
removed-high (x ∷ xs) (suc r) (suc j) h = removed-high xs r j (le_of_suc-le-suc h)

removed-up : (xs : List ℕ) (r : ℕ) → r < length xs → Up xs → Up (removed r xs)
removed-up xs r h u j k p q = go (dec_lt j r) (dec_lt k r)
  where
    n : length xs ≡ suc (length (removed r xs))
    n = removed-long xs r h

    go : Dec (j < r) → Dec (k < r) → get_or (removed r xs) j 0 < get_or (removed r xs) k 0
    go (yes a) (yes b) = subst₂ (λ (x y : ℕ). x < y) (sym (removed-low xs r j a)) (sym (removed-low xs r k b)) (u j k p (omega (arith, n)))
    go (yes a) (no b) = subst₂ (λ (x y : ℕ). x < y) (sym (removed-low xs r j a)) (sym (removed-high xs r k (omega (arith, n)))) (u j (suc k) (omega (arith, n)) (omega (arith, n)))
    go (no a) (yes b) = absurd (out j k r p a b)
      where
        out : (j k r : ℕ) → j < k → (j < r → ⊥) → k < r → ⊥
        out j k r p a b = omega arith
    go (no a) (no b) = subst₂ (λ (x y : ℕ). x < y) (sym (removed-high xs r j (omega (arith, n)))) (sym (removed-high xs r k (omega (arith, n))))
        (u (suc j) (suc k) (omega (arith, n)) (omega (arith, n)))

-- of two numbers the smaller has the smaller quotient, or the same and the smaller rest
split : (i k f : ℕ) → 0 < f → i < k → (i / f < k / f) ⊎ ((i / f ≡ k / f) × (i % f < k % f))
split i k f p h = go (dec_lt (i / f) (k / f))
  where
    go : Dec (i / f < k / f) → (i / f < k / f) ⊎ ((i / f ≡ k / f) × (i % f < k % f))
    go (yes a) = inl a
    go (no a) = next (dec_lt (k / f) (i / f))
      where
        next : Dec (k / f < i / f) → (i / f < k / f) ⊎ ((i / f ≡ k / f) × (i % f < k % f))
        next (yes b) =
            let x : k < k / f * f + f = lt-div-mul-add p in
            let y : i / f * f ≤ i = div-mul-le_self i f in
            let z : suc (k / f) * f ≤ i / f * f = mul-le-mul_right f b in
            let w : suc (k / f) * f ≡ k / f * f + f = suc-mul (k / f) f in
            absurd (omega arith)
        next (no b) =
            let e : i / f ≡ k / f = omega arith in
            let x : i / f * f + i % f ≡ i = div-add-mod' i f in
            let y : k / f * f + k % f ≡ k = div-add-mod' k f in
            let z : i / f * f ≡ k / f * f = ap (λ (q : ℕ). q * f) e in
            inr (e, omega arith)

up : (n : ℕ) (xs : List ℕ) (i k : ℕ) → length xs ≡ n → Up xs → i < k → k < factorial n → Earlier (order_at n xs i) (order_at n xs k)
unfolding order_at factorial
up zero xs i k e u h l = absurd (none i k h l)
  where
    none : (i k : ℕ) → i < k → k < 1 → ⊥
    none i k h l = omega arith
up (suc n) xs i k e u h l = go (split i k (factorial n) (factorial-pos n) h)
    (λ q. up n (removed (k / factorial n) xs) (i % factorial n) (k % factorial n) long (removed-up xs (k / factorial n) low u) q (mod-lt k (factorial-pos n)))
  where
    low : k / factorial n < length xs
    low = subst (λ (m : ℕ). k / factorial n < m) (sym e) ((div-lt_iff_lt-mul (factorial-pos n)).1 l)

    less : (a b : ℕ) → suc a ≡ suc b → a ≡ b
    less a b e = omega arith

    long : length (removed (k / factorial n) xs) ≡ n
    long = less (length (removed (k / factorial n) xs)) n (sym (removed-long xs (k / factorial n) low) ∙ e)

    go : (i / factorial n < k / factorial n) ⊎ ((i / factorial n ≡ k / factorial n) × (i % factorial n < k % factorial n))
        → (i % factorial n < k % factorial n → Earlier (order_at n (removed (k / factorial n) xs) (i % factorial n)) (order_at n (removed (k / factorial n) xs) (k % factorial n)))
        → Earlier (get_or xs (i / factorial n) 0 ∷ order_at n (removed (i / factorial n) xs) (i % factorial n)) (get_or xs (k / factorial n) 0 ∷ order_at n (removed (k / factorial n) xs) (k % factorial n))
    go (inl a) ih = inl (u (i / factorial n) (k / factorial n) a low)
    go (inr (a, b)) ih = inr (
      ap (λ (j : ℕ). get_or xs j 0) a,
      subst (λ (j : ℕ). Earlier (order_at n (removed j xs) (i % factorial n))
          (order_at n (removed (k / factorial n) xs) (k % factorial n))) (sym a) (ih b),
    )

from_at : (i n j : ℕ) → j < n → get_or (from i n) j 0 ≡ i + j
unfolding from
from_at i zero j h = absurd (not-suc-le-zero h)
from_at i (suc n) zero h = sum i
  where
    sum : (i : ℕ) → i ≡ i + 0
    sum i = omega arith
from_at i (suc n) (suc j) h = from_at (suc i) n j (le_of_suc-le-suc h) ∙ sum i j
  where
    sum : (i j : ℕ) → suc i + j ≡ i + suc j
    sum i j = omega arith

-- "going on by place numbers in dictionary order"
pub orders-up : (n i k : ℕ) (d : List ℕ) → i < k → k < factorial n → Earlier (get_or (orders n) i d) (get_or (orders n) k d)
orders-up n i k d h l =
    subst₂ (λ (x y : List ℕ). Earlier x y) (sym (orders-at n i d (omega arith))) (sym (orders-at n k d l))
    (up n (given n) i k (from-long 0 n)
    (λ a b p q. subst₂ (λ (x y : ℕ). x < y) (sym (from_at 0 n a (omega (arith, from-long 0 n)))) (sym (from_at 0 n b (omega (arith, from-long 0 n)))) (omega arith)) h l)
