-- No order costs less than the floor. Assumes nothing.
-- Along any order the changes of one thing are at least its distinct values less one (`changes`); how many values there are does not depend on the order (`distinct-same`);
-- the price is the sum of the changes of the eighteen things (`along-sum`).
use Rattle.std.specs.Prelude.{ℕ, zero, suc, ◌+◌, ◌-◌, ◌≤◌, ◌<◌, ◌≡◌, refl, Bool, true, false, cond, ◌||◌, List, [], ◌∷◌, map, eqb}
use Rattle.std.proofs.Common.{sym, ap, ap₂, ◌∙◌, subst, inl, inr, arith, eq-eqb, ne_eqb, eqb-true}
use Rattle.std.proofs.lemmas.Bool.{eqb-false}
use Rattle.cheaper.specs.Orders.{count, Order, given, Pick, before, picks, In}
use Rattle.cheaper.specs.Shuffles.{one?, map_cases, picked, picked-count, given-count}
use Rattle.cheaper.specs.Prices.{sum_to, differs, along, total, price_of, among, distinct, floor_of}

-- ---- sums
sum-add : (n : ℕ) (f g : ℕ → ℕ) → sum_to n (λ t. f t + g t) ≡ sum_to n f + sum_to n g
unfolding sum_to
sum-add zero f g = refl
sum-add (suc n) f g = ap (λ (x : ℕ). x + (f n + g n)) (sum-add n f g) ∙ regroup (sum_to n f) (sum_to n g) (f n) (g n)
  where
    regroup : (a b c d : ℕ) → (a + b) + (c + d) ≡ (a + c) + (b + d)
    regroup a b c d = omega arith

sum-zero : (n : ℕ) → sum_to n (λ t. 0) ≡ 0
unfolding sum_to
sum-zero zero = refl
sum-zero (suc n) = ap (λ (x : ℕ). x + 0) (sum-zero n)

sum-le : (n : ℕ) (f g : ℕ → ℕ) → ((t : ℕ) → f t ≤ g t) → sum_to n f ≤ sum_to n g
unfolding sum_to
sum-le zero f g h = omega arith
sum-le (suc n) f g h = let a = sum-le n f g h in let b = h n in omega arith

-- a sum of prices along an order is the prices' sums
along-sum : (n : ℕ) (f : ℕ → ℕ → ℕ → ℕ) (a : ℕ) (o : List ℕ) → along (λ x y. sum_to n (f x y)) a o ≡ sum_to n (λ t. along (λ x y. f x y t) a o)
unfolding along
along-sum n f a [] = sym (sum-zero n)
along-sum n f a (b ∷ o) = ap (λ (x : ℕ). sum_to n (f a b) + x) (along-sum n f b o) ∙ sym (sum-add n (f a b) (λ t. along (λ x y. f x y t) b o))

-- ---- one thing: w a is its value at place a
changes : (w : ℕ → ℕ) (a : ℕ) (o : List ℕ) → distinct (map w (a ∷ o)) ≤ 1 + along (λ x y. differs (w x) (w y)) a o
unfolding along distinct among
changes w a [] = omega arith
changes w a (b ∷ o) =
    let ih = changes w b o in
    let h = first (eqb (w a) (w b)) (among (w a) (map w o)) in
    add (cond (eqb (w a) (w b) || among (w a) (map w o)) 0 1) (distinct (map w (b ∷ o))) (differs (w a) (w b)) (along (λ x y. differs (w x) (w y)) b o) h ih
  where
    first : (t u : Bool) → cond (t || u) 0 1 ≤ cond t 0 1
    first true u = omega arith
    first false true = omega arith
    first false false = omega arith

    add : (p q r s : ℕ) → p ≤ r → q ≤ 1 + s → p + q ≤ 1 + (r + s)
    add p q r s h k = omega arith

-- ---- lists with the same elements
pub data Shuffled : List ℕ → List ℕ → Type 0 where
  none : Shuffled [] []
  keep : {x : ℕ} {xs ys : List ℕ} → Shuffled xs ys → Shuffled (x ∷ xs) (x ∷ ys)
  swap : {x y : ℕ} {xs : List ℕ} → Shuffled (x ∷ (y ∷ xs)) (y ∷ (x ∷ xs))
  then : {xs ys zs : List ℕ} → Shuffled xs ys → Shuffled ys zs → Shuffled xs zs

same : (xs : List ℕ) → Shuffled xs xs
same [] = none
same (x ∷ xs) = keep (same xs)

among_same : {xs ys : List ℕ} (w : ℕ → ℕ) (z : ℕ) → Shuffled xs ys → among z (map w xs) ≡ among z (map w ys)
unfolding among
among_same w z none = refl
among_same w z (keep {x = x} s) = ap (λ (t : Bool). eqb z (w x) || t) (among_same w z s)
among_same w z (swap {x = x} {y = y} {xs = xs}) = either (eqb z (w x)) (eqb z (w y)) (among z (map w xs))
  where
    either : (a b c : Bool) → (a || (b || c)) ≡ (b || (a || c))
    either true true c = refl
    either true false c = refl
    either false true c = refl
    either false false c = refl
among_same w z (then s t) = among_same w z s ∙ among_same w z t

eqb_swap : (a b : ℕ) → eqb a b ≡ eqb b a
eqb_swap a b = go (eqb a b) refl
  where
    go : (t : Bool) → eqb a b ≡ t → t ≡ eqb b a
    go true e = sym (eq-eqb b a (sym (eqb-true a b e)))
    go false e = sym (ne_eqb b a (λ q. eqb-false a b e (sym q)))

distinct-same : {xs ys : List ℕ} (w : ℕ → ℕ) → Shuffled xs ys → distinct (map w xs) ≡ distinct (map w ys)
unfolding distinct among
distinct-same w none = refl
distinct-same w (keep {x = x} s) = ap₂ (λ (t : Bool) (n : ℕ). cond t 0 1 + n) (among_same w (w x) s) (distinct-same w s)
distinct-same w (swap {x = x} {y = y} {xs = xs}) = go (eqb (w x) (w y)) refl
  where
    p : Bool
    p = among (w x) (map w xs)

    q : Bool
    q = among (w y) (map w xs)

    n : ℕ
    n = distinct (map w xs)

    apart : (a b c : ℕ) → a + (b + c) ≡ b + (a + c)
    apart a b c = omega arith

    go : (t : Bool) → eqb (w x) (w y) ≡ t → cond (t || p) 0 1 + (cond q 0 1 + n) ≡ cond (eqb (w y) (w x) || q) 0 1 + (cond p 0 1 + n)
    go true e =
        let pq : q ≡ p = ap (λ (k : ℕ). among k (map w xs)) (sym (eqb-true (w x) (w y) e)) in
        let yx : eqb (w y) (w x) ≡ true = sym (eqb_swap (w x) (w y)) ∙ e in
        ap (λ (u : Bool). 0 + (cond u 0 1 + n)) pq ∙ ap (λ (u : Bool). cond (u || q) 0 1 + (cond p 0 1 + n)) (sym yx)
    go false e =
        let yx : eqb (w y) (w x) ≡ false = sym (eqb_swap (w x) (w y)) ∙ e in
        apart (cond p 0 1) (cond q 0 1) n ∙ ap (λ (u : Bool). cond (u || q) 0 1 + (cond p 0 1 + n)) (sym yx)
distinct-same w (then s t) = distinct-same w s ∙ distinct-same w t

-- lists with the same counts are shuffled
pick_first : (xs : List ℕ) (p : Pick) → In p (picks xs) → Shuffled xs (p.one ∷ p.rest)
unfolding picks
pick_first [] p m = absurd m
pick_first (x ∷ xs) p (inl e) = subst (λ (q : Pick). Shuffled (x ∷ xs) (q.one ∷ q.rest)) (sym e) (same (x ∷ xs))
pick_first (x ∷ xs) p (inr m) =
    let r = map_cases (before x) (picks xs) p m in
    subst (λ (q : Pick). Shuffled (x ∷ xs) (q.one ∷ q.rest)) (sym r.2) (then (keep (pick_first xs r.0 r.1)) swap)

shuffled : (o xs : List ℕ) → ((k : ℕ) → count k o ≡ count k xs) → Shuffled xs o
unfolding count
shuffled [] [] h = none
shuffled [] (x ∷ xs) h = absurd (more (count x xs) (eqb x x) (eq-eqb x x refl) (h x))
  where
    more : (c : ℕ) (t : Bool) → t ≡ true → 0 ≡ cond t 1 0 + c → ⊥
    more c true e p = omega arith
    more c false e p = let z : ◌≡◌ {A = ℕ} 0 1 = cc in omega arith
shuffled (x ∷ o) xs h = then (pick_first xs p r.1) (subst (λ (z : ℕ). Shuffled (z ∷ p.rest) (x ∷ o)) (sym r.2) (keep (shuffled o p.rest rest)))
  where
    there : (c : ℕ) (t : Bool) → t ≡ true → 0 < cond t 1 0 + c
    there c true e = omega arith
    there c false e = let z : ◌≡◌ {A = ℕ} 0 1 = cc in absurd (omega arith)

    r : (p : Pick) × In p (picks xs) × (p.one ≡ x)
    r = picked xs x (subst (λ (c : ℕ). 0 < c) (h x) (there (count x o) (eqb x x) (eq-eqb x x refl)))

    p : Pick
    p = r.0

    cancel : (a b c : ℕ) → a + b ≡ a + c → b ≡ c
    cancel a b c e = omega arith

    rest : (k : ℕ) → count k o ≡ count k p.rest
    rest k = cancel (one? k x) (count k o) (count k p.rest) (h k ∙ picked-count xs p r.1 k ∙ ap (λ (z : ℕ). one? k z + count k p.rest) r.2)

-- ---- THE FLOOR: no order costs less
changes-of : (w : ℕ → ℕ) (o : List ℕ) → distinct (map w o) - 1 ≤ total (λ x y. differs (w x) (w y)) o
unfolding distinct
changes-of w [] = omega arith
changes-of w (a ∷ o) = let h = changes w a o in omega arith

total-sum : (n : ℕ) (f : ℕ → ℕ → ℕ → ℕ) (o : List ℕ) → total (λ x y. sum_to n (f x y)) o ≡ sum_to n (λ t. total (λ x y. f x y t) o)
total-sum n f [] = sym (sum-zero n)
total-sum n f (a ∷ o) = along-sum n f a o

pub no-order-below : (v : ℕ → ℕ → ℕ) (n : ℕ) (o : List ℕ) → Order n o → floor_of v n ≤ price_of v o
no-order-below v n o h =
    subst (λ (x : ℕ). floor_of v n ≤ x) (sym (total-sum 18 (λ x y t. differs (v t x) (v t y)) o))
    (sum-le 18 (λ t. distinct (map (v t) (given n)) - 1) (λ t. total (λ x y. differs (v t x) (v t y)) o)
    (λ t. subst (λ (k : ℕ). k - 1 ≤ total (λ x y. differs (v t x) (v t y)) o) (sym (distinct-same (v t) (shuffled o (given n) (λ k. h k ∙ sym (given-count n k))))) (changes-of (v t) o)))
