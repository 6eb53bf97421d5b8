-- The orders of n pieces are exactly the elements of `orders n`. Assumes nothing.
use Rattle.std.specs.Prelude.{ℕ, zero, suc, ◌+◌, ◌≤◌, ◌<◌, ◌≡◌, refl, Bool, true, false, cond, List, [], ◌∷◌, ◌++◌, map, ◌⊎◌, eqb, ltb, length}
use Rattle.std.proofs.Common.{sym, ap, ap₂, ◌∙◌, subst, inl, inr, arith, not-suc-le-zero, eq-eqb, ne_eqb, eqb-true, ltb-true, ltb-false}
use Rattle.std.proofs.Math.Decide.{ℕ_discrete}
use Rattle.cheaper.specs.Orders.{count, Order, from, given, Pick, before, picks, each, arranged, orders, In}

-- ---- elements of appended lists, of `map` and of `each`
pub in_left : {A : Type 0} (x : A) (l r : List A) → In x l → In x (l ++ r)
in_left x [] r m = absurd m
in_left x (y ∷ l) r (inl e) = inl e
in_left x (y ∷ l) r (inr m) = inr (in_left x l r m)

pub in_right : {A : Type 0} (x : A) (l r : List A) → In x r → In x (l ++ r)
in_right x [] r m = m
in_right x (y ∷ l) r m = inr (in_right x l r m)

pub in-cases : {A : Type 0} (x : A) (l r : List A) → In x (l ++ r) → In x l ⊎ In x r
in-cases x [] r m = inr m
in-cases x (y ∷ l) r (inl e) = inl (inl e)
in-cases x (y ∷ l) r (inr m) = go (in-cases x l r m)
  where
    go : In x l ⊎ In x r → In x (y ∷ l) ⊎ In x r
    go (inl a) = inl (inr a)
    go (inr b) = inr b

pub in_map : {A B : Type 0} (f : A → B) (l : List A) (a : A) → In a l → In (f a) (map f l)
in_map f [] a m = absurd m
in_map f (x ∷ l) a (inl e) = inl (ap f e)
in_map f (x ∷ l) a (inr m) = inr (in_map f l a m)

pub map_cases : {A B : Type 0} (f : A → B) (l : List A) (b : B) → In b (map f l) → (a : A) × In a l × (b ≡ f a)
map_cases f [] b m = absurd m
map_cases f (x ∷ l) b (inl e) = (x, inl refl, e)
map_cases f (x ∷ l) b (inr m) = let r = map_cases f l b m in (r.0, inr r.1, r.2)

pub in-each : {A B : Type 0} (f : A → List B) (l : List A) (a : A) (b : B) → In a l → In b (f a) → In b (each f l)
unfolding each
in-each f [] a b m k = absurd m
in-each f (x ∷ l) a b (inl e) k = in_left b (f x) (each f l) (subst (λ (y : _). In b (f y)) e k)
in-each f (x ∷ l) a b (inr m) k = in_right b (f x) (each f l) (in-each f l a b m k)

pub each-cases : {A B : Type 0} (f : A → List B) (l : List A) (b : B) → In b (each f l) → (a : A) × In a l × In b (f a)
unfolding each
each-cases f [] b m = absurd m
each-cases {A} {B} f (x ∷ l) b m = go (each-cases f l b) (in-cases b (f x) (each f l) m)
  where
    go : (In b (each f l) → (a : A) × In a l × In b (f a)) → In b (f x) ⊎ In b (each f l) → (a : A) × In a (x ∷ l) × In b (f a)
    go ih (inl k) = (x, inl refl, k)
    go ih (inr k) = let r = ih k in (r.0, inr r.1, r.2)

-- ---- picks
abbrev pub one? : ℕ → ℕ → ℕ
one? k x = cond (eqb k x) 1 0

pub picked-count : (xs : List ℕ) (p : Pick) → In p (picks xs) → (k : ℕ) → count k xs ≡ one? k p.one + count k p.rest
unfolding picks count
picked-count [] p m k = absurd m
picked-count (x ∷ xs) p (inl e) k = ap (λ (q : Pick). one? k q.one + count k q.rest) (sym e)
picked-count (x ∷ xs) p (inr m) k =
    let r = map_cases (before x) (picks xs) p m in
    let h : count k xs ≡ one? k r.0.one + count k r.0.rest = picked-count xs r.0 r.1 k in
    ap (λ (n : ℕ). one? k x + n) h ∙ swap (one? k x) (one? k r.0.one) (count k r.0.rest) ∙ ap (λ (q : Pick). one? k q.one + count k q.rest) (sym r.2)
  where
    swap : (a b c : ℕ) → a + (b + c) ≡ b + (a + c)
    swap a b c = omega arith

pub picked-long : (xs : List ℕ) (p : Pick) → In p (picks xs) → length xs ≡ suc (length p.rest)
unfolding picks
picked-long [] p m = absurd m
picked-long (x ∷ xs) p (inl e) = ap (λ (q : Pick). suc (length q.rest)) (sym e)
picked-long (x ∷ xs) p (inr m) =
    let r = map_cases (before x) (picks xs) p m in
    ap suc (picked-long xs r.0 r.1) ∙ ap (λ (q : Pick). suc (length q.rest)) (sym r.2)

-- an element that is there can be picked
pub picked : (xs : List ℕ) (x : ℕ) → 0 < count x xs → (p : Pick) × In p (picks xs) × (p.one ≡ x)
unfolding picks count
picked [] x h = absurd (not-suc-le-zero h)
picked (y ∷ ys) x h = go (eqb x y) refl (picked ys x)
  where
    zero+ : (n : ℕ) → 0 + n ≡ n
    zero+ n = omega arith

    go : (t : Bool) → eqb x y ≡ t → (0 < count x ys → (p : Pick) × In p (picks ys) × (p.one ≡ x)) → (p : Pick) × In p (picks (y ∷ ys)) × (p.one ≡ x)
    go true e ih = (record { one = y; rest = ys }, inl refl, sym (eqb-true x y e))
    go false e ih =
        let h' : 0 < count x ys = subst (λ (n : ℕ). 0 < n) (ap (λ (t : Bool). cond t 1 0 + count x ys) e ∙ zero+ (count x ys)) h in
        let r = ih h' in
        (before y r.0, inr (in_map (before y) (picks ys) r.0 r.1), r.2)

-- ---- the elements of `arranged`: the lists with the same elements, each as often
pub arranged-count : (n : ℕ) (xs o : List ℕ) → length xs ≡ n → In o (arranged n xs) → (k : ℕ) → count k o ≡ count k xs
unfolding arranged count
arranged-count zero [] o l (inl e) k = ap (count k) e
arranged-count zero (x ∷ xs) o l m k = absurd (nothing (length xs) l)
  where
    nothing : (n : ℕ) → suc n ≡ 0 → ⊥
    nothing n e = omega arith
arranged-count (suc n) xs o l m k =
    let r = each-cases (λ (p : Pick). map (λ (o : List ℕ). p.one ∷ o) (arranged n p.rest)) (picks xs) o m in
    let q = map_cases (λ (o : List ℕ). r.0.one ∷ o) (arranged n r.0.rest) o r.2 in
    ap (count k) q.2
    ∙ ap (λ (c : ℕ). one? k r.0.one + c) (arranged-count n r.0.rest q.0 (less (length r.0.rest) n (sym (picked-long xs r.0 r.1) ∙ l)) q.1 k)
    ∙ sym (picked-count xs r.0 r.1 k)
  where
    less : (a b : ℕ) → suc a ≡ suc b → a ≡ b
    less a b e = omega arith
arranged-count zero [] o l (inr x5) k = elim x5 [ ]

pub arranged-all : (n : ℕ) (xs o : List ℕ) → length xs ≡ n → ((k : ℕ) → count k o ≡ count k xs) → In o (arranged n xs)
unfolding arranged count
arranged-all zero [] [] l h = inl refl
arranged-all zero [] (x ∷ o) l h = absurd (more (count x o) (eqb x x) (eq-eqb x x refl) (h x))
  where
    more : (c : ℕ) (t : Bool) → t ≡ true → cond t 1 0 + c ≡ 0 → ⊥
    more c true e p = omega arith
    more c false e p = let z : ◌≡◌ {A = ℕ} 0 1 = cc in omega arith
arranged-all zero (x ∷ xs) o l h = absurd (nothing (length xs) l)
  where
    nothing : (n : ℕ) → suc n ≡ 0 → ⊥
    nothing n e = omega arith
arranged-all (suc n) [] o l h = absurd (nothing n l)
  where
    nothing : (n : ℕ) → 0 ≡ suc n → ⊥
    nothing n e = omega arith
arranged-all (suc n) (x ∷ xs) [] l h = absurd (more (count x xs) (eqb x x) (eq-eqb x x refl) (h x))
  where
    more : (c : ℕ) (t : Bool) → t ≡ true → 0 ≡ cond t 1 0 + c → ⊥
    more c true e p = omega arith
    more c false e p = let z : ◌≡◌ {A = ℕ} 0 1 = cc in omega arith
arranged-all (suc n) (y ∷ ys) (x ∷ o) l h =
    in-each (λ (p : Pick). map (λ (o : List ℕ). p.one ∷ o) (arranged n p.rest)) (picks (y ∷ ys)) p (x ∷ o) r.1
    (subst (λ (z : ℕ). In (z ∷ o) (map (λ (o : List ℕ). p.one ∷ o) (arranged n p.rest))) r.2
    (in_map (λ (o : List ℕ). p.one ∷ o) (arranged n p.rest) o
    (arranged-all n p.rest o (less (length p.rest) n (sym (picked-long (y ∷ ys) p r.1) ∙ l)) rest)))
  where
    less : (a b : ℕ) → suc a ≡ suc b → a ≡ b
    less a b e = omega arith

    there : (c : ℕ) (t : Bool) → t ≡ true → 0 < cond t 1 0 + c
    there c true e = omega arith
    there c false e = let z : ◌≡◌ {A = ℕ} 0 1 = cc in absurd (omega arith)

    r : (p : Pick) × In p (picks (y ∷ ys)) × (p.one ≡ x)
    r = picked (y ∷ ys) x (subst (λ (c : ℕ). 0 < c) (h x) (there (count x o) (eqb x x) (eq-eqb x x refl)))

    p : Pick
    p = r.0

    cancel : (a b c : ℕ) → a + b ≡ a + c → b ≡ c
    cancel a b c e = omega arith

    rest : (k : ℕ) → count k o ≡ count k p.rest
    rest k = cancel (one? k x) (count k o) (count k p.rest) (h k ∙ picked-count (y ∷ ys) p r.1 k ∙ ap (λ (z : ℕ). one? k z + count k p.rest) r.2)

-- ---- the given order
pub from-long : (i n : ℕ) → length (from i n) ≡ n
unfolding from
from-long i zero = refl
from-long i (suc n) = ap suc (from-long (suc i) n)

from_low : (i n k : ℕ) → k < i → count k (from i n) ≡ 0
unfolding from count
from_low i zero k h = refl
from_low i (suc n) k h = ap₂ (λ (t : Bool) (c : ℕ). cond t 1 0 + c) (ne_eqb k i (λ e. omega arith)) (from_low (suc i) n k (omega arith)) ∙ refl

from_in : (i n k : ℕ) → i ≤ k → k < i + n → count k (from i n) ≡ 1
unfolding from count
from_in i zero k h l = absurd (out i k h l)
  where
    out : (i k : ℕ) → i ≤ k → k < i + 0 → ⊥
    out i k h l = omega arith
from_in i (suc n) k h l = go (ℕ_discrete k i) (from_in (suc i) n k)
  where
    go : Dec (k ≡ i) → (suc i ≤ k → k < suc i + n → count k (from (suc i) n) ≡ 1) → cond (eqb k i) 1 0 + count k (from (suc i) n) ≡ 1
    go (yes e) ih = ap₂ (λ (t : Bool) (c : ℕ). cond t 1 0 + c) (eq-eqb k i e) (from_low (suc i) n k (omega arith))
    go (no ne) ih = ap₂ (λ (t : Bool) (c : ℕ). cond t 1 0 + c) (ne_eqb k i ne) (ih (past i k h ne) (omega arith))
      where
        past : (i k : ℕ) → i ≤ k → (k ≡ i → ⊥) → suc i ≤ k
        past i k h ne = omega arith

from-high : (i n k : ℕ) → i + n ≤ k → count k (from i n) ≡ 0
unfolding from count
from-high i zero k h = refl
from-high i (suc n) k h = ap₂ (λ (t : Bool) (c : ℕ). cond t 1 0 + c) (ne_eqb k i (λ e. omega arith)) (from-high (suc i) n k (omega arith))

pub given-count : (n k : ℕ) → count k (given n) ≡ cond (ltb k n) 1 0
given-count n k = go (ltb k n) refl
  where
    go : (t : Bool) → ltb k n ≡ t → count k (given n) ≡ cond t 1 0
    go true e = from_in 0 n k (omega arith) (let h : k < n = ltb-true k n e in omega arith)
    go false e = from-high 0 n k (let h : n ≤ k = ltb-false k n e in omega arith)

-- THE ORDERS: every order of n pieces is in the list, and nothing else is
pub orders-only : (n : ℕ) (o : List ℕ) → In o (orders n) → Order n o
orders-only n o m k = arranged-count n (given n) o (from-long 0 n) m k ∙ given-count n k

pub orders-all : (n : ℕ) (o : List ℕ) → Order n o → In o (orders n)
orders-all n o h = arranged-all n (given n) o (from-long 0 n) (λ k. h k ∙ sym (given-count n k))
