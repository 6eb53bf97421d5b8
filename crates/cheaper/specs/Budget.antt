-- The cheapest order within a budget: it is an order, no order tried is cheaper, a larger budget never gives a dearer one, a budget of all orders gives the least price. Assumes nothing.
use Rattle.std.specs.Prelude.{ℕ, zero, suc, ◌≤◌, ◌<◌, ◌≡◌, refl, Bool, true, false, cond, List, [], ◌∷◌, ◌++◌, map, ltb, length, get_or, take, drop}
use Rattle.std.proofs.Common.{sym, ap, ◌∙◌, subst, inl, inr, arith, take_all, ltb-true, ltb-false}
use Rattle.cheaper.specs.Orders.{Order, from, given, Pick, picks, each, arranged, orders, In}
use Rattle.cheaper.specs.Shuffles.{orders-only, orders-all}
use Rattle.cheaper.specs.Prices.{price_of, cheapest, tried, chosen}

-- ---- the cheapest of a list
pub cheapest-in : (f : List ℕ → ℕ) (x : List ℕ) (ys : List (List ℕ)) → In (cheapest f x ys) (x ∷ ys)
unfolding cheapest
cheapest-in f x [] = inl refl
cheapest-in f x (y ∷ ys) = go (ltb (f y) (f x)) (λ t. cheapest-in f (cond t y x) ys)
  where
    go : (t : Bool) → ((u : Bool) → In (cheapest f (cond u y x) ys) (cond u y x ∷ ys)) → In (cheapest f (cond t y x) ys) (x ∷ (y ∷ ys))
    go true ih = inr (ih true)
    go false ih = near (ih false)
      where
        near : In (cheapest f x ys) (x ∷ ys) → In (cheapest f x ys) (x ∷ (y ∷ ys))
        near (inl e) = inl e
        near (inr m) = inr (inr m)

-- it is at most what it starts from
pub below-start : (f : List ℕ → ℕ) (x : List ℕ) (ys : List (List ℕ)) → f (cheapest f x ys) ≤ f x
unfolding cheapest
below-start f x [] = omega arith
below-start f x (y ∷ ys) = go (ltb (f y) (f x)) refl (λ t. below-start f (cond t y x) ys)
  where
    go : (t : Bool) → ltb (f y) (f x) ≡ t → ((u : Bool) → f (cheapest f (cond u y x) ys) ≤ f (cond u y x)) → f (cheapest f (cond t y x) ys) ≤ f x
    go true e ih = let a = ih true in let b = ltb-true (f y) (f x) e in omega arith
    go false e ih = ih false

pub cheapest-least : (f : List ℕ → ℕ) (x : List ℕ) (ys : List (List ℕ)) (z : List ℕ) → In z (x ∷ ys) → f (cheapest f x ys) ≤ f z
unfolding cheapest
cheapest-least f x [] z (inl e) = subst (λ (k : ℕ). f x ≤ k) (ap f (sym e)) (omega arith)
cheapest-least f x [] z (inr m) = absurd m
cheapest-least f x (y ∷ ys) z (inl e) = subst (λ (k : ℕ). f (cheapest f x (y ∷ ys)) ≤ k) (ap f (sym e)) (below-start f x (y ∷ ys))
cheapest-least f x (y ∷ ys) z (inr m) = go (ltb (f y) (f x)) refl m (λ t k. cheapest-least f (cond t y x) ys z k)
  where
    go : (t : Bool) → ltb (f y) (f x) ≡ t → In z (y ∷ ys) → ((u : Bool) → In z (cond u y x ∷ ys) → f (cheapest f (cond u y x) ys) ≤ f z) → f (cheapest f (cond t y x) ys) ≤ f z
    go true e k ih = ih true k
    go false e (inl q) ih =
        let a : f (cheapest f x ys) ≤ f x = below-start f x ys in
        let b : f x ≤ f y = ltb-false (f y) (f x) e in
        let c : f z ≡ f y = ap f q in
        omega arith
    go false e (inr k) ih = ih false (inr k)

-- ---- orders tried
-- the first order is the given one
first-given : (n i : ℕ) → (os : List (List ℕ)) × (arranged n (from i n) ≡ from i n ∷ os)
unfolding arranged picks each from
first-given zero i = ([], refl)
first-given (suc n) i = go (first-given n (suc i))
  where
    rest : List (List ℕ)
    rest = each (λ (p : Pick). map (λ (o : List ℕ). p.one ∷ o) (arranged n p.rest)) (map (λ (p : Pick). record { one = p.one; rest = i ∷ p.rest }) (picks (from (suc i) n)))

    go : (os : List (List ℕ)) × (arranged n (from (suc i) n) ≡ from (suc i) n ∷ os) → (os : List (List ℕ)) × (arranged (suc n) (from i (suc n)) ≡ from i (suc n) ∷ os)
    go (os, e) = (map (λ (o : List ℕ). i ∷ o) os ++ rest, ap (λ (l : List (List ℕ)). map (λ (o : List ℕ). i ∷ o) l ++ rest) e)

pub in_take : {A : Type 0} (z : A) (n : ℕ) (l : List A) → In z (take n l) → In z l
in_take z zero l m = absurd m
in_take z (suc n) [] m = absurd m
in_take z (suc n) (x ∷ l) (inl e) = inl e
in_take z (suc n) (x ∷ l) (inr m) = inr (in_take z n l m)

more-take : {A : Type 0} (z : A) (n m : ℕ) (l : List A) → n ≤ m → In z (take n l) → In z (take m l)
more-take z zero m l h k = absurd k
more-take z (suc n) zero l h k = absurd (none n h)
  where
    none : (n : ℕ) → suc n ≤ 0 → ⊥
    none n h = omega arith
more-take z (suc n) (suc m) [] h k = absurd k
more-take z (suc n) (suc m) (x ∷ l) h (inl e) = inl e
more-take z (suc n) (suc m) (x ∷ l) h (inr k) = inr (more-take z n m l (less n m h) k)
  where
    less : (a b : ℕ) → suc a ≤ suc b → a ≤ b
    less a b h = omega arith

-- with a budget above 0 the tried ones, the given one first, are so many of `orders`
pub tried-is : (n budget : ℕ) → 0 < budget → given n ∷ tried n budget ≡ take budget (orders n)
tried-is n zero h = absurd (none h)
  where
    none : 0 < 0 → ⊥
    none h = omega arith
tried-is n (suc b) h = go (first-given n 0)
  where
    go : (os : List (List ℕ)) × (orders n ≡ given n ∷ os) → given n ∷ drop 1 (take (suc b) (orders n)) ≡ take (suc b) (orders n)
    go (os, e) = ap (λ (l : List (List ℕ)). given n ∷ drop 1 (take (suc b) l)) e ∙ sym (ap (take (suc b)) e)

-- each of them is an order
pub tried-in : (n budget : ℕ) (z : List ℕ) → 0 < budget → In z (given n ∷ tried n budget) → In z (orders n)
tried-in n budget z p m = in_take z budget (orders n) (subst (λ (l : List (List ℕ)). In z l) (tried-is n budget p) m)

-- ---- THE THEOREMS
module _ (v : ℕ → ℕ → ℕ) (n : ℕ) where
  -- what is returned is an order of all pieces
  pub chosen-order : (budget : ℕ) → 0 < budget → Order n (chosen v n budget)
  chosen-order budget h =
      orders-only n (chosen v n budget) (tried-in n budget (chosen v n budget) h (cheapest-in (price_of v) (given n) (tried n budget)))

  -- no order tried is cheaper
  pub chosen-least : (budget : ℕ) (o : List ℕ) → 0 < budget → In o (take budget (orders n)) → price_of v (chosen v n budget) ≤ price_of v o
  chosen-least budget o h m = cheapest-least (price_of v) (given n) (tried n budget) o (subst (λ (l : List (List ℕ)). In o l) (sym (tried-is n budget h)) m)

  -- "A larger budget never gives a dearer order"
  pub larger-budget : (a b : ℕ) → 0 < a → a ≤ b → price_of v (chosen v n b) ≤ price_of v (chosen v n a)
  larger-budget a b h l =
      chosen-least b (chosen v n a) (omega arith)
      (more-take (chosen v n a) a b (orders n) l
      (subst (λ (l : List (List ℕ)). In (chosen v n a) l) (tried-is n a h) (cheapest-in (price_of v) (given n) (tried n a))))

  -- "a budget of all orders gives the least price"
  pub all-orders : (budget : ℕ) (o : List ℕ) → 0 < budget → length (orders n) ≤ budget → Order n o → price_of v (chosen v n budget) ≤ price_of v o
  all-orders budget o h l q = chosen-least budget o h (subst (λ (l : List (List ℕ)). In o l) (sym (take_all budget (orders n) l)) (orders-all n o q))

pub first-order : (n : ℕ) (d : List ℕ) → get_or (orders n) 0 d ≡ given n
first-order n d = go (first-given n 0)
  where
    go : (os : List (List ℕ)) × (orders n ≡ given n ∷ os) → get_or (orders n) 0 d ≡ given n
    go (os, e) = ap (λ (l : List (List ℕ)). get_or l 0 d) e
