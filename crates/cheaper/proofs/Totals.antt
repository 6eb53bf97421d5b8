-- Prices along an order, as the code sums them; the elements of an order. Assumes nothing.
use Prim.Native.Nat.{ℕ, zero, suc, ◌+◌, ◌-◌, ◌≤◌, ◌<◌, min}
use mathlib.Core.Path.{◌≡◌, refl, sym, ap, ◌∙◌, subst}
use mathlib.Core.Bool.{Bool, true, false}
use mathlib.Core.List.{List, [], ◌∷◌, ◌++◌}
use native.Mathlib.Omega.{arith}
use native.Mathlib.Nat.{le_of_suc-le-suc, not-suc-le-zero, min-eq_left, min-eq_right}
use borrow.Author.Tests.{ltb-true, ltb-false}
use lib.Dec.{ltb}
use lib.ListN.{length, get_or, take, drop, replicate}
use lib.Seq.{drop-cons, get_or-take, length-take-le, take_all, drop-length}
use mathlib.Core.Logic.{inl, inr}
use Rattle.cheaper.specs.Orders.{given, orders, factorial, In}
use Rattle.cheaper.specs.Budget.{first-order}
use Rattle.cheaper.specs.Count.{orders-long, orders-at}
use Rattle.cheaper.specs.Prices.{along, total, tried}
use Rattle.cheaper.specs.Same.{All, all-order}
use Rattle.cheaper.specs.Search.{order_at}

-- one step back
pub total-step : (d : ℕ → ℕ → ℕ) (l : List ℕ) (j : ℕ) → suc j < length l → total d (drop j l) ≡ d (get_or l j 0) (get_or l (suc j) 0) + total d (drop (suc j) l)
unfolding along
total-step d [] j h = absurd (not-suc-le-zero h)
total-step d (x ∷ []) j h = absurd (not-suc-le-zero (le_of_suc-le-suc h))
total-step d (x ∷ (y ∷ l)) zero h = refl
total-step d (x ∷ (y ∷ l)) (suc j) h = total-step d (y ∷ l) j (le_of_suc-le-suc h)

pub total-last : (d : ℕ → ℕ → ℕ) (l : List ℕ) → total d (drop (length l - 1) l) ≡ 0
unfolding along
total-last d [] = ap (λ (k : ℕ). total d (drop k [])) (nil)
  where
    nil : 0 - 1 ≡ 0
    nil = omega arith
total-last d (x ∷ l) = ap (λ (k : ℕ). total d (drop k (x ∷ l))) (less (length l)) ∙ end x l
  where
    less : (n : ℕ) → suc n - 1 ≡ n
    less n = omega arith

    end : (x : ℕ) (l : List ℕ) → total d (drop (length l) (x ∷ l)) ≡ 0
    end x [] = refl
    end x (y ∷ l) = end y l

-- ---- the elements of an order
pub all-at : (b : ℕ) (l : List ℕ) (q : ℕ) → 0 < b → All b l → get_or l q 0 < b
all-at b [] q p h = p
all-at b (x ∷ l) zero p h = h.0
all-at b (x ∷ l) (suc q) p h = all-at b l q p h.1

pub in-at : {A : Type 0} (l : List A) (i : ℕ) (d : A) → i < length l → In (get_or l i d) l
in-at [] i d h = absurd (not-suc-le-zero h)
in-at (x ∷ l) zero d h = inl refl
in-at (x ∷ l) (suc i) d h = inr (in-at l i d (le_of_suc-le-suc h))

pub order-in : (n i : ℕ) → i < factorial n → In (order_at n (given n) i) (orders n)
order-in n i h = subst (λ (o : List ℕ). In o (orders n)) (orders-at n i [] h) (in-at (orders n) i [] (subst (λ (k : ℕ). i < k) (sym (orders-long n)) h))

all-zeros : (b k : ℕ) → 0 < b → All b (replicate k 0)
all-zeros b zero p = tt
all-zeros b (suc k) p = (p, all-zeros b k p)

all_append : (b : ℕ) (l r : List ℕ) → All b l → All b r → All b (l ++ r)
all_append b [] r h k = k
all_append b (x ∷ l) r h k = (h.0, all_append b l r h.1 k)

pub padded-low : (n i q : ℕ) → n ≤ 8 → i < factorial n → get_or (order_at n (given n) i ++ replicate (8 - n) 0) q 0 < 8
padded-low n i q h l = all-at 8 (order_at n (given n) i ++ replicate (8 - n) 0) q (omega arith)
    (all_append 8 (order_at n (given n) i) (replicate (8 - n) 0) (all-order 8 n (order_at n (given n) i) h (order-in n i l)) (all-zeros 8 (8 - n) (omega arith)))

-- ---- the loop over the orders
-- the orders that are left begin with order number i
pub left-begins : (n turns i : ℕ) → i < turns → turns ≤ factorial n → drop i (take turns (orders n)) ≡ order_at n (given n) i ∷ drop (suc i) (take turns (orders n))
left-begins n turns i h l =
    drop-cons (take turns (orders n)) i [] (subst (λ (k : ℕ). i < k) (sym (length-take-le turns (orders n) (subst (λ (k : ℕ). turns ≤ k) (sym (orders-long n)) l))) h)
    ∙ ap (λ (o : List ℕ). o ∷ drop (suc i) (take turns (orders n))) (get_or-take turns (orders n) i [] h ∙ orders-at n i [] (omega arith))

pub left-none : (n turns : ℕ) → turns ≤ factorial n → drop turns (take turns (orders n)) ≡ []
left-none n turns l =
    ap (λ (k : ℕ). drop k (take turns (orders n))) (sym (length-take-le turns (orders n) (subst (λ (k : ℕ). turns ≤ k) (sym (orders-long n)) l))) ∙ drop-length (take turns (orders n))

pub first-is : (n : ℕ) → 0 < factorial n → order_at n (given n) 0 ≡ given n
first-is n h = sym (orders-at n 0 [] h) ∙ first-order n []

-- a budget above all orders tries them all
pub all-tried : (n budget : ℕ) → tried n (min budget (factorial n)) ≡ tried n budget
all-tried n budget = ap (drop 1) (go (ltb budget (factorial n)) refl)
  where
    go : (t : Bool) → ltb budget (factorial n) ≡ t → take (min budget (factorial n)) (orders n) ≡ take budget (orders n)
    go true e = let h : budget < factorial n = ltb-true budget (factorial n) e in let l : budget ≤ factorial n = omega arith in ap (λ (k : ℕ). take k (orders n)) (min-eq_left l)
    go false e =
        let h : factorial n ≤ budget = ltb-false budget (factorial n) e in
        ap (λ (k : ℕ). take k (orders n)) (min-eq_right h) ∙ take_all (factorial n) (orders n) (omega (arith, orders-long n)) ∙ sym (take_all budget (orders n) (omega (arith, orders-long n)))
