-- The places of an order are places; prices that agree below a bound agree along every order of such places, and choose the same. Assumes nothing.
use Rattle.std.specs.Prelude.{ℕ, zero, suc, ◌+◌, ◌≤◌, ◌<◌, ◌≡◌, refl, Bool, true, false, cond, List, [], ◌∷◌, map, ltb, length}
use Rattle.std.proofs.Common.{sym, ap, ap₂, ◌∙◌, subst, inl, inr, arith}
use Rattle.cheaper.specs.Orders.{from, given, Pick, before, picks, arranged, orders, In}
use Rattle.cheaper.specs.Shuffles.{map_cases, each-cases}
use Rattle.cheaper.specs.Prices.{along, total, cheapest}

-- the elements of a list are below b
abbrev pub All : ℕ → List ℕ → Type 0
All b [] = Unit {0}
All b (x ∷ xs) = (x < b) × All b xs

all-given : (b i n : ℕ) → i + n ≤ b → All b (from i n)
unfolding from
all-given b i zero h = tt
all-given b i (suc n) h = (omega arith, all-given b (suc i) n (omega arith))

all-pick : (b : ℕ) (xs : List ℕ) (p : Pick) → All b xs → In p (picks xs) → (p.one < b) × All b p.rest
unfolding picks
all-pick b [] p h m = absurd m
all-pick b (x ∷ xs) p h (inl e) = subst (λ (q : Pick). (q.one < b) × All b q.rest) (sym e) h
all-pick b (x ∷ xs) p h (inr m) =
    let r = map_cases (before x) (picks xs) p m in
    let k = all-pick b xs r.0 h.1 r.1 in
    subst (λ (q : Pick). (q.one < b) × All b q.rest) (sym r.2) (k.0, (h.0, k.1))

all-arranged : (b n : ℕ) (xs o : List ℕ) → All b xs → In o (arranged n xs) → All b o
unfolding arranged
all-arranged b zero xs o h (inl e) = subst (All b) (sym e) tt
all-arranged b (suc n) xs o h m =
    let r = each-cases (λ (p : Pick). map (λ (o : List ℕ). p.one ∷ o) (arranged n p.rest)) (picks xs) o m in
    let q = map_cases (λ (o : List ℕ). r.0.one ∷ o) (arranged n r.0.rest) o r.2 in
    let k = all-pick b xs r.0 h r.1 in
    subst (All b) (sym q.2) (k.0, all-arranged b n r.0.rest q.0 k.1 q.1)
all-arranged b zero xs o h (inr x3) = elim x3 [ ]

-- every place of an order is a place
pub all-order : (b n : ℕ) (o : List ℕ) → n ≤ b → In o (orders n) → All b o
all-order b n o h m = all-arranged b n (given n) o (all-given b 0 n (omega arith)) m

-- an order has as many places as there are pieces
arranged-places : (n : ℕ) (xs o : List ℕ) → In o (arranged n xs) → length o ≡ n
unfolding arranged
arranged-places zero xs o (inl e) = ap length e
arranged-places (suc n) xs o m =
    let r = each-cases (λ (p : Pick). map (λ (o : List ℕ). p.one ∷ o) (arranged n p.rest)) (picks xs) o m in
    let q = map_cases (λ (o : List ℕ). r.0.one ∷ o) (arranged n r.0.rest) o r.2 in
    ap length q.2 ∙ ap suc (arranged-places n r.0.rest q.0 q.1)
arranged-places zero xs o (inr x'') = elim x'' [ ]

pub order-places : (n : ℕ) (o : List ℕ) → In o (orders n) → length o ≡ n
order-places n o m = arranged-places n (given n) o m

-- prices that agree below b
along-same : (d e : ℕ → ℕ → ℕ) (b a : ℕ) (o : List ℕ) → ((x y : ℕ) → x < b → y < b → d x y ≡ e x y) → a < b → All b o → along d a o ≡ along e a o
unfolding along
along-same d e b a [] h p k = refl
along-same d e b a (x ∷ o) h p k = ap₂ (λ (m n : ℕ). m + n) (h a x p k.0) (along-same d e b x o h k.0 k.1)

pub total-same : (d e : ℕ → ℕ → ℕ) (b : ℕ) (o : List ℕ) → ((x y : ℕ) → x < b → y < b → d x y ≡ e x y) → All b o → total d o ≡ total e o
total-same d e b [] h k = refl
total-same d e b (x ∷ o) h k = along-same d e b x o h k.0 k.1

pub cheapest-same : (f g : List ℕ → ℕ) (x : List ℕ) (ys : List (List ℕ)) → ((z : List ℕ) → In z (x ∷ ys) → f z ≡ g z) → cheapest f x ys ≡ cheapest g x ys
unfolding cheapest
cheapest-same f g x [] h = refl
cheapest-same f g x (y ∷ ys) h =
    ap₂ (λ (p q : ℕ). cheapest f (cond (ltb p q) y x) ys) (h y (inr (inl refl))) (h x (inl refl))
    ∙ cheapest-same f g (cond (ltb (g y) (g x)) y x) ys (λ z m. go (ltb (g y) (g x)) z m)
  where
    go : (t : Bool) (z : List ℕ) → In z (cond t y x ∷ ys) → f z ≡ g z
    go true z (inl e) = h z (inr (inl e))
    go true z (inr m) = h z (inr (inr m))
    go false z (inl e) = h z (inl e)
    go false z (inr m) = h z (inr (inr m))
