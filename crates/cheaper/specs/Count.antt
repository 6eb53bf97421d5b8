-- The orders by number: how many there are, which stands at a number, and that the numbers go in dictionary order. Assumes nothing.
use Rattle.std.specs.Prelude.{ℕ, zero, suc, ◌+◌, ◌*◌, ◌-◌, ◌/◌, ◌%◌, ◌≤◌, ◌<◌, ◌≡◌, refl, List, [], ◌∷◌, ◌++◌, map, length, get_or}
use Rattle.std.proofs.Common.{sym, ap, ap₂, ◌∙◌, subst, arith, mod-eq_of_lt, mul-pos, div-lt_iff_lt-mul, mod-lt, suc-mul, le_of_suc-le-suc, not-suc-le-zero, add-one, length-append, get_or-append-add}
use Rattle.std.proofs.Math.Nat.{div-eq_of_lt, div-eq-sub-div, mod-eq-sub-mod}
use Rattle.std.proofs.Math.Decide.{dec_lt}
use Rattle.std.proofs.lemmas.List.{length-map}
use Rattle.std.proofs.Math.ListN.{get_or-append}
use Rattle.cheaper.specs.Orders.{given, Pick, before, picks, each, arranged, orders, factorial}
use Rattle.cheaper.specs.Search.{removed, order_at}
use Rattle.cheaper.specs.Shuffles.{from-long}

pub factorial-pos : (n : ℕ) → 0 < factorial n
unfolding factorial
factorial-pos zero = omega arith
factorial-pos (suc n) = mul-pos (omega arith) (factorial-pos n)

-- ---- lists of blocks
abbrev no_pick : Pick
no_pick = record { one = 0; rest = [] }

blocks-long : {A B : Type 0} (f : A → List B) (l : List A) (e : A) (b : ℕ) → ((j : ℕ) → j < length l → length (f (get_or l j e)) ≡ b) → length (each f l) ≡ length l * b
unfolding each
blocks-long f [] e b h = sym (zero-times b)
  where
    zero-times : (b : ℕ) → 0 * b ≡ 0
    zero-times b = omega arith
blocks-long f (a ∷ l) e b h =
    length-append (f a) (each f l) ∙ ap₂ (λ (x y : ℕ). x + y) (h 0 (omega arith)) (blocks-long f l e b (λ j k. h (suc j) (omega arith))) ∙ sum b (length l * b) (suc (length l) * b)
    (suc-mul (length l) b)
  where
    sum : (x y z : ℕ) → z ≡ y + x → x + y ≡ z
    sum x y z e = omega arith

-- element i of equally long blocks stands in block i / b, at i % b
block_at : {A B : Type 0} (f : A → List B) (l : List A) (e : A) (d : B) (b i : ℕ) → 0 < b → ((j : ℕ) → j < length l → length (f (get_or l j e)) ≡ b) → i < length l * b
    → get_or (each f l) i d ≡ get_or (f (get_or l (i / b) e)) (i % b) d
unfolding each
block_at f [] e d b i p h k = absurd (none b i k)
  where
    none : (b i : ℕ) → i < 0 * b → ⊥
    none b i k = omega arith
block_at {A} {B} f (a ∷ l) e d b i p h k = go (dec_lt i b) (block_at f l e d b (i - b) p (λ j q. h (suc j) (omega arith)))
  where
    here : length (f a) ≡ b
    here = h 0 (omega arith)

    go : Dec (i < b) → (i - b < length l * b → get_or (each f l) (i - b) d ≡ get_or (f (get_or l ((i - b) / b) e)) ((i - b) % b) d)
        → get_or (f a ++ each f l) i d ≡ get_or (f (get_or (a ∷ l) (i / b) e)) (i % b) d
    go (yes q) ih =
        get_or-append (f a) (each f l) d i (subst (λ (n : ℕ). i < n) (sym here) q)
        ∙ sym (ap₂ (λ (x y : ℕ). get_or (f (get_or (a ∷ l) x e)) y d) (div-eq_of_lt q) (mod-eq_of_lt q))
    go (no q) ih =
        let le : b ≤ i = past i b q in
        let r : i - b < length l * b = under i b (length l * b) (suc (length l) * b) (suc-mul (length l) b) le k p in
        ap (λ (x : ℕ). get_or (f a ++ each f l) x d) (back i b (length (f a)) here le)
        ∙ get_or-append-add (f a) (each f l) (i - b) d
        ∙ ih r
        ∙ sym (ap₂ (λ (x y : ℕ). get_or (f (get_or (a ∷ l) x e)) y d) (div-eq-sub-div p le ∙ add-one ((i - b) / b)) (mod-eq-sub-mod le))
      where
        past : (i b : ℕ) → (i < b → ⊥) → b ≤ i
        past i b q = omega arith

        under : (i b m n : ℕ) → n ≡ m + b → b ≤ i → i < n → 0 < b → i - b < m
        under i b m n e le k p = omega arith

        back : (i b m : ℕ) → m ≡ b → b ≤ i → i ≡ m + (i - b)
        back i b m e le = omega arith

map_at : {A B : Type 0} (f : A → B) (l : List A) (j : ℕ) (d : A) (e : B) → j < length l → get_or (map f l) j e ≡ f (get_or l j d)
map_at f [] j d e h = absurd (not-suc-le-zero h)
map_at f (x ∷ l) zero d e h = refl
map_at f (x ∷ l) (suc j) d e h = map_at f l j d e (le_of_suc-le-suc h)

picks-long : (xs : List ℕ) → length (picks xs) ≡ length xs
unfolding picks
picks-long [] = refl
picks-long (x ∷ xs) = ap suc (length-map (picks xs) (before x) ∙ picks-long xs)

picks_at : (xs : List ℕ) (j : ℕ) → j < length xs → get_or (picks xs) j no_pick ≡ record { one = get_or xs j 0; rest = removed j xs }
unfolding picks removed
picks_at [] j h = absurd (not-suc-le-zero h)
picks_at (x ∷ xs) zero h = refl
picks_at (x ∷ xs) (suc j) h =
    map_at (before x) (picks xs) j no_pick no_pick (subst (λ (n : ℕ). j < n) (sym (picks-long xs)) (le_of_suc-le-suc h)) ∙ ap (before x) (picks_at xs j (le_of_suc-le-suc h))

pub removed-long : (xs : List ℕ) (j : ℕ) → j < length xs → length xs ≡ suc (length (removed j xs))
unfolding removed
removed-long [] j h = absurd (not-suc-le-zero h)
removed-long (x ∷ xs) zero h = refl
removed-long (x ∷ xs) (suc j) h = ap suc (removed-long xs j (le_of_suc-le-suc h))

less : (a b : ℕ) → suc a ≡ suc b → a ≡ b
less a b e = omega arith

-- the orders that begin with a pick
abbrev begun : ℕ → Pick → List (List ℕ)
begun n p = map (λ (o : List ℕ). p.one ∷ o) (arranged n p.rest)

rest-long : (n : ℕ) (xs : List ℕ) (j : ℕ) → length xs ≡ suc n → j < length (picks xs) → length (get_or (picks xs) j no_pick).rest ≡ n
rest-long n xs j e h =
    let k : j < length xs = subst (λ (m : ℕ). j < m) (picks-long xs) h in
    ap (λ (p : Pick). length p.rest) (picks_at xs j k) ∙ less (length (removed j xs)) n (sym (removed-long xs j k) ∙ e)

-- there are n! orders
pub arranged-long : (n : ℕ) (xs : List ℕ) → length xs ≡ n → length (arranged n xs) ≡ factorial n
unfolding arranged factorial
arranged-long zero xs e = refl
arranged-long (suc n) xs e =
    blocks-long (begun n) (picks xs) no_pick (factorial n)
    (λ j h. length-map (arranged n (get_or (picks xs) j no_pick).rest) (λ (o : List ℕ). (get_or (picks xs) j no_pick).one ∷ o) ∙ arranged-long n (get_or (picks xs) j no_pick).rest (rest-long n xs j e h))
    ∙ ap (λ (k : ℕ). k * factorial n) (picks-long xs ∙ e)

-- order number i
pub arranged-at : (n : ℕ) (xs : List ℕ) (i : ℕ) (d : List ℕ) → length xs ≡ n → i < factorial n → get_or (arranged n xs) i d ≡ order_at n xs i
unfolding arranged factorial order_at
arranged-at zero xs i d e h = go i h
  where
    go : (i : ℕ) → i < 1 → get_or ([] ∷ []) i d ≡ []
    go zero h = refl
    go (suc i) h = absurd (none i h)
      where
        none : (i : ℕ) → suc i < 1 → ⊥
        none i h = omega arith
arranged-at (suc n) xs i d e h =
    block_at (begun n) (picks xs) no_pick d (factorial n) i (factorial-pos n)
    (λ j h. length-map (arranged n (get_or (picks xs) j no_pick).rest) (λ (o : List ℕ). (get_or (picks xs) j no_pick).one ∷ o) ∙ arranged-long n (get_or (picks xs) j no_pick).rest (rest-long n xs j e h))
    (subst (λ (k : ℕ). i < k * factorial n) (sym (picks-long xs ∙ e)) h)
    ∙ ap (λ (p : Pick). get_or (begun n p) (i % factorial n) d) (picks_at xs (i / factorial n) low)
    ∙ map_at (λ (o : List ℕ). get_or xs (i / factorial n) 0 ∷ o) (arranged n (removed (i / factorial n) xs)) (i % factorial n) [] d
    (subst (λ (k : ℕ). i % factorial n < k) (sym (arranged-long n (removed (i / factorial n) xs) long)) (mod-lt i (factorial-pos n)))
    ∙ ap (λ (o : List ℕ). get_or xs (i / factorial n) 0 ∷ o) (arranged-at n (removed (i / factorial n) xs) (i % factorial n) [] long (mod-lt i (factorial-pos n)))
  where
    low : i / factorial n < length xs
    low = subst (λ (k : ℕ). i / factorial n < k) (sym e) ((div-lt_iff_lt-mul (factorial-pos n)).1 h)

    long : length (removed (i / factorial n) xs) ≡ n
    long = less (length (removed (i / factorial n) xs)) n (sym (removed-long xs (i / factorial n) low) ∙ e)

pub orders-long : (n : ℕ) → length (orders n) ≡ factorial n
orders-long n = arranged-long n (given n) (from-long 0 n)

pub orders-at : (n i : ℕ) (d : List ℕ) → i < factorial n → get_or (orders n) i d ≡ order_at n (given n) i
orders-at n i d h = arranged-at n (given n) i d (from-long 0 n) h
