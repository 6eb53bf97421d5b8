-- Orders by number, as the loop of `order_at` goes through them. Assumes nothing.
use Prim.Native.Nat.{ℕ, zero, suc, ◌+◌, ◌-◌, ◌/◌, ◌%◌, ◌≤◌, ◌<◌}
use mathlib.Core.Path.{◌≡◌, refl, sym, ap, ap₂, ◌∙◌, subst}
use mathlib.Core.List.{List, [], ◌∷◌, ◌++◌, append_assoc}
use native.Mathlib.Omega.{arith}
use native.Mathlib.Decide.{dec_lt}
use native.Mathlib.Nat.{div-lt_iff_lt-mul, mod-lt}
use lib.ListN.{length, get_or, take, set, replicate, length-append}
use lib.Seq.{get_or-take, set_at, ext_get_or, length-take-le}
use Rattle.cheaper.specs.Orders.{from, given, factorial}
use Rattle.cheaper.specs.Count.{factorial-pos, removed-long}
use Rattle.cheaper.specs.Dictionary.{removed-low, removed-high}
use Rattle.cheaper.specs.Search.{removed, order_at}

none : {A : Type 0} (n : ℕ) → n < 0 → A
none n h = absurd (omega arith)

pub step : (m : ℕ) (xs : List ℕ) (r : ℕ) → 0 < m → order_at m xs r ≡ get_or xs (r / factorial (m - 1)) 0 ∷ order_at (m - 1) (removed (r / factorial (m - 1)) xs) (r % factorial (m - 1))
unfolding order_at
step zero xs r h = none 0 h
step (suc m) xs r h =
    ap (λ (k : ℕ). get_or xs (r / factorial k) 0 ∷ order_at k (removed (r / factorial k) xs) (r % factorial k)) (one_less m)
  where
    one_less : (m : ℕ) → m ≡ suc m - 1
    one_less m = omega arith

pub digit_low : (m r : ℕ) → 0 < m → r < factorial m → r / factorial (m - 1) < m
unfolding factorial
digit_low zero r h l = none 0 h
digit_low (suc m) r h l = subst (λ (k : ℕ). r / factorial k < suc m) (one_less m) ((div-lt_iff_lt-mul (factorial-pos m)).1 l)
  where
    one_less : (m : ℕ) → m ≡ suc m - 1
    one_less m = omega arith

pub rest-low : (m r : ℕ) → r % factorial m < factorial m
rest-low m r = mod-lt r (factorial-pos m)

-- the places of eight pieces
abbrev pub eight : List ℕ
eight = 0 ∷ (1 ∷ (2 ∷ (3 ∷ (4 ∷ (5 ∷ (6 ∷ (7 ∷ [])))))))

pub all-given : (n : ℕ) → n ≤ 8 → take n eight ≡ given n
unfolding from
all-given zero h = refl
all-given (suc zero) h = refl
all-given (suc (suc zero)) h = refl
all-given (suc (suc (suc zero))) h = refl
all-given (suc (suc (suc (suc zero)))) h = refl
all-given (suc (suc (suc (suc (suc zero))))) h = refl
all-given (suc (suc (suc (suc (suc (suc zero)))))) h = refl
all-given (suc (suc (suc (suc (suc (suc (suc zero))))))) h = refl
all-given (suc (suc (suc (suc (suc (suc (suc (suc zero)))))))) h = refl
all-given (suc (suc (suc (suc (suc (suc (suc (suc (suc n))))))))) h = absurd (more n h)
  where
    more : (n : ℕ) → suc (suc (suc (suc (suc (suc (suc (suc (suc n)))))))) ≤ 8 → ⊥
    more n h = omega arith

abbrev pub factorials : List ℕ
factorials = 1 ∷ (1 ∷ (2 ∷ (6 ∷ (24 ∷ (120 ∷ (720 ∷ (5040 ∷ (40320 ∷ []))))))))

pub all-factorials : (n : ℕ) → n ≤ 8 → get_or factorials n 0 ≡ factorial n
unfolding factorial
all-factorials zero h = refl
all-factorials (suc zero) h = refl
all-factorials (suc (suc zero)) h = refl
all-factorials (suc (suc (suc zero))) h = refl
all-factorials (suc (suc (suc (suc zero)))) h = refl
all-factorials (suc (suc (suc (suc (suc zero))))) h = refl
all-factorials (suc (suc (suc (suc (suc (suc zero)))))) h = refl
all-factorials (suc (suc (suc (suc (suc (suc (suc zero))))))) h = refl
all-factorials (suc (suc (suc (suc (suc (suc (suc (suc zero)))))))) h = refl
all-factorials (suc (suc (suc (suc (suc (suc (suc (suc (suc n))))))))) h = absurd (more n h)
  where
    more : (n : ℕ) → suc (suc (suc (suc (suc (suc (suc (suc (suc n)))))))) ≤ 8 → ⊥
    more n h = omega arith

-- the elements past j moved down by one
pub moved_down : (left r : List ℕ) (m j : ℕ) → length left ≡ 8 → length r ≡ 8 → m ≤ 8 → j < m
    → ((q : ℕ) → q < j → get_or r q 0 ≡ get_or left q 0) → ((q : ℕ) → j ≤ q → q + 1 < m → get_or r q 0 ≡ get_or left (suc q) 0)
    → take (m - 1) r ≡ removed j (take m left)
moved_down left r m j le lr h k low high =
    ext_get_or 0 (take (m - 1) r) (removed j (take m left)) (short ∙ less (m - 1) (length (removed j (take m left))) m (omega arith)
    (sym long ∙ removed-long (take m left) j (subst (λ (n : ℕ). j < n) (sym long) k)))
    (λ q l. at q (subst (λ (n : ℕ). q < n) short l) (dec_lt q j))
  where
    long : length (take m left) ≡ m
    long = length-take-le m left (subst (λ (n : ℕ). m ≤ n) (sym le) h)

    short : length (take (m - 1) r) ≡ m - 1
    short = length-take-le (m - 1) r (omega arith)

    less : (a b m : ℕ) → suc a ≡ m → m ≡ suc b → a ≡ b
    less a b m p q = omega arith

    at : (q : ℕ) → q < m - 1 → Dec (q < j) → get_or (take (m - 1) r) q 0 ≡ get_or (removed j (take m left)) q 0
    at q l (yes a) = get_or-take (m - 1) r q 0 l ∙ low q a ∙ sym (get_or-take m left q 0 (omega arith)) ∙ sym (removed-low (take m left) j q a)
    at q l (no a) = get_or-take (m - 1) r q 0 l ∙ high q (omega arith) (omega arith) ∙ sym (get_or-take m left (suc q) 0 (omega arith)) ∙ sym (removed-high (take m left) j q (omega arith))

-- one more element behind d, of an array whose rest is 0
pub put_next : (d : List ℕ) (n k v : ℕ) → length d ≡ n → n + suc k ≡ 8 → set (d ++ replicate (8 - n) 0) n v ≡ (d ++ (v ∷ [])) ++ replicate (8 - (n + 1)) 0
put_next d n k v e s =
    ap (λ (i : ℕ). set (d ++ replicate i 0) n v) here
    ∙ set_at d 0 (replicate k 0) v n e
    ∙ sym (append_assoc d (v ∷ []) (replicate k 0))
    ∙ ap (λ (i : ℕ). (d ++ (v ∷ [])) ++ replicate i 0) next
  where
    here : 8 - n ≡ suc k
    here = omega arith

    next : k ≡ 8 - (n + 1)
    next = omega arith

-- one turn: the element that the next digit names goes behind d, and is taken out of what is left
pub turn : (n k m m' r b : ℕ) (out left left' d o : List ℕ) → n ≤ 8 → k + m ≡ n → suc m' ≡ m → r < factorial m → b ≡ factorial (m - 1)
    → out ≡ d ++ replicate (8 - k) 0 → length d ≡ k → d ++ order_at m (take m left) r ≡ o → take (m - 1) left' ≡ removed (r / b) (take m left)
    → (e : List ℕ) × (set out k (get_or left (r / b) 0) ≡ e ++ replicate (8 - (k + 1)) 0) × (length e ≡ k + 1) × (e ++ order_at m' (take m' left') (r % b) ≡ o)
turn n k m m' r b out left left' d o h s more low eb eo ed whole removal = (d ++ (v ∷ []), written, length-append d (v ∷ []) ∙ ap (λ (i : ℕ). i + 1) ed, goes)
  where
    v : ℕ
    v = get_or left (r / b) 0

    p : 0 < m
    p = omega arith

    less : m - 1 ≡ m'
    less = omega arith

    written : set out k v ≡ (d ++ (v ∷ [])) ++ replicate (8 - (k + 1)) 0
    written = ap (λ (l : List ℕ). set l k v) eo ∙ put_next d k (8 - k - 1) v ed (omega arith)

    digit : r / b < m
    digit = subst (λ (x : ℕ). r / x < m) (sym eb) (digit_low m r p low)

    goes : (d ++ (v ∷ [])) ++ order_at m' (take m' left') (r % b) ≡ o
    goes =
        subst (λ (i : ℕ). (d ++ (v ∷ [])) ++ order_at i (take i left') (r % b) ≡ o) less
        (append_assoc d (v ∷ []) (order_at (m - 1) (take (m - 1) left') (r % b))
        ∙ ap₂ (λ (x : ℕ) (l : List ℕ). d ++ (x ∷ order_at (m - 1) l (r % b))) (sym (get_or-take m left (r / b) 0 digit)) removal
        ∙ ap (λ (x : ℕ). d ++ (get_or (take m left) (r / x) 0 ∷ order_at (m - 1) (removed (r / x) (take m left)) (r % x))) eb
        ∙ ap (λ (l : List ℕ). d ++ l) (sym (step m (take m left) r p))
        ∙ whole)
