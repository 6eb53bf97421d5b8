-- The laws of masks: `test-set`, `test-clear`, `test-or`, `test-and`, `test-without` (a place after each operation), `test-beyond` (a mask has no place past its width),
-- `ext` (two masks with the same places are the same), `ones-places` (the count is the length of the list of places), `places-lowest` (the lowest place comes first), `nth-rest`. Assumes nothing.
-- `first_place`: what `next` cites.
use Rattle.std.specs.Prelude.{ℕ, zero, suc, ◌+◌, ◌-◌, ◌*◌, ◌/◌, ◌%◌, ◌^◌, ◌≤◌, ◌<◌, min, max, ◌≡◌, refl, Bool, true, false, not, ◌&&◌, ◌||◌, ◌⊎◌, List, [], ◌∷◌, ltb, eqb, length, get_or, take}
use Rattle.std.proofs.Common.{sym, ap, ap₂, ◌∙◌, subst, inl, inr, not-suc-le-zero, le_of_suc-le-suc, one-mul, mod-eq_of_lt, mod-lt, pow-suc, zero-lt-suc, div-add-mod', mul-div_cancel, eq-zero-or-pos, add-zero, add_comm, lt_of_lt_of_le, add-suc, suc-add, mul-one, lt_irrefl, mul_assoc, zero-add, zero-mul, arith, ne_eqb, lt-ltb, le-ltb, ltb-true, ltb-false, length-take, pow_pos, pow_mono}
use Rattle.std.proofs.Math.Nat.{mul-mod_left, zero-min, min-zero, zero-max}
use Rattle.std.proofs.Math.Dec.{eqb-zero-suc, eqb-suc-zero, eqb-suc-suc}
use Rattle.std.proofs.Math.Arith.{digits_div, digits_mod, lt-one, bin_ind}
use Rattle.std.proofs.Math.Pow.{pow-lt}
use Rattle.std.specs.Int.Count.{ones, ones_step, count_trailing_zeros, trailing_of_zero}
use Rattle.std.proofs.lemmas.Nat.{ones-le, and_le_r, or_lt, and_mask}
use Rattle.std.specs.Int.Bits.{bit_and, bit_or, bit_xor, and_step, or_step, xor_step, and_self, xor_zero_r, or_shifted_r, and_zero_r, and_zero_l}
use Rattle.mask.specs.Mask.{is_one, digit_of, odd, test_bit, bit_at, set_bit, set_bit_if, without, clear_bit, rest, mask_of, flags_of, cons?, places_from, places}

-- ---- digits
small : (n : ℕ) → n % 2 < 2
small n = mod-lt n (zero-lt-suc 1)

pub half_of : (x c : ℕ) → c < 2 → (x * 2 + c) / 2 ≡ x
half_of x c h = digits_div x h

pub low_of : (x c : ℕ) → c < 2 → (x * 2 + c) % 2 ≡ c
low_of x c h = digits_mod x h

-- a digit is 0 or 1
digit-cases : (P : ℕ → Type 0) → P 0 → P 1 → (c : ℕ) → c < 2 → P c
digit-cases P p q zero h = p
digit-cases P p q (suc zero) h = q
digit-cases P p q (suc (suc c)) h = absurd (not-suc-le-zero (le_of_suc-le-suc (le_of_suc-le-suc h)))

max-lt2 : (x y : ℕ) → x < 2 → y < 2 → max x y < 2
max-lt2 x y h k = digit-cases (λ (c : ℕ). max c y < 2) (digit-cases (λ (c : ℕ). max 0 c < 2) (omega arith) (omega arith) y k) (digit-cases (λ (c : ℕ). max 1 c < 2) (omega arith) (omega arith) y k) x h

min-lt2 : (x y : ℕ) → x < 2 → y < 2 → min x y < 2
min-lt2 x y h k = digit-cases (λ (c : ℕ). min c y < 2) (digit-cases (λ (c : ℕ). min 0 c < 2) (omega arith) (omega arith) y k) (digit-cases (λ (c : ℕ). min 1 c < 2) (omega arith) (omega arith) y k) x h

is_one-max : (x y : ℕ) → x < 2 → y < 2 → is_one (max x y) ≡ (is_one x || is_one y)
is_one-max x y h k = digit-cases (λ (c : ℕ). is_one (max c y) ≡ (is_one c || is_one y)) (digit-cases (λ (c : ℕ). is_one (max 0 c) ≡ (is_one 0 || is_one c)) refl refl y k) (digit-cases (λ (c : ℕ). is_one (max 1 c) ≡ (is_one 1 || is_one c)) refl refl y k) x h

is_one-min : (x y : ℕ) → x < 2 → y < 2 → is_one (min x y) ≡ (is_one x && is_one y)
is_one-min x y h k = digit-cases (λ (c : ℕ). is_one (min c y) ≡ (is_one c && is_one y)) (digit-cases (λ (c : ℕ). is_one (min 0 c) ≡ (is_one 0 && is_one c)) refl refl y k) (digit-cases (λ (c : ℕ). is_one (min 1 c) ≡ (is_one 1 && is_one c)) refl refl y k) x h

pub or-half : (a b : ℕ) → bit_or a b / 2 ≡ bit_or (a / 2) (b / 2)
or-half a b = ap (λ (x : ℕ). x / 2) (or_step a b) ∙ half_of _ _ (max-lt2 _ _ (small a) (small b))

pub or-odd : (a b : ℕ) → odd (bit_or a b) ≡ (odd a || odd b)
or-odd a b = ap odd (or_step a b) ∙ ap is_one (low_of _ _ (max-lt2 _ _ (small a) (small b))) ∙ is_one-max _ _ (small a) (small b)

pub and-half : (a b : ℕ) → bit_and a b / 2 ≡ bit_and (a / 2) (b / 2)
and-half a b = ap (λ (x : ℕ). x / 2) (and_step a b) ∙ half_of _ _ (min-lt2 _ _ (small a) (small b))

pub and-odd : (a b : ℕ) → odd (bit_and a b) ≡ (odd a && odd b)
and-odd a b = ap odd (and_step a b) ∙ ap is_one (low_of _ _ (min-lt2 _ _ (small a) (small b))) ∙ is_one-min _ _ (small a) (small b)

-- ---- the test of a place
pub test-or : (a b i : ℕ) → test_bit (bit_or a b) i ≡ (test_bit a i || test_bit b i)
unfolding test_bit
test-or a b zero = or-odd a b
test-or a b (suc i) = ap (λ (x : ℕ). test_bit x i) (or-half a b) ∙ test-or (a / 2) (b / 2) i

pub test-and : (a b i : ℕ) → test_bit (bit_and a b) i ≡ (test_bit a i && test_bit b i)
unfolding test_bit
test-and a b zero = and-odd a b
test-and a b (suc i) = ap (λ (x : ℕ). test_bit x i) (and-half a b) ∙ test-and (a / 2) (b / 2) i

pub test_zero : (i : ℕ) → test_bit 0 i ≡ false
unfolding test_bit
test_zero zero = refl
test_zero (suc i) = test_zero i

pow-half : (j : ℕ) → 2 ^ suc j / 2 ≡ 2 ^ j
pow-half j = ap (λ (x : ℕ). x / 2) (pow-suc 2 j) ∙ mul-div_cancel (2 ^ j) (zero-lt-suc 1)

pow_even : (j : ℕ) → 2 ^ suc j % 2 ≡ 0
pow_even j = ap (λ (x : ℕ). x % 2) (pow-suc 2 j) ∙ mul-mod_left (2 ^ j) 2

pub test-pow : (i j : ℕ) → test_bit (2 ^ j) i ≡ eqb i j
unfolding test_bit
test-pow zero zero = refl
test-pow zero (suc j) = ap is_one (pow_even j) ∙ sym (eqb-zero-suc j)
test-pow (suc i) zero = test_zero i ∙ sym (eqb-suc-zero i)
test-pow (suc i) (suc j) = ap (λ (x : ℕ). test_bit x i) (pow-half j) ∙ test-pow i j ∙ sym (eqb-suc-suc i j)

pub bit-at : (j : ℕ) → j < 32 → bit_at j ≡ 2 ^ j
unfolding bit_at
bit-at j h = rw (lt-ltb j 32 h)

pub bit-none : (j : ℕ) → 32 ≤ j → bit_at j ≡ 0
unfolding bit_at
bit-none j h = rw (le-ltb j 32 h)

-- place i after place j is put in
pub test-set : (m i j : ℕ) → j < 32 → test_bit (set_bit m j) i ≡ (test_bit m i || eqb i j)
unfolding set_bit
test-set m i j h = ap (λ (x : ℕ). test_bit (bit_or m x) i) (bit-at j h) ∙ test-or m (2 ^ j) i ∙ ap (λ (b : Bool). test_bit m i || b) (test-pow i j)

-- a mask of k places has no place from k on
pub test-beyond : (k m i : ℕ) → m < 2 ^ k → k ≤ i → test_bit m i ≡ false
unfolding test_bit
test-beyond zero m i h l = ap (λ (x : ℕ). test_bit x i) (lt-one h) ∙ test_zero i
test-beyond (suc k) m zero h l = absurd (not-suc-le-zero l)
test-beyond (suc k) m (suc i) h l = test-beyond k (m / 2) i (omega (arith, pow-suc 2 k)) (le_of_suc-le-suc l)

-- ---- all k digits turned over
digit_not : (c : ℕ) → c < 2 → is_one (1 - c) ≡ not (is_one c)
digit_not c h = digit-cases (λ (c : ℕ). is_one (1 - c) ≡ not (is_one c)) refl refl c h

-- (2 ^ (k + 1) - 1) - m by its digits
not_step : (k m : ℕ) → m < 2 ^ suc k → (2 ^ suc k - 1) - m ≡ ((2 ^ k - 1) - m / 2) * 2 + (1 - m % 2)
not_step k m h =
    let e = pow-suc 2 k in
    let d = div-add-mod' m 2 in
    let s = small m in
    omega (arith, e, d, s)

pub test-not : (k m i : ℕ) → m < 2 ^ k → i < k → test_bit ((2 ^ k - 1) - m) i ≡ not (test_bit m i)
unfolding test_bit
test-not zero m i h l = absurd (not-suc-le-zero l)
test-not (suc k) m zero h l =
    ap odd (not_step k m h) ∙ ap is_one (low_of _ (1 - m % 2) (omega arith)) ∙ digit_not (m % 2) (small m)
test-not (suc k) m (suc i) h l =
    ap (λ (x : ℕ). test_bit x i) (ap (λ (x : ℕ). x / 2) (not_step k m h) ∙ half_of _ (1 - m % 2) (omega arith))
    ∙ test-not k (m / 2) i (omega (arith, pow-suc 2 k)) (le_of_suc-le-suc l)

-- place i after the places of b are taken out
pub test-without : (a b i : ℕ) → b < 2 ^ 32 → i < 32 → test_bit (without a b) i ≡ (test_bit a i && not (test_bit b i))
unfolding without
test-without a b i l h = test-and a ((2 ^ 32 - 1) - b) i ∙ ap (λ (c : Bool). test_bit a i && c) (test-not 32 b i l h)

-- place i after place j is taken out
pub test-clear : (m i j : ℕ) → i < 32 → j < 32 → test_bit (clear_bit m j) i ≡ (test_bit m i && not (eqb i j))
unfolding clear_bit
test-clear m i j h l =
    ap (λ (x : ℕ). test_bit (without m x) i) (bit-at j l) ∙ test-without m (2 ^ j) i (pow-lt l) h ∙ ap (λ (b : Bool). test_bit m i && not b) (test-pow i j)

-- ---- two masks of k places with the same places are the same
digit-same : (x y : ℕ) → x < 2 → y < 2 → is_one x ≡ is_one y → x ≡ y
digit-same zero zero h k e = refl
digit-same zero (suc y) h k e = absurd (true-not-false e)
  where
    true-not-false : false ≡ true → ⊥
    true-not-false p = let z : ◌≡◌ {A = ℕ} 0 1 = cc in omega arith
digit-same (suc x) zero h k e = absurd (true-not-false e)
  where
    true-not-false : true ≡ false → ⊥
    true-not-false p = let z : ◌≡◌ {A = ℕ} 0 1 = cc in omega arith
digit-same (suc x) (suc y) h k e = omega arith

pub ext : (k a b : ℕ) → a < 2 ^ k → b < 2 ^ k → ((i : ℕ) → i < k → test_bit a i ≡ test_bit b i) → a ≡ b
unfolding test_bit
ext zero a b ha hb f = lt-one ha ∙ sym (lt-one hb)
ext (suc k) a b ha hb f =
    let hi : a / 2 ≡ b / 2 = ext k (a / 2) (b / 2) (omega (arith, pow-suc 2 k)) (omega (arith, pow-suc 2 k)) (λ i h. f (suc i) (omega arith)) in
    let lo : a % 2 ≡ b % 2 = digit-same (a % 2) (b % 2) (small a) (small b) (f 0 (zero-lt-suc k)) in
    omega arith

-- ---- the code's test: `m & (1 << i)` is 0 or that one digit
pub and_pow : (m i : ℕ) → bit_and m (2 ^ i) ≡ digit_of (test_bit m i) * 2 ^ i
unfolding test_bit
and_pow m zero = and_mask m 1 ∙ digit-cases (λ (c : ℕ). c ≡ digit_of (is_one c) * 1) refl refl (m % 2) (small m)
and_pow m (suc i) =
    and_step m (2 ^ suc i)
    ∙ ap₂ (λ (x y : ℕ). bit_and (m / 2) x * 2 + min (m % 2) y) (pow-half i) (pow_even i)
    ∙ ap₂ (λ (x y : ℕ). x * 2 + y) (and_pow (m / 2) i) (min-zero (m % 2))
    ∙ simp (pow-suc 2 i, add-zero) (sym-assoc (digit_of (test_bit (m / 2) i)) (2 ^ i))
  where
    sym-assoc : (d p : ℕ) → d * p * 2 ≡ d * (p * 2)
    sym-assoc d p = mul_assoc d p 2

pub nonzero-test : (b : Bool) (p : ℕ) → 0 < p → not (eqb (digit_of b * p) 0) ≡ b
nonzero-test true p h = simp (one-mul, ne_eqb p 0 (λ e. omega arith))
nonzero-test false p h = simp zero-mul

-- `1 << i` at 32 bits
pub shl_one : (i : ℕ) → i < 32 → (1 * 2 ^ i) % 2 ^ 32 ≡ 2 ^ i
shl_one i h = rw one-mul (mod-eq_of_lt (pow-lt h))

-- ---- lists of flags
pub mask_lt : (bs : List Bool) → mask_of bs < 2 ^ length bs
unfolding mask_of
mask_lt [] = omega arith
mask_lt (true ∷ bs) = omega (arith, mask_lt bs, pow-suc 2 (length bs))
mask_lt (false ∷ bs) = omega (arith, mask_lt bs, pow-suc 2 (length bs))

digit_lt : (b : Bool) → digit_of b < 2
digit_lt true = omega arith
digit_lt false = omega arith

one-digit : (b : Bool) → is_one (digit_of b) ≡ b
one-digit true = refl
one-digit false = refl

pub odd-mask : (b : Bool) (bs : List Bool) → odd (mask_of (b ∷ bs)) ≡ b
unfolding mask_of
odd-mask b bs = ap is_one (low_of (mask_of bs) (digit_of b) (digit_lt b)) ∙ one-digit b

pub half-mask : (b : Bool) (bs : List Bool) → mask_of (b ∷ bs) / 2 ≡ mask_of bs
unfolding mask_of
half-mask b bs = half_of (mask_of bs) (digit_of b) (digit_lt b)

pub flags-mask : (bs : List Bool) → flags_of (length bs) (mask_of bs) ≡ bs
unfolding flags_of
flags-mask [] = refl
flags-mask (b ∷ bs) = ap₂ (λ (c : Bool) (cs : List Bool). c ∷ cs) (odd-mask b bs) (ap (flags_of (length bs)) (half-mask b bs) ∙ flags-mask bs)

digit-odd : (m : ℕ) → digit_of (odd m) ≡ m % 2
digit-odd m = digit-cases (λ (c : ℕ). digit_of (is_one c) ≡ c) refl refl (m % 2) (small m)

pub mask-flags : (k m : ℕ) → m < 2 ^ k → mask_of (flags_of k m) ≡ m
unfolding mask_of flags_of
mask-flags zero m h = sym (lt-one h)
mask-flags (suc k) m h = ap₂ (λ (x y : ℕ). x * 2 + y) (mask-flags k (m / 2) (omega (arith, pow-suc 2 k))) (digit-odd m) ∙ div-add-mod' m 2

pub test-mask : (bs : List Bool) (i : ℕ) → test_bit (mask_of bs) i ≡ get_or bs i false
unfolding test_bit mask_of
test-mask [] i = test_zero i ∙ sym (get_or-nil i)
  where
    get_or-nil : (i : ℕ) → get_or [] i false ≡ false
    get_or-nil zero = refl
    get_or-nil (suc i) = refl
test-mask (b ∷ bs) zero = odd-mask b bs
test-mask (b ∷ bs) (suc i) = ap (λ (x : ℕ). test_bit x i) (half-mask b bs) ∙ test-mask bs i

-- one more flag: its place is put in where it is set
pub mask-more : (bs : List Bool) (i : ℕ) → i < length bs → mask_of (take (suc i) bs) ≡ mask_of (take i bs) + digit_of (get_or bs i false) * 2 ^ i
unfolding mask_of
mask-more [] i h = absurd (not-suc-le-zero h)
mask-more (b ∷ bs) zero h = omega (arith, mul-one (digit_of b))
mask-more (b ∷ bs) (suc i) h =
    let e = mask-more bs i (le_of_suc-le-suc h) in
    let q : digit_of (get_or bs i false) * 2 ^ suc i ≡ digit_of (get_or bs i false) * 2 ^ i * 2 = simp (pow-suc 2 i) (sym (mul_assoc _ (2 ^ i) 2)) in
    omega arith

-- ---- the places of a mask, ascending, by taking the lowest away
pub places-none : (k i : ℕ) → places_from k i 0 ≡ []
unfolding places_from
places-none zero i = refl
places-none (suc k) i = places-none k (suc i)

ones-zero : ones 0 ≡ 0
unfolding ones
ones-zero = refl

pub ones-places : (k i m : ℕ) → m < 2 ^ k → length (places_from k i m) ≡ ones m
unfolding places_from
ones-places zero i m h = simp (lt-one h) (sym ones-zero)
ones-places (suc k) i m h =
    cons-length (odd m) i (places_from k (suc i) (m / 2))
    ∙ ap₂ (λ (x y : ℕ). x + y) (digit-odd m) (ones-places k (suc i) (m / 2) (omega (arith, pow-suc 2 k)))
    ∙ sym (ones_step m)
  where
    cons-length : (b : Bool) (i : ℕ) (l : List ℕ) → length (cons? b i l) ≡ digit_of b + length l
    cons-length true i l = omega arith
    cons-length false i l = omega arith

-- where the lowest digit is set, the rest is the mask with that digit 0
rest-odd : (m : ℕ) → m % 2 ≡ 1 → rest m ≡ m / 2 * 2
rest-odd m e =
    and_step m (m - 1)
    ∙ ap₂ (λ (x y : ℕ). bit_and (m / 2) x * 2 + min (m % 2) y) (omega arith) (omega arith)
    ∙ ap₂ (λ (x y : ℕ). x * 2 + y) (and_self (m / 2)) (min-zero (m % 2))
    ∙ add-zero (m / 2 * 2)

rest-even : (m : ℕ) → 0 < m → m % 2 ≡ 0 → rest m ≡ rest (m / 2) * 2
rest-even m p e =
    and_step m (m - 1)
    ∙ ap₂ (λ (x y : ℕ). bit_and (m / 2) x * 2 + min y ((m - 1) % 2)) (omega arith) e
    ∙ ap (λ (y : ℕ). rest (m / 2) * 2 + y) (zero-min ((m - 1) % 2))
    ∙ add-zero (rest (m / 2) * 2)

-- the lowest place comes first, and the others are those of the rest
pub places-lowest : (k i m : ℕ) → 0 < m → m < 2 ^ k → places_from k i m ≡ (i + count_trailing_zeros k m) ∷ places_from k i (rest m)
unfolding places_from count_trailing_zeros
places-lowest zero i m p h = absurd (lt_irrefl 0 (subst (λ (x : ℕ). 0 < x) (lt-one h) p))
places-lowest (suc k) i m p h = go (m % 2) refl (small m) (λ q. places-lowest k (suc i) (m / 2) q (omega (arith, pow-suc 2 k)))
  where
    go : (c : ℕ) → m % 2 ≡ c → c < 2
        → (0 < m / 2 → places_from k (suc i) (m / 2) ≡ (suc i + count_trailing_zeros k (m / 2)) ∷ places_from k (suc i) (rest (m / 2)))
        → places_from (suc k) i m ≡ (i + count_trailing_zeros (suc k) m) ∷ places_from (suc k) i (rest m)
    go zero e l ih =
        simp (e, rest-even m p e, mul-mod_left (rest (m / 2)) 2, mul-div_cancel (rest (m / 2)) (zero-lt-suc 1), add-suc, ← suc-add)
        (ih (omega arith))
    go (suc zero) e l ih = simp (e, rest-odd m e, mul-mod_left (m / 2) 2, mul-div_cancel (m / 2) (zero-lt-suc 1), add-zero)
    go (suc (suc c)) e l ih = absurd (not-suc-le-zero (le_of_suc-le-suc (le_of_suc-le-suc l)))

pub rest_lt : (m : ℕ) → 0 < m → rest m < m
rest_lt m p = omega (arith, and_le_r m (m - 1))

-- ---- `or` groups either way
max-assoc2 : (x y z : ℕ) → x < 2 → y < 2 → z < 2 → max (max x y) z ≡ max x (max y z)
max-assoc2 x y z h k l =
    digit-cases (λ (c : ℕ). max (max c y) z ≡ max c (max y z))
    (simp zero-max)
    (digit-cases (λ (c : ℕ). max (max 1 c) z ≡ max 1 (max c z))
    (digit-cases (λ (c : ℕ). max (max 1 0) c ≡ max 1 (max 0 c)) refl refl z l)
    (digit-cases (λ (c : ℕ). max (max 1 1) c ≡ max 1 (max 1 c)) refl refl z l) y k) x h

or-low : (a b : ℕ) → bit_or a b % 2 ≡ max (a % 2) (b % 2)
or-low a b = ap (λ (x : ℕ). x % 2) (or_step a b) ∙ low_of _ _ (max-lt2 _ _ (small a) (small b))

pub or_assoc : (a b c : ℕ) → bit_or (bit_or a b) c ≡ bit_or a (bit_or b c)
or_assoc a =
    bin_ind (λ (n : ℕ). (b c : ℕ) → bit_or (bit_or n b) c ≡ bit_or n (bit_or b c)) (λ b c. refl)
    (λ n ih b c.
    or_step (bit_or n b) c
    ∙ ap₂ (λ (x y : ℕ). x * 2 + y)
    (ap (λ (x : ℕ). bit_or x (c / 2)) (or-half n b) ∙ ih (b / 2) (c / 2) ∙ ap (bit_or (n / 2)) (sym (or-half b c)))
    (ap (λ (x : ℕ). max x (c % 2)) (or-low n b) ∙ max-assoc2 _ _ _ (small n) (small b) (small c) ∙ ap (max (n % 2)) (sym (or-low b c)))
    ∙ sym (or_step n (bit_or b c))) a

-- one more flag, as the code has it
pub mask-suc : (bs : List Bool) (i : ℕ) → i < length bs → i < 32 → mask_of (take (suc i) bs) ≡ set_bit_if (get_or bs i false) (mask_of (take i bs)) i
unfolding set_bit_if set_bit
mask-suc bs i h k = mask-more bs i h ∙ go (get_or bs i false) (mask_of (take i bs)) (below bs i)
  where
    below : (bs : List Bool) (i : ℕ) → mask_of (take i bs) < 2 ^ i
    below bs i = lt_of_lt_of_le (mask_lt (take i bs)) (pow_mono (omega (arith, length-take i bs)))

    go : (b : Bool) (m : ℕ) → m < 2 ^ i → m + digit_of b * 2 ^ i ≡ set_bit_if b m i
    go true m l = add_comm m (1 * 2 ^ i) ∙ sym (or_shifted_r 1 i m l) ∙ ap (bit_or m) (one-mul (2 ^ i) ∙ sym (bit-at i k))
    go false m l = simp (zero-mul, add-zero)

pub or-mask-suc : (d : ℕ) (bs : List Bool) (i : ℕ) → i < length bs → i < 32 → bit_or d (mask_of (take (suc i) bs)) ≡ set_bit_if (get_or bs i false) (bit_or d (mask_of (take i bs))) i
unfolding set_bit_if set_bit
or-mask-suc d bs i h k = ap (bit_or d) (mask-suc bs i h k) ∙ go (get_or bs i false) (mask_of (take i bs))
  where
    go : (b : Bool) (m : ℕ) → bit_or d (set_bit_if b m i) ≡ set_bit_if b (bit_or d m) i
    go true m = sym (or_assoc d m (bit_at i))
    go false m = refl

-- `m ^ (1 << trailing_zeros(m))` is the rest too
pub rest-xor : (k m : ℕ) → 0 < m → m < 2 ^ k → bit_xor m (2 ^ count_trailing_zeros k m) ≡ rest m
unfolding count_trailing_zeros
rest-xor zero m p h = absurd (lt_irrefl 0 (subst (λ (x : ℕ). 0 < x) (lt-one h) p))
rest-xor (suc k) m p h = go (m % 2) refl (small m) (λ q. rest-xor k (m / 2) q (omega (arith, pow-suc 2 k)))
  where
    go : (c : ℕ) → m % 2 ≡ c → c < 2 → (0 < m / 2 → bit_xor (m / 2) (2 ^ count_trailing_zeros k (m / 2)) ≡ rest (m / 2))
        → bit_xor m (2 ^ count_trailing_zeros (suc k) m) ≡ rest m
    go zero e l ih =
        simp e (xor_step m (2 ^ suc (count_trailing_zeros k (m / 2))) ∙ simp (pow-half, pow_even, e, add-zero) (ap (λ (x : ℕ). x * 2) (ih (omega arith)) ∙ sym (rest-even m p e)))
    go (suc zero) e l ih = simp e (xor_step m 1 ∙ simp (e, xor_zero_r, add-zero) (sym (rest-odd m e)))
    go (suc (suc c)) e l ih = absurd (not-suc-le-zero (le_of_suc-le-suc (le_of_suc-le-suc l)))

-- ---- place number k, by taking the lowest away k times
pub nth-zero : (m : ℕ) → m < 2 ^ 32 → get_or (places m) 0 32 ≡ count_trailing_zeros 32 m
nth-zero m h = go (eq-zero-or-pos m)
  where
    go : (m ≡ 0) ⊎ (0 < m) → get_or (places m) 0 32 ≡ count_trailing_zeros 32 m
    go (inl e) = simp (e, places-none 32 0) (sym (trailing_of_zero 32))
    go (inr p) = simp (places-lowest 32 0 m p h, zero-add)

pub nth-rest : (m k : ℕ) → m < 2 ^ 32 → get_or (places m) (suc k) 32 ≡ get_or (places (rest m)) k 32
nth-rest m k h = go (eq-zero-or-pos m)
  where
    nothing : (i : ℕ) → get_or {A = ℕ} [] i 32 ≡ 32
    nothing zero = refl
    nothing (suc i) = refl

    go : (m ≡ 0) ⊎ (0 < m) → get_or (places m) (suc k) 32 ≡ get_or (places (rest m)) k 32
    go (inl e) = simp (e, and_zero_l, places-none 32 0) (sym (nothing k))
    go (inr p) = simp (places-lowest 32 0 m p h)

-- the rest has no place that the mask lacks
pub rest_le : (m : ℕ) → rest m ≤ m
rest_le m = omega (arith, and_le_r m (m - 1))

pub nth-none : (m k : ℕ) → m < 2 ^ 32 → 32 ≤ k → get_or (places m) k 32 ≡ 32
nth-none m k h l = past (places m) k (omega (arith, ones-places 32 0 m h, ones-le 32 m h))
  where
    past : (xs : List ℕ) (k : ℕ) → length xs ≤ k → get_or xs k 32 ≡ 32
    past [] zero l = refl
    past [] (suc k) l = refl
    past (x ∷ xs) zero l = absurd (not-suc-le-zero l)
    past (x ∷ xs) (suc k) l = past xs k (le_of_suc-le-suc l)

-- the code's test of a place, `m & bit(i) != 0`
pub bit_test : (m i : ℕ) → m < 2 ^ 32 → not (eqb (bit_and m (bit_at i)) 0) ≡ test_bit m i
bit_test m i h = go (ltb i 32) refl
  where
    none : 32 ≤ i → bit_at i ≡ 0
    none l = bit-none i l

    go : (b : Bool) → ltb i 32 ≡ b → not (eqb (bit_and m (bit_at i)) 0) ≡ test_bit m i
    go true e =
        let l : i < 32 = ltb-true i 32 e in
        rw (bit-at i l, and_pow m i) (nonzero-test (test_bit m i) (2 ^ i) (pow_pos i))
    go false e =
        let l : 32 ≤ i = ltb-false i 32 e in
        rw (bit-none i l, and_zero_r, test-beyond 32 m i h l)

-- ---- what stays within k places
pub and_lt : (k a b : ℕ) → b < 2 ^ k → bit_and a b < 2 ^ k
and_lt k a b h = omega (arith, and_le_r a b)

pub set-lt : (k m j : ℕ) → m < 2 ^ k → j < k → k ≤ 32 → set_bit m j < 2 ^ k
unfolding set_bit
set-lt k m j h l w = or_lt k m (bit_at j) h (subst (λ (x : ℕ). x < 2 ^ k) (sym (bit-at j (omega arith))) (pow-lt l))

pub ruleset first_place = (places-lowest, places-none)
