-- `lib.Ieee`'s `round`, and so `convert_to`, gives what `Nearest` describes (`round-nearest`, `convert-nearest`), and nothing else is that (`nearest-unique`, `nearest-is`). Assumes nothing.
use Rattle.std.specs.Prelude.{◌≡◌, ℕ, zero, suc, ◌+◌, ◌-◌, ◌*◌, ◌/◌, ◌%◌, ◌^◌, ◌<◌, ◌≤◌, Bool, true, false, cond, not, ◌&&◌, T, ltb, ◌⊎◌, ℤ, pos, negsuc, ◌==◌, ◌≢◌, nat_eq, nat_le, nat_lt, to_bits, refl, Float}
use Rattle.std.proofs.Common.{sym, ap, ap₂, ◌∙◌, subst, inl, inr, le_refl, le_trans, le_of_eq, le_of_lt, le_antisymm, lt_of_lt_of_le, lt_of_le_of_lt, zero-lt-suc, eq-or-lt_of_le, mul-one, one-mul, zero-mul, suc-mul, add-mul, mul_assoc, mul_comm, mul_left_comm, mul_right_comm, mul-pos, mul-le-mul_right, mul-lt-mul_of_pos_right, le_of_mul-le-mul_right, lt_of_mul-lt-mul_right, mul-div_cancel, mod-lt, div-add-mod', le-div_iff_mul-le, pow-suc, arith, ltb→lt, nltb→le, leb→le, eqb→eq, lit<, pow-add, pow_pos, pow_mono, shl_lt}
use Rattle.std.specs.Bool.{beq}
use Prim.Native.Nat.{compare, Ordering, zero-le}
use Rattle.std.proofs.Math.Nat.{mul-sub, eq_of_mul-eq-mul_right, mul-mod_left, div-div-eq-div-mul}
use Rattle.std.proofs.Math.Dec.{is_le, compare_is_eq, nleb→lt, eqb_refl}
use Rattle.std.proofs.Math.Pow.{pow-lt, ones_lt}
use Rattle.std.specs.Float.{nan, inf, fin, Format, binary32, binary64}
use Rattle.std.specs.Float.Ieee.{prec, emax, low, up, down, size, nearest, odd, units, round, le, fits, hid, top}
use Rattle.std.specs.Float.Ieee.Digits.{size-lt, size-le, size_reaches}
use Rattle.std.specs.Float.Ieee.Fits.{two, reach, two-le_pos, and_l, and_r, down_pos, kept-lt, nearest-le, odd-fits, round_is}
use Rattle.std.specs.Float.Ieee.Exact.{HasValue, odd_sign}
use Rattle.std.specs.Float.Ieee.Order.{drop, kept, transfer, round_mono}
use Rattle.std.specs.Float.Ieee.Scale.{grid, overflow, round_val}
use Rattle.numbers.specs.Convert.{convert_to}
use Rattle.numbers.specs.Same.{pattern_of, by_value, unique, pow_le_back}
use Rattle.numbers.specs.Nearest.{apart, gap, TooLarge, NearestFinite, Nearest}

-- ---- distances, and the same distances in units
abbrev far : Bool → Bool → ℕ → ℕ → ℕ
far s t a b = cond (beq s t) (apart a b) (a + b)

less-mul : (a b c : ℕ) → (a - b) * c ≡ a * c - b * c
less-mul a b c = mul_comm (a - b) c ∙ mul-sub c a b ∙ ap₂ (λ (x y : ℕ). x - y) (mul_comm c a) (mul_comm c b)

far-mul : (s t : Bool) (a b c : ℕ) → far s t (a * c) (b * c) ≡ far s t a b * c
far-mul s t a b c = go (beq s t)
  where
    go : (x : Bool) → cond x (apart (a * c) (b * c)) (a * c + b * c) ≡ cond x (apart a b) (a + b) * c
    go true = ap₂ (λ (x y : ℕ). x + y) (sym (less-mul a b c)) (sym (less-mul b a c)) ∙ sym (add-mul (a - b) (b - a) c)
    go false = sym (add-mul a b c)

gap-units : (s t : Bool) (num den n v l : ℕ) (d : ℤ) → n * up d * l ≡ v * down d → gap s num den t n d * l ≡ far s t (num * l) (v * den) * down d
gap-units s t num den n v l d h =
    sym (far-mul s t (num * down d) (n * up d * den) l)
    ∙ ap₂ (λ (x y : ℕ). far s t x y) (mul_right_comm num (down d) l) (mul_right_comm (n * up d) den l ∙ ap (λ (x : ℕ). x * den) h ∙ mul_right_comm v (down d) den)
    ∙ far-mul s t (num * l) (v * den) (down d)

to-gaps : (g h G H l a b : ℕ) → 0 < l → g * l ≡ G * a → h * l ≡ H * b → G ≤ H → g * b ≤ h * a
to-gaps g h G H l a b L p q k = transfer g h a b G H l l L L p q (mul-le-mul_right l k)

of-gaps : (g h G H l a b : ℕ) → 0 < l → 0 < a → 0 < b → g * l ≡ G * a → h * l ≡ H * b → g * b ≤ h * a → G ≤ H
of-gaps g h G H l a b L A B p q k = le_of_mul-le-mul_right (transfer G H l l g h a b A B (sym p) (sym q) k) L

-- ---- a finite value of the format is c * 2 ^ j units, with c of no more digits than the format has
record OnGrid (f : Format) (n : ℕ) (d : ℤ) : Type 0 where
  c : ℕ
  j : ℕ
  small : c < 2 ^ prec f
  below : c * 2 ^ j < overflow f
  value : n * up d * 2 ^ low f ≡ c * 2 ^ j * down d

below_top : (f : Format) (n v : ℕ) (d : ℤ) → n * up d * 2 ^ low f ≡ v * down d → n * up d < 2 ^ suc (emax f) * down d → v < overflow f
below_top f n v d e h =
    lt_of_mul-lt-mul_right (down d)
    (lt_of_le_of_lt (le_of_eq (sym e))
    (lt_of_lt_of_le (mul-lt-mul_of_pos_right h (pow_pos (low f)))
    (le_of_eq (mul_right_comm (2 ^ suc (emax f)) (down d) (2 ^ low f) ∙ ap (λ (x : ℕ). x * down d) (mul_comm (2 ^ suc (emax f)) (2 ^ low f) ∙ sym (pow-add 2 (low f) (suc (emax f))))))))

exponent : (f : Format) (n : ℕ) (d : ℤ) → down d ≤ 2 ^ low f → (j : ℕ) × (n * up d * 2 ^ low f ≡ n * 2 ^ j * down d)
exponent f n (pos k) h = (k + low f, mul_assoc n (2 ^ k) (2 ^ low f) ∙ ap (λ (z : ℕ). n * z) (sym (pow-add 2 k (low f))) ∙ sym (mul-one (n * 2 ^ (k + low f))))
exponent f n (negsuc k) h = (
  low f - suc k,
  ap (λ (z : ℕ). z * 2 ^ low f) (mul-one n)
      ∙ ap (λ (z : ℕ). n * z) (ap (λ (z : ℕ). 2 ^ z) (sym (join (suc k) (low f) (pow_le_back (suc k) (low f) h))) ∙ pow-add 2 (low f - suc k) (suc k))
      ∙ sym (mul_assoc n (2 ^ (low f - suc k)) (2 ^ suc k)),
)
  where
    join : (a b : ℕ) → a ≤ b → b - a + a ≡ b
    join a b p = omega arith

on-grid : (f : Format) (t : Bool) (n : ℕ) (d : ℤ) → T (fits f (fin t n d)) → OnGrid f n d
unfolding fits
on-grid f t zero d h = record {
  c = 0;
  j = 0;
  small = pow_pos (prec f);
  below = pow_pos (low f + suc (emax f));
  value = ap (λ (z : ℕ). z * 2 ^ low f) (zero-mul (up d)) ∙ zero-mul (2 ^ low f) ∙ sym (zero-mul (down d));
}
on-grid f t (suc n) d h =
    let A = nat_eq (suc n % 2) 1 in
    let B = ltb (suc n) (2 ^ prec f) in
    let C = nat_le (down d) (2 ^ low f) in
    let D = ltb (suc n * up d) (2 ^ suc (emax f) * down d) in
    let x = exponent f (suc n) d (leb→le (down d) (2 ^ low f) (and_r (A && B) C (and_l (A && B && C) D h))) in
    record {
      c = suc n;
      j = x.0;
      small = ltb→lt (suc n) (2 ^ prec f) (and_r A B (and_l (A && B) C (and_l (A && B && C) D h)));
      below = below_top f (suc n) (suc n * 2 ^ x.0) d x.1 (ltb→lt (suc n * up d) (2 ^ suc (emax f) * down d) (and_r (A && B && C) D h));
      value = x.1;
    }

-- ---- q + r / u rounded to a whole number
abbrev Side : ℕ → ℕ → ℕ → ℕ → Type 0
Side q r u c = ((c ≡ q) × (r * 2 ≤ u)) ⊎ ((c ≡ suc q) × (u ≤ r * 2))

record Landed (q r u c : ℕ) : Type 0 where
  side : Side q r u c
  even : r * 2 ≡ u → c % 2 ≡ 0

parity : (a : ℕ) → (a + a % 2 ≡ a) ⊎ (a + a % 2 ≡ suc a)
parity a = let z : 0 ≤ a % 2 = zero-le in elim (eq-or-lt_of_le z) [ inl e ↦ inl (none e) | inr l ↦ inr (one l) ]
  where
    none : 0 ≡ a % 2 → a + a % 2 ≡ a
    none e = omega arith

    one : 0 < a % 2 → a + a % 2 ≡ suc a
    one l = omega arith

landed : (q r u : ℕ) → Landed q r u (nearest q (compare (r * 2) u))
landed q r u = go (compare (r * 2) u) (leb→le (r * 2) u) (nleb→lt (r * 2) u) (eqb→eq (r * 2) u) (λ (e : r * 2 ≡ u). subst (λ (y : ℕ). T (r * 2 == y)) e (eqb_refl (r * 2)))
  where
    above : u < r * 2 → r * 2 ≢ u
    above h e = omega arith

    evens : (a : ℕ) → (a + a % 2) % 2 ≡ 0
    evens a = omega arith

    go : (o : Ordering) → (T (is_le o) → r * 2 ≤ u) → (T (not (is_le o)) → u < r * 2) → (T (compare_is_eq o) → r * 2 ≡ u) → (r * 2 ≡ u → T (compare_is_eq o)) → Landed q r u (nearest q o)
    go Ordering.lt h k i n = record { side = inl (refl, h tt); even = λ e. absurd (n e) }
    go Ordering.eq h k i n = record { side = elim (parity q) [ inl e ↦ inl (e, le_of_eq (i tt)) | inr e ↦ inr (e, le_of_eq (sym (i tt))) ]; even = λ e. evens q }
    go Ordering.gt h k i n = record { side = inr (refl, le_of_lt (k tt)); even = λ e. absurd (above (k tt) e) }

-- w does not lie between A and A + u
abbrev Outside : ℕ → ℕ → ℕ → Type 0
Outside A u w = (w ≤ A) ⊎ (A + u ≤ w)

module _ (n q r u c w : ℕ) (split : q * u + r ≡ n) (rest : r < u) where
  down-at : c ≡ q → c * u ≡ q * u
  down-at e = ap (λ (x : ℕ). x * u) e

  up_at : c ≡ suc q → c * u ≡ q * u + u
  up_at e = ap (λ (x : ℕ). x * u) e ∙ suc-mul q u

  near : Side q r u c → Outside (q * u) u w → apart n (c * u) ≤ apart n w
  near (inl s) (inl o) = omega (arith, down-at s.0)
  near (inl s) (inr o) = omega (arith, down-at s.0)
  near (inr s) (inl o) = omega (arith, up_at s.0)
  near (inr s) (inr o) = omega (arith, up_at s.0)

  tie : Side q r u c → Outside (q * u) u w → apart n w ≡ apart n (c * u) → (w ≢ c * u) → r * 2 ≡ u
  tie (inl s) (inl o) e ne = omega (arith, down-at s.0)
  tie (inl s) (inr o) e ne = omega (arith, down-at s.0)
  tie (inr s) (inl o) e ne = omega (arith, up_at s.0)
  tie (inr s) (inr o) e ne = omega (arith, up_at s.0)

-- c * 2 ^ j as a multiple of 2 ^ k
parts : (c j k : ℕ) → k ≤ j → c * 2 ^ j ≡ c * 2 ^ (j - k) * 2 ^ k
parts c j k h = ap (λ (x : ℕ). c * x) (ap (λ (x : ℕ). 2 ^ x) (back j k h) ∙ pow-add 2 (j - k) k) ∙ sym (mul_assoc c (2 ^ (j - k)) (2 ^ k))
  where
    back : (a b : ℕ) → b ≤ a → a ≡ a - b + b
    back a b l = omega arith

-- ---- n / den rounded to p digits, to a multiple of the unit den * 2 ^ drop: no number of p digits lies between the two multiples next to n
multiple : (k den e : ℕ) → e * 2 ^ k * den ≡ e * (den * 2 ^ k)
multiple k den e = mul_assoc e (2 ^ k) den ∙ ap (λ (x : ℕ). e * x) (mul_comm (2 ^ k) den)

below-unit : (k den e q : ℕ) → e ≤ q → e * 2 ^ k * den ≤ q * (den * 2 ^ k)
below-unit k den e q h = le_trans (le_of_eq (multiple k den e)) (mul-le-mul_right (den * 2 ^ k) h)

above-unit : (k den e q : ℕ) → q < e → q * (den * 2 ^ k) + den * 2 ^ k ≤ e * 2 ^ k * den
above-unit k den e q h = le_trans (le_of_eq (sym (suc-mul q (den * 2 ^ k)))) (le_trans (mul-le-mul_right (den * 2 ^ k) h) (le_of_eq (sym (multiple k den e))))

coarse : (k den c j q : ℕ) → k ≤ j → Outside (q * (den * 2 ^ k)) (den * 2 ^ k) (c * 2 ^ j * den)
coarse k den c j q h = subst (λ (x : ℕ). Outside (q * (den * 2 ^ k)) (den * 2 ^ k) (x * den)) (sym (parts c j k h)) (go (nat_lt q e) (ltb→lt q e) (nltb→le q e))
  where
    e : ℕ
    e = c * 2 ^ (j - k)

    go : (b : Bool) → (T b → q < e) → (T (not b) → e ≤ q) → Outside (q * (den * 2 ^ k)) (den * 2 ^ k) (e * 2 ^ k * den)
    go true x y = inr (above-unit k den e q (x tt))
    go false x y = inl (below-unit k den e q (y tt))

module _ (p n den : ℕ) (P : 0 < p) (D : 0 < den) where
  filled : 0 < drop p n den → 2 ^ (p - 1) ≤ n / (den * 2 ^ drop p n den)
  filled K =
      let k = drop p n den in
      subst (λ (x : ℕ). 2 ^ (p - 1) ≤ x) (div-div-eq-div-mul n den (2 ^ k))
      ((le-div_iff_mul-le (pow_pos k)).1 (le_trans (le_of_eq (sym (pow-add 2 (p - 1) k))) (size_reaches (n / den) (p - 1 + k) (in_use (size (n / den)) p P K))))
    where
      in_use : (z b : ℕ) → 0 < b → 0 < z - b → b - 1 + (z - b) < z
      in_use z b B h = omega arith

  fine : (c j : ℕ) → c < 2 ^ p → j < drop p n den → c * 2 ^ j * den ≤ n / (den * 2 ^ drop p n den) * (den * 2 ^ drop p n den)
  fine c j C h =
      let k = drop p n den in
      le_trans (mul-le-mul_right den (le_trans (le_of_lt (shl_lt p j C)) (le_trans (pow_mono (room p j k P h)) (le_of_eq (pow-add 2 (p - 1) k)))))
      (below-unit k den (2 ^ (p - 1)) (n / (den * 2 ^ k)) (filled (some j k h)))
    where
      room : (a b k : ℕ) → 0 < a → b < k → a + b ≤ a - 1 + k
      room a b k A l = omega arith

      some : (b k : ℕ) → b < k → 0 < k
      some b k l = omega arith

  outside : (c j : ℕ) → c < 2 ^ p → Outside (n / (den * 2 ^ drop p n den) * (den * 2 ^ drop p n den)) (den * 2 ^ drop p n den) (c * 2 ^ j * den)
  outside c j C = go (nat_lt j k) (ltb→lt j k) (nltb→le j k)
    where
      k : ℕ
      k = drop p n den

      go : (b : Bool) → (T b → j < k) → (T (not b) → k ≤ j) → Outside (n / (den * 2 ^ k) * (den * 2 ^ k)) (den * 2 ^ k) (c * 2 ^ j * den)
      go true x y = inl (fine c j C (x tt))
      go false x y = coarse k den c j (n / (den * 2 ^ k)) (y tt)

  landing : Landed (n / (den * 2 ^ drop p n den)) (n % (den * 2 ^ drop p n den)) (den * 2 ^ drop p n den) (kept p n den)
  landing = landed (n / (den * 2 ^ drop p n den)) (n % (den * 2 ^ drop p n den)) (den * 2 ^ drop p n den)

  no-nearer : (c j : ℕ) → c < 2 ^ p → apart n (kept p n den * 2 ^ drop p n den * den) ≤ apart n (c * 2 ^ j * den)
  no-nearer c j C =
      let k = drop p n den in
      let u = den * 2 ^ k in
      subst (λ (x : ℕ). apart n x ≤ apart n (c * 2 ^ j * den)) (sym (multiple k den (kept p n den)))
      (near n (n / u) (n % u) u (kept p n den) (c * 2 ^ j * den) (div-add-mod' n u) (mod-lt n (mul-pos D (pow_pos k))) landing.side (outside c j C))

  tie-even : (c j : ℕ) → c < 2 ^ p → apart n (c * 2 ^ j * den) ≡ apart n (kept p n den * 2 ^ drop p n den * den)
      → (c * 2 ^ j * den ≡ kept p n den * 2 ^ drop p n den * den → ⊥) → kept p n den % 2 ≡ 0
  tie-even c j C e ne =
      let k = drop p n den in
      let u = den * 2 ^ k in
      let m = multiple k den (kept p n den) in
      landing.even
      (tie n (n / u) (n % u) u (kept p n den) (c * 2 ^ j * den) (div-add-mod' n u) (mod-lt n (mul-pos D (pow_pos k))) landing.side (outside c j C)
      (e ∙ ap (λ (x : ℕ). apart n x) m) (λ h. ne (h ∙ sym m)))

  kept-le : kept p n den ≤ 2 ^ p
  kept-le =
      let k = drop p n den in
      let u = den * 2 ^ k in
      le_trans (nearest-le (n / u) (compare (n % u * 2) u)) (subst (λ (x : ℕ). x < 2 ^ p) (div-div-eq-div-mul n den (2 ^ k)) (kept-lt p (n / den)))

  -- ---- the same with signs
  zero-nearer : apart n (kept p n den * 2 ^ drop p n den * den) ≤ n
  zero-nearer = le_trans (no-nearer 0 0 (pow_pos p)) (flat (0 * 2 ^ 0 * den) (zero-mul den))
    where
      flat : (z : ℕ) → z ≡ 0 → apart n z ≤ n
      flat z e = omega arith

  no-nearer-signed : (s t : Bool) (c j : ℕ) → c < 2 ^ p → far s s n (kept p n den * 2 ^ drop p n den * den) ≤ far s t n (c * 2 ^ j * den)
  no-nearer-signed true true c j C = no-nearer c j C
  no-nearer-signed true false c j C = omega (arith, zero-nearer)
  no-nearer-signed false true c j C = omega (arith, zero-nearer)
  no-nearer-signed false false c j C = no-nearer c j C

  tie-zero : apart n (kept p n den * 2 ^ drop p n den * den) ≡ n → kept p n den % 2 ≡ 0
  tie-zero h = go (kept p n den) refl
    where
      flat : (z : ℕ) → z ≡ 0 → apart n z ≡ n
      flat z e = omega arith

      no : (y z : ℕ) → 0 < y → z ≡ 0 → z ≢ y
      no y z a b e = omega arith

      go : (c : ℕ) → kept p n den ≡ c → kept p n den % 2 ≡ 0
      go zero e = ap (λ (x : ℕ). x % 2) e
      go (suc c) e =
          let positive : 0 < kept p n den = subst (λ (x : ℕ). 0 < x) (sym e) (zero-lt-suc c) in
          tie-even 0 0 (pow_pos p) (flat (0 * 2 ^ 0 * den) (zero-mul den) ∙ sym h)
          (no (kept p n den * 2 ^ drop p n den * den) (0 * 2 ^ 0 * den) (mul-pos (mul-pos positive (pow_pos (drop p n den))) D) (zero-mul den))

  tie-signed : (s t : Bool) (c j : ℕ) → c < 2 ^ p → far s t n (c * 2 ^ j * den) ≡ far s s n (kept p n den * 2 ^ drop p n den * den)
      → (t ≡ s → c * 2 ^ j * den ≡ kept p n den * 2 ^ drop p n den * den → ⊥) → kept p n den % 2 ≡ 0
  tie-signed true true c j C e ne = tie-even c j C e (ne refl)
  tie-signed true false c j C e ne = tie-zero (omega (arith, zero-nearer))
  tie-signed false true c j C e ne = tie-zero (omega (arith, zero-nearer))
  tie-signed false false c j C e ne = tie-even c j C e (ne refl)

-- ---- the last bit of a value, by its size in units
last_bit : (f : Format) (s : Bool) (x y : ℕ) → (cond s (top f) 0 + x * hid f + y) % 2 ≡ y % 2
last_bit binary32 true x y = omega arith
last_bit binary32 false x y = omega arith
last_bit binary64 true x y = omega arith
last_bit binary64 false x y = omega arith

bit-of : (f : Format) (y : Float) (s : Bool) (v : ℕ) → HasValue y s v (2 ^ low f) → to_bits f y % 2 ≡ v / 2 ^ (size v - prec f) % 2
bit-of f y s v h =
    ap (λ (x : ℕ). x % 2) (by_value f y s v (2 ^ low f) (pow_pos (low f)) h ∙ ap (pattern_of f s) (mul-div_cancel v (pow_pos (low f))))
    ∙ last_bit f s (size v - prec f) (v / 2 ^ (size v - prec f))

even-of : (p c j i : ℕ) → c < 2 ^ i → i < p → 0 < j → c * 2 ^ j / 2 ^ (size (c * 2 ^ j) - p) % 2 ≡ 0
even-of p c j i C I J =
    let z = size (c * 2 ^ j) - p in
    let h : z < j = short (size (c * 2 ^ j)) (size-le (c * 2 ^ j) (i + j) (shl_lt i j C)) in
    ap (λ (x : ℕ). x / 2 ^ z % 2) (parts z h) ∙ ap (λ (x : ℕ). x % 2) (mul-div_cancel (c * 2 ^ (j - suc z) * 2) (pow_pos z)) ∙ mul-mod_left (c * 2 ^ (j - suc z)) 2
  where
    short : (a : ℕ) → a ≤ i + j → a - p < j
    short a h = omega arith

    back : (z : ℕ) → z < j → j ≡ j - suc z + suc z
    back z h = omega arith

    parts : (z : ℕ) → z < j → c * 2 ^ j ≡ c * 2 ^ (j - suc z) * 2 * 2 ^ z
    parts z h =
        ap (λ (x : ℕ). c * x) (ap (λ (x : ℕ). 2 ^ x) (back z h) ∙ pow-add 2 (j - suc z) (suc z) ∙ ap (λ (x : ℕ). 2 ^ (j - suc z) * x) (pow-suc 2 z ∙ mul_comm (2 ^ z) 2))
        ∙ sym (mul_assoc c (2 ^ (j - suc z)) (2 * 2 ^ z))
        ∙ sym (mul_assoc (c * 2 ^ (j - suc z)) 2 (2 ^ z))

even-units : (p c k : ℕ) → 2 ≤ p → c ≤ 2 ^ p → c % 2 ≡ 0 → c * 2 ^ k / 2 ^ (size (c * 2 ^ k) - p) % 2 ≡ 0
even-units p c k P h e =
    elim (eq-or-lt_of_le h) [
      | inl x ↦
          subst (λ (y : ℕ). y / 2 ^ (size y - p) % 2 ≡ 0) (one-mul (2 ^ (p + k)) ∙ pow-add 2 p k ∙ ap (λ (y : ℕ). y * 2 ^ k) (sym x)) (even-of p 1 (p + k) 1 (lit< tt) P (some p k P))
      | inr l ↦
          subst (λ (y : ℕ). y / 2 ^ (size y - p) % 2 ≡ 0) (twice k)
          (even-of p (c / 2) (suc k) (p - 1)
          (lt_of_mul-lt-mul_right 2 (lt_of_le_of_lt (le_of_eq (half c e)) (lt_of_lt_of_le l (le_of_eq (ap (λ (y : ℕ). 2 ^ y) (pred p P) ∙ pow-suc 2 (p - 1)))))) (less p P) (zero-lt-suc k))
    ]
  where
    some : (a b : ℕ) → 2 ≤ a → 0 < a + b
    some a b l = omega arith

    half : (a : ℕ) → a % 2 ≡ 0 → a / 2 * 2 ≡ a
    half a z = omega arith

    pred : (a : ℕ) → 2 ≤ a → a ≡ suc (a - 1)
    pred a l = omega arith

    less : (a : ℕ) → 2 ≤ a → a - 1 < a
    less a l = omega arith

    twice : (i : ℕ) → c / 2 * 2 ^ suc i ≡ c * 2 ^ i
    twice i = ap (λ (y : ℕ). c / 2 * y) (pow-suc 2 i ∙ mul_comm (2 ^ i) 2) ∙ sym (mul_assoc (c / 2) 2 (2 ^ i)) ∙ ap (λ (y : ℕ). y * 2 ^ i) (half c e)

-- ---- where the result is an infinity
-- 2 ^ reached is the unit of the largest values, in units of the smallest
abbrev reached : Format → ℕ
reached f = emax f + suc (low f) - prec f

top-units : (f : Format) → 2 ^ prec f * 2 ^ reached f ≡ overflow f
top-units f = sym (pow-add 2 (prec f) (reached f)) ∙ ap (λ (x : ℕ). 2 ^ x) (go (prec f) (emax f) (low f) (reach f))
  where
    go : (p e l : ℕ) → p ≤ suc e → p + (e + suc l - p) ≡ l + suc e
    go p e l h = omega arith

-- the largest finite value
top-value : (f : Format) (den : ℕ) → (2 ^ prec f - 1) * 2 ^ reached f * den ≡ overflow f * den - 2 ^ reached f * den
top-value f den =
    mul_assoc (2 ^ prec f - 1) (2 ^ reached f) den
    ∙ less-mul (2 ^ prec f) 1 (2 ^ reached f * den)
    ∙ ap₂ (λ (x y : ℕ). x - y) (sym (mul_assoc (2 ^ prec f) (2 ^ reached f) den) ∙ ap (λ (x : ℕ). x * den) (top-units f)) (one-mul (2 ^ reached f * den))

rescaled : (a x den num b k w : ℕ) → 0 < w → x * w ≡ b * k → a * (k * den) ≤ num * w → a * x * den ≤ num * b
rescaled a x den num b k w W e h =
    let l : a * x * den * w ≡ a * (k * den) * b = simp (mul_assoc, mul_comm) (simp (mul_assoc, mul_left_comm) at (ap (λ (z : ℕ). a * den * z) e)) in
    le_of_mul-le-mul_right (le_trans (le_of_eq l) (le_trans (mul-le-mul_right b h) (le_of_eq (mul_right_comm num w b)))) W

too_large : (f : Format) (num den : ℕ) → 2 * (overflow f * den) ≤ 2 * (num * 2 ^ low f) + 2 ^ reached f * den → TooLarge f num den
too_large f num den h =
    let p = prec f in
    let u = 2 ^ reached f * den in
    let a : (2 ^ suc p - 1) * u ≡ 2 ^ suc p * u - u = less-mul (2 ^ suc p) 1 u ∙ ap (λ (x : ℕ). 2 ^ suc p * u - x) (one-mul u) in
    let b : 2 ^ suc p * u ≡ 2 * (overflow f * den) =
    ap (λ (x : ℕ). x * u) (pow-suc 2 p ∙ mul_comm (2 ^ p) 2)
    ∙ mul_assoc 2 (2 ^ p) u
    ∙ ap (λ (x : ℕ). 2 * x) (sym (mul_assoc (2 ^ p) (2 ^ reached f) den) ∙ ap (λ (x : ℕ). x * den) (top-units f)) in
    let c : num * 2 ^ suc (low f) ≡ 2 * (num * 2 ^ low f) = ap (λ (x : ℕ). num * x) (pow-suc 2 (low f)) ∙ sym (mul_assoc num (2 ^ low f) 2) ∙ mul_comm (num * 2 ^ low f) 2 in
    rescaled (2 ^ suc p - 1) (2 ^ emax f) den num (2 ^ p) (2 ^ reached f) (2 ^ suc (low f)) (pow_pos (suc (low f)))
    (sym (pow-add 2 (emax f) (suc (low f))) ∙ ap (λ (x : ℕ). 2 ^ x) (swap (emax f) (low f)) ∙ sym (top-units f))
    (le_trans (le_of_eq a) (less (2 ^ suc p * u) u (2 * (overflow f * den)) (2 * (num * 2 ^ low f)) (num * 2 ^ suc (low f)) b c h))
  where
    swap : (a b : ℕ) → a + suc b ≡ b + suc a
    swap a b = omega arith

    less : (x u y z w : ℕ) → x ≡ y → w ≡ z → y ≤ z + u → x - u ≤ w
    less x u y z w e g k = omega arith

-- the smallest number that is too large rounds to an infinity
threshold : (f : Format) → round f false ((2 ^ suc (prec f) - 1) * 2 ^ emax f) (2 ^ prec f) ≡ inf false
unfolding round
threshold binary32 = refl
threshold binary64 = refl

not-above : (x : Float) (a c : ℕ) → HasValue x false a c → T (le (inf false) x) → ⊥
unfolding le
not-above nan a c h t = h
not-above (inf s) a c h t = h
not-above (fin s m e) a c h t = t

-- ---- `round`: its result is `grid` units, and from `overflow` units on an infinity
module _ (f : Format) (num den : ℕ) (D : 0 < den) where
  some-digits : 0 < prec f
  some-digits = two-le_pos (prec f) (two f)

  over-large : overflow f ≤ grid f num den → TooLarge f num den
  over-large h =
      too_large f num den
      (go (overflow f * den) (2 ^ reached f * den) (grid f num den * den) ((2 ^ prec f - 1) * 2 ^ reached f * den) (num * 2 ^ low f) (top-value f den) (mul-pos (pow_pos (reached f)) D)
      (mul-le-mul_right den (pow_mono (room (emax f) (low f) (prec f)))) (mul-le-mul_right den h)
      (no-nearer (prec f) (num * 2 ^ low f) den some-digits D (2 ^ prec f - 1) (reached f) (ones_lt (prec f))))
    where
      room : (a b c : ℕ) → a + suc b - c ≤ b + suc a
      room a b c = omega arith

      go : (o u r t n : ℕ) → t ≡ o - u → 0 < u → u ≤ o → o ≤ r → apart n r ≤ apart n t → 2 * o ≤ 2 * n + u
      go o u r t n e U k l h = omega arith

  under-large : grid f num den < overflow f → TooLarge f num den → ⊥
  under-large h t =
      not-above (round f false num den) (grid f num den) (2 ^ low f) (round_val f num den h)
      (subst (λ (z : Float). T (le z (round f false num den))) (threshold f) (round_mono f ((2 ^ suc (prec f) - 1) * 2 ^ emax f) (2 ^ prec f) num den (pow_pos (prec f)) D t))

  module _ (s : Bool) (m : ℕ) (e : ℤ) (F : T (fits f (fin s m e))) (value : m * up e * 2 ^ low f ≡ grid f num den * down e) where
    own : gap s num den s m e * 2 ^ low f ≡ far s s (num * 2 ^ low f) (grid f num den * den) * down e
    own = gap-units s s num den m (grid f num den) (2 ^ low f) e value

    grid-least : (t : Bool) (n : ℕ) (d : ℤ) → T (fits f (fin t n d)) → gap s num den s m e * down d ≤ gap s num den t n d * down e
    grid-least t n d G =
        let g = on-grid f t n d G in
        let v = g.c * 2 ^ g.j in
        to-gaps (gap s num den s m e) (gap s num den t n d) (far s s (num * 2 ^ low f) (grid f num den * den)) (far s t (num * 2 ^ low f) (v * den))
        (2 ^ low f) (down e) (down d) (pow_pos (low f)) own
        (gap-units s t num den n v (2 ^ low f) d g.value) (no-nearer-signed (prec f) (num * 2 ^ low f) den some-digits D s t g.c g.j g.small)

    grid-even : (t : Bool) (n : ℕ) (d : ℤ) → T (fits f (fin t n d)) → (fin t n d ≢ fin s m e)
        → gap s num den t n d * down e ≡ gap s num den s m e * down d → to_bits f (fin s m e) % 2 ≡ 0
    grid-even t n d G ne h =
        let p = prec f in
        let a = num * 2 ^ low f in
        let l = 2 ^ low f in
        let g = on-grid f t n d G in
        let v = g.c * 2 ^ g.j in
        let gy = gap s num den s m e in
        let gz = gap s num den t n d in
        let fy = far s s a (grid f num den * den) in
        let fz = far s t a (v * den) in
        let theirs : gz * l ≡ fz * down d = gap-units s t num den n v l d g.value in
        let same : fz ≡ fy =
        le_antisymm (of-gaps gz gy fz fy l (down d) (down e) (pow_pos (low f)) (down_pos d) (down_pos e) theirs own (le_of_eq h))
        (of-gaps gy gz fy fz l (down e) (down d) (pow_pos (low f)) (down_pos e) (down_pos d) own theirs (le_of_eq (sym h))) in
        bit-of f (fin s m e) s (grid f num den) (refl, value)
        ∙ even-units p (kept p a den) (drop p a den) (two f) (kept-le p a den some-digits D)
        (tie-signed p a den some-digits D s t g.c g.j g.small same (λ i x. ne (agree i (eq_of_mul-eq-mul_right den D v (grid f num den) x) g.value)))
      where
        agree : {v : ℕ} → t ≡ s → v ≡ grid f num den → n * up d * 2 ^ low f ≡ v * down d → fin t n d ≡ fin s m e
        agree i x k = unique f (fin t n d) (fin s m e) s (grid f num den) (2 ^ low f) (pow_pos (low f)) G F (i, k ∙ ap (λ (z : ℕ). z * down d) x) (refl, value)

  finite-nearest : (s : Bool) (y : Float) → HasValue y s (grid f num den) (2 ^ low f) → T (fits f y) → grid f num den < overflow f → Nearest f s num den y
  finite-nearest s nan h F l = h
  finite-nearest s (inf t) h F l = absurd h
  finite-nearest s (fin t m e) h F l =
      let F' : T (fits f (fin s m e)) = subst (λ (z : Bool). T (fits f (fin z m e))) h.0 F in
      (h.0, record { held = F'; bounded = under-large l; least = grid-least s m e F' h.1; even = grid-even s m e F' h.1 })

  units-nearest : (s : Bool) → Nearest f s num den (units f s (kept (prec f) (num * 2 ^ low f) den) (drop (prec f) (num * 2 ^ low f) den))
  unfolding units
  units-nearest s = go (nat_lt (grid f num den) (overflow f)) (ltb→lt (grid f num den) (overflow f)) (nltb→le (grid f num den) (overflow f))
    where
      c : ℕ
      c = kept (prec f) (num * 2 ^ low f) den

      k : ℕ
      k = drop (prec f) (num * 2 ^ low f) den

      go : (b : Bool) → (T b → grid f num den < overflow f) → (T (not b) → overflow f ≤ grid f num den) → Nearest f s num den (cond b (odd (suc (prec f)) s c k (low f)) (inf s))
      go true h g =
          let digits = kept-le (prec f) (num * 2 ^ low f) den some-digits D in
          finite-nearest s (odd (suc (prec f)) s c k (low f)) (odd_sign (suc (prec f)) s c k (low f))
          (odd-fits f (suc (prec f)) s c k (lt_of_le_of_lt digits (pow-lt (le_refl (suc (prec f))))) digits (h tt)) (h tt)
      go false h g = (refl, over-large (g tt))

  pub round-nearest : (s : Bool) → Nearest f s num den (round f s num den)
  round-nearest s = subst (λ (z : Float). Nearest f s num den z) (sym (round_is f s num den)) (units-nearest s)

pub convert-nearest : (f : Format) (s : Bool) (m : ℕ) (e : ℤ) → Nearest f s (m * up e) (down e) (convert_to f (fin s m e))
unfolding convert_to
convert-nearest f s m e = round-nearest f (m * up e) (down e) (down_pos e) s

-- ---- of two values of the format that are both even and lie one above the other, neither is the nearest to what lies halfway: a third one lies between them
same_sign : (s : Bool) (a b c : ℕ) → far s s a b ≤ far s s a c → apart a b ≤ apart a c
same_sign true a b c h = h
same_sign false a b c h = h

-- the digits that the format drops from c * 2 ^ j are zeros
dropped : (p c j : ℕ) → c < 2 ^ p → size (c * 2 ^ j) - p ≤ j
dropped p c j C = go (size (c * 2 ^ j)) (size-le (c * 2 ^ j) (p + j) (shl_lt p j C))
  where
    go : (z : ℕ) → z ≤ p + j → z - p ≤ j
    go z h = omega arith

cut : (c j k : ℕ) → k ≤ j → c * 2 ^ j / 2 ^ k ≡ c * 2 ^ (j - k)
cut c j k h = ap (λ (x : ℕ). x / 2 ^ k) (parts c j k h) ∙ mul-div_cancel (c * 2 ^ (j - k)) (pow_pos k)

-- a multiple of 2 ^ k, by its quotient
whole : (c j k : ℕ) → k ≤ j → c * 2 ^ j / 2 ^ k * 2 ^ k ≡ c * 2 ^ j
whole c j k h = ap (λ (x : ℕ). x * 2 ^ k) (cut c j k h) ∙ sym (parts c j k h)

-- an even number of larger units is an even number of smaller ones
still-even : (c i : ℕ) → c % 2 ≡ 0 → c * 2 ^ i % 2 ≡ 0
still-even c i h = ap (λ (x : ℕ). x * 2 ^ i % 2) (half c h) ∙ ap (λ (x : ℕ). x % 2) (mul_right_comm (c / 2) 2 (2 ^ i)) ∙ mul-mod_left (c / 2 * 2 ^ i) 2
  where
    half : (a : ℕ) → a % 2 ≡ 0 → a ≡ a / 2 * 2
    half a z = omega arith

-- the value above v
abbrev next : ℕ → ℕ → ℕ
next p v = suc (v / 2 ^ (size v - p)) * 2 ^ (size v - p)

-- v and w are even numbers of their own units
between : (p v w : ℕ) → v / 2 ^ (size v - p) * 2 ^ (size v - p) ≡ v → w / 2 ^ (size w - p) * 2 ^ (size w - p) ≡ w → v / 2 ^ (size v - p) % 2 ≡ 0 → w / 2 ^ (size w - p) % 2 ≡ 0
    → v < w → (v < next p v) × (next p v < w)
between p v w mv mw ev ew h =
    let k = size v - p in
    let l = size w - p in
    let b = w / 2 ^ l in
    let K : k ≤ l = fewer (size v) (size w) (size-le v (size w) (lt_of_le_of_lt (le_of_lt h) (size-lt w))) in
    let e : w ≡ b * 2 ^ (l - k) * 2 ^ k = sym mw ∙ parts b l k K in
    let c : v / 2 ^ k < b * 2 ^ (l - k) = lt_of_mul-lt-mul_right (2 ^ k) (lt_of_le_of_lt (le_of_eq mv) (lt_of_lt_of_le h (le_of_eq e))) in (
      lt_of_le_of_lt (le_of_eq (sym mv)) (mul-lt-mul_of_pos_right (le_refl (suc (v / 2 ^ k))) (pow_pos k)),
      lt_of_lt_of_le (mul-lt-mul_of_pos_right (apart-two (v / 2 ^ k) (b * 2 ^ (l - k)) ev (still-even b (l - k) ew) c) (pow_pos k)) (le_of_eq (sym e)),
    )
  where
    fewer : (a b : ℕ) → a ≤ b → a - p ≤ b - p
    fewer a b l = omega arith

    apart-two : (a b : ℕ) → a % 2 ≡ 0 → b % 2 ≡ 0 → a < b → suc a < b
    apart-two a b x y l = omega arith

-- ---- only one value is the nearest
module _ (f : Format) (s : Bool) (num den : ℕ) (D : 0 < den) where
  least-of : (m : ℕ) (e : ℤ) (v : ℕ) → NearestFinite f s num den m e → m * up e * 2 ^ low f ≡ v * down e
      → (z : Float) (w : ℕ) → T (fits f z) → HasValue z s w (2 ^ low f) → apart (num * 2 ^ low f) (v * den) ≤ apart (num * 2 ^ low f) (w * den)
  least-of m e v N h nan w F k = absurd k
  least-of m e v N h (inf t) w F k = absurd k
  least-of m e v N h (fin t n d) w F k =
      let a = num * 2 ^ low f in
      let l = 2 ^ low f in
      same_sign s a (v * den) (w * den)
      (of-gaps (gap s num den s m e) (gap s num den s n d) (far s s a (v * den)) (far s s a (w * den)) l (down e) (down d) (pow_pos (low f)) (down_pos e) (down_pos d)
      (gap-units s s num den m v l e h) (gap-units s s num den n w l d k.1) (N.least s n d (subst (λ (z : Bool). T (fits f (fin z n d))) k.0 F)))

  module _ (m : ℕ) (e : ℤ) (n : ℕ) (d : ℤ) (M : NearestFinite f s num den m e) (N : NearestFinite f s num den n d) where
    level : gap s num den s n d * down e ≡ gap s num den s m e * down d
    level = le_antisymm (N.least s m e M.held) (M.least s n d N.held)

    not-below : (a i b j : ℕ) → a < 2 ^ prec f → b < 2 ^ prec f → b * 2 ^ j < overflow f
        → m * up e * 2 ^ low f ≡ a * 2 ^ i * down e → n * up d * 2 ^ low f ≡ b * 2 ^ j * down d → a * 2 ^ i < b * 2 ^ j → ⊥
    not-below a i b j A B top hv hw h =
        let p = prec f in
        let v = a * 2 ^ i in
        let w = b * 2 ^ j in
        let k = size v - p in
        let x = next p v in
        let differ : fin s m e ≡ fin s n d → ⊥ =
        λ q. apart-values v w h (eq_of_mul-eq-mul_right (down d) (down_pos d) v w (sym (subst (λ (z : Float). HasValue z s v (2 ^ low f)) q (refl, hv)).1 ∙ hw)) in
        let ev : v / 2 ^ k % 2 ≡ 0 = sym (bit-of f (fin s m e) s v (refl, hv)) ∙ M.even s n d N.held (λ q. differ (sym q)) level in
        let ew : w / 2 ^ (size w - p) % 2 ≡ 0 = sym (bit-of f (fin s n d) s w (refl, hw)) ∙ N.even s m e M.held differ (sym level) in
        let bt = between p v w (whole a i k (dropped p a i A)) (whole b j (size w - p) (dropped p b j B)) ev ew h in
        let digits : suc (v / 2 ^ k) ≤ 2 ^ p = kept-lt p v in
        let F = odd-fits f (suc p) s (suc (v / 2 ^ k)) k (lt_of_le_of_lt digits (pow-lt (le_refl (suc p)))) digits (lt_of_lt_of_le bt.1 (le_of_lt top)) in
        let l1 = least-of m e v M hv (odd (suc p) s (suc (v / 2 ^ k)) k (low f)) x F (odd_sign (suc p) s (suc (v / 2 ^ k)) k (low f)) in
        let l2 = least-of n d w N hw (fin s m e) v M.held (refl, hv) in
        middle (num * 2 ^ low f) (v * den) (x * den) (w * den) (mul-lt-mul_of_pos_right bt.0 D) (mul-lt-mul_of_pos_right bt.1 D) l1 l2
      where
        apart-values : (x y : ℕ) → x < y → x ≢ y
        apart-values x y l q = omega arith

        middle : (a x y z : ℕ) → x < y → y < z → apart a x ≤ apart a y → apart a z ≤ apart a x → ⊥
        middle a x y z l g p q = omega arith

  finite-unique : (m : ℕ) (e : ℤ) (n : ℕ) (d : ℤ) → NearestFinite f s num den m e → NearestFinite f s num den n d → fin s m e ≡ fin s n d
  finite-unique m e n d M N = go (nat_lt v w) (nat_lt w v) (ltb→lt v w) (nltb→le v w) (ltb→lt w v) (nltb→le w v)
    where
      g : OnGrid f m e
      g = on-grid f s m e M.held

      h : OnGrid f n d
      h = on-grid f s n d N.held

      v : ℕ
      v = g.c * 2 ^ g.j

      w : ℕ
      w = h.c * 2 ^ h.j

      go : (x y : Bool) → (T x → v < w) → (T (not x) → w ≤ v) → (T y → w < v) → (T (not y) → v ≤ w) → fin s m e ≡ fin s n d
      go true y a b a' b' = absurd (not-below m e n d M N g.c g.j h.c h.j g.small h.small h.below g.value h.value (a tt))
      go false true a b a' b' = absurd (not-below n d m e N M h.c h.j g.c g.j h.small g.small g.below h.value g.value (a' tt))
      go false false a b a' b' =
          unique f (fin s m e) (fin s n d) s w (2 ^ low f) (pow_pos (low f)) M.held N.held (refl, g.value ∙ ap (λ (z : ℕ). z * down e) (le_antisymm (b' tt) (b tt))) (refl, h.value)

  pub nearest-unique : (x y : Float) → Nearest f s num den x → Nearest f s num den y → x ≡ y
  nearest-unique nan y h k = absurd h
  nearest-unique (inf t) nan h k = absurd k
  nearest-unique (inf t) (inf u) h k = ap inf (h.0 ∙ sym k.0)
  nearest-unique (inf t) (fin u n d) h k = absurd (k.1.bounded h.1)
  nearest-unique (fin t m e) nan h k = absurd k
  nearest-unique (fin t m e) (inf u) h k = absurd (h.1.bounded k.1)
  nearest-unique (fin t m e) (fin u n d) h k = ap (λ (z : Bool). fin z m e) h.0 ∙ finite-unique m e n d h.1 k.1 ∙ sym (ap (λ (z : Bool). fin z n d) k.0)

-- so what is the nearest is what `convert_to` gives
pub nearest-is : (f : Format) (s : Bool) (m : ℕ) (e : ℤ) (y : Float) → Nearest f s (m * up e) (down e) y → y ≡ convert_to f (fin s m e)
nearest-is f s m e y h = nearest-unique f s (m * up e) (down e) (down_pos e) y (convert_to f (fin s m e)) h (convert-nearest f s m e)
