-- Theorems on the truncations of `Convert`, for a reader and for other crates. Those on bits stand in specs/Agree.antt. Assumes nothing.
-- `trunc-signed`, `trunc-unsigned`: at every width a truncation is the logic's own account of Rust's `as`. `convert-is`: so is a conversion. `conversions`: what the functions cite.
use Rattle.std.specs.Prelude.{◌≡◌, ℕ, zero, suc, ◌-◌, ◌*◌, ◌/◌, ◌^◌, ◌<◌, ◌≤◌, min, Bool, true, false, cond, not, T, ℤ, pos, negsuc, neg_ℤ, nat_lt, refl, Float}
use Rattle.std.proofs.Common.{sym, ap, ◌∙◌, zero-le, zero-lt-suc, arith, ltb→lt, nltb→le, le-ltb}
use Rattle.std.specs.Float.{nan, inf, fin, Format, round_to_format}
use Rattle.std.specs.Float.Ieee.{up, down, to_signed, to_unsigned}
use Rattle.numbers.specs.Convert.{signed, unsigned, clamp, clamp_to, trunc_to, convert_to}

-- ---- clamping to the range from -a to b
min-of-lt : (q a : ℕ) → a < q → a ≡ min q a
min-of-lt q a h = omega arith

min-of-le : (q a : ℕ) → q ≤ a → q ≡ min q a
min-of-le q a h = omega arith

clamp-pos : (a b q : ℕ) → clamp (neg_ℤ (pos a)) (pos b) (pos q) ≡ pos (min q b)
clamp-pos a b q = above a ∙ go (nat_lt b q) (ltb→lt b q) (nltb→le b q)
  where
    above : (c : ℕ) → clamp (neg_ℤ (pos c)) (pos b) (pos q) ≡ cond (nat_lt b q) (pos b) (pos q)
    above zero = ap (λ (t : Bool). cond t (pos 0) (cond (nat_lt b q) (pos b) (pos q))) (le-ltb q 0 zero-le)
    above (suc c) = refl

    go : (t : Bool) → (T t → b < q) → (T (not t) → q ≤ b) → cond t (pos b) (pos q) ≡ pos (min q b)
    go true h k = ap pos (min-of-lt q b (h tt))
    go false h k = ap pos (min-of-le q b (k tt))

clamp-neg : (a b q : ℕ) → clamp (neg_ℤ (pos a)) (pos b) (neg_ℤ (pos q)) ≡ neg_ℤ (pos (min q a))
clamp-neg zero b zero = ap (λ (t : Bool). cond t (pos b) (pos 0)) (le-ltb b 0 zero-le)
clamp-neg zero b (suc q) = ap (λ (n : ℕ). neg_ℤ (pos n)) (min-of-lt (suc q) 0 (zero-lt-suc q))
clamp-neg (suc a) b zero = ap (λ (t : Bool). cond t (pos b) (pos 0)) (le-ltb b 0 zero-le) ∙ ap (λ (n : ℕ). neg_ℤ (pos n)) (min-of-le 0 (suc a) zero-le)
clamp-neg (suc a) b (suc q) = go (nat_lt a q) (ltb→lt a q) (nltb→le a q)
  where
    more : a < q → suc a ≡ min (suc q) (suc a)
    more h = omega arith

    less : q ≤ a → suc q ≡ min (suc q) (suc a)
    less h = omega arith

    go : (t : Bool) → (T t → a < q) → (T (not t) → q ≤ a) → cond t (negsuc a) (negsuc q) ≡ neg_ℤ (pos (min (suc q) (suc a)))
    go true h k = ap (λ (n : ℕ). neg_ℤ (pos n)) (more (h tt))
    go false h k = ap (λ (n : ℕ). neg_ℤ (pos n)) (less (k tt))

-- `clamp_to` at the ends -a and b, with the whole part's size as a minimum
abbrev pub cut : ℕ → ℕ → Float → ℤ
cut a b nan = pos 0
cut a b (inf s) = cond s (neg_ℤ (pos a)) (pos b)
cut a b (fin s m e) = cond s (neg_ℤ (pos (min (m * up e / down e) a))) (pos (min (m * up e / down e) b))

pub clamped : (a b : ℕ) (x : Float) → clamp_to (neg_ℤ (pos a)) (pos b) x ≡ cut a b x
unfolding clamp_to
clamped a b nan = refl
clamped a b (inf s) = refl
clamped a b (fin true m e) = clamp-neg a b (m * up e / down e)
clamped a b (fin false m e) = clamp-pos a b (m * up e / down e)

-- ---- the logic's own account of Rust's `as`, at every width
pub signed_is : (h : ℕ) (x : Float) → to_signed h x ≡ cut (2 ^ h) (2 ^ h - 1) x
unfolding to_signed
signed_is h nan = refl
signed_is h (inf s) = refl
signed_is h (fin s m e) = refl

unsigned_is : (w : ℕ) (x : Float) → pos (to_unsigned w x) ≡ cut 0 (2 ^ w - 1) x
unfolding to_unsigned
unsigned_is w nan = refl
unsigned_is w (inf true) = refl
unsigned_is w (inf false) = refl
unsigned_is w (fin true m e) = ap (λ (n : ℕ). neg_ℤ (pos n)) (nothing (m * up e / down e))
  where
    nothing : (q : ℕ) → 0 ≡ min q 0
    nothing q = omega arith
unsigned_is w (fin false m e) = refl

pub trunc-signed : (h : ℕ) (x : Float) → trunc_to signed (suc h) x ≡ to_signed h x
trunc-signed h x =
    ap (λ (k : ℕ). clamp_to (neg_ℤ (pos (2 ^ k))) (pos (2 ^ k - 1)) x) (less h) ∙ clamped (2 ^ h) (2 ^ h - 1) x ∙ sym (signed_is h x)
  where
    less : (k : ℕ) → suc k - 1 ≡ k
    less k = omega arith

pub trunc-unsigned : (w : ℕ) (x : Float) → trunc_to unsigned w x ≡ pos (to_unsigned w x)
trunc-unsigned w x = clamped 0 (2 ^ w - 1) x ∙ sym (unsigned_is w x)

-- ---- a conversion to a float format
pub convert-is : (f : Format) (x : Float) → convert_to f x ≡ round_to_format f x
unfolding convert_to round_to_format
convert-is f nan = refl
convert-is f (inf s) = refl
convert-is f (fin s m e) = refl

-- ---- what the functions cite, at their width
pub trunc_signed_32 : (x : Float) → trunc_to signed 32 x ≡ to_signed 31 x
trunc_signed_32 x = trunc-signed 31 x

pub trunc_unsigned_32 : (x : Float) → trunc_to unsigned 32 x ≡ pos (to_unsigned 32 x)
trunc_unsigned_32 x = trunc-unsigned 32 x

pub ruleset conversions = (trunc_signed_32, trunc_unsigned_32, convert-is)
