-- Laws of the digits: how a number's digits come from those of its quotient, and how many there are. Assumes nothing.
use Prim.Native.Nat.{ℕ, zero, suc, ◌+◌, ◌-◌, ◌/◌, ◌%◌, ◌^◌, ◌≤◌, ◌<◌}
use native.Mathlib.Nat.{pow-suc}
use native.Mathlib.Numerals.{sub-one}
use native.Mathlib.Omega.{arith}
use mathlib.Core.Path.{◌≡◌, refl, sym, ap, ◌∙◌}
use mathlib.Core.Bool.{Bool, true, false, cond}
use mathlib.Core.List.{List, [], ◌∷◌, ◌++◌}
use lib.Dec.{ltb}
use lib.IntN.{ℤ, pos, negsuc}
use lib.Signed.{mag}
use mir.Syntax.{w32}
use mir.Val.{to_z, of_z}
use mir.Facts.{to_z-of_z}
use lib.ListN.{length, length-append}
use borrow.Author.Tests.{lt-ltb, le-ltb}
use Rattle.numbers.specs.Convert.{bits_to}
use Rattle.text.specs.Digits.{decimal_in, decimal, hex_digit, hex_in, signed}

-- one digit more to look for changes nothing
more : (k n : ℕ) → n < 10 ^ suc k → decimal_in k n ≡ decimal_in (suc k) n
unfolding decimal_in
more zero n h = rw (lt-ltb n 10 h)
more (suc k) n h = rw (more k (n / 10) (omega (arith, pow-suc 10 (suc k))))

-- the last digit
pub decimal-last : (n : ℕ) → n < 10 → decimal n ≡ (48 + n) ∷ []
unfolding decimal_in
decimal-last n h = rw (lt-ltb n 10 h)

-- a digit more
pub decimal_step : (n : ℕ) → 10 ≤ n → n < 2 ^ 64 → decimal n ≡ decimal (n / 10) ++ ((48 + n % 10) ∷ [])
unfolding decimal_in
decimal_step n p h = rw (le-ltb n 10 p, more 18 (n / 10) (omega arith))

on-cond : (P : List ℕ → Type 0) (b : Bool) (xs ys : List ℕ) → P xs → P ys → P (cond b xs ys)
on-cond P true xs ys p q = p
on-cond P false xs ys p q = q

-- at least one digit, and at most as many as are looked for
decimal-in-long : (k n : ℕ) → (1 ≤ length (decimal_in k n)) × (length (decimal_in k n) ≤ suc k)
unfolding decimal_in
decimal-in-long zero n = omega arith
decimal-in-long (suc k) n =
    let d : List ℕ = (48 + n % 10) ∷ [] in
    on-cond (λ xs. (1 ≤ length xs) × (length xs ≤ suc (suc k))) (ltb n 10) ((48 + n) ∷ []) (decimal_in k (n / 10) ++ d) (omega arith)
    (omega (arith, length-append (decimal_in k (n / 10)) d, decimal-in-long k (n / 10)))

pub decimal-long : (n : ℕ) → (1 ≤ length (decimal n)) × (length (decimal n) ≤ 20)
decimal-long n = decimal-in-long 19 n

-- as many as are asked for
pub hex-long : (k n : ℕ) → length (hex_in k n) ≡ k
unfolding hex_in
hex-long zero n = refl
hex-long (suc k) n = length-append (hex_in k (n / 16)) _ ∙ omega (arith, hex-long k (n / 16))

-- a digit more
pub hex-step : (k n : ℕ) → 0 < k → hex_in k n ≡ hex_in (k - 1) (n / 16) ++ (hex_digit (n % 16) ∷ [])
unfolding hex_in
hex-step (suc k) n h = rw (sub-one (suc k))
hex-step zero n h = elim h [ ]

-- none left
pub hex-none : (k n : ℕ) → k ≤ 0 → hex_in k n ≡ []
unfolding hex_in
hex-none zero n h = refl
hex-none (suc _) n h = elim h [ ]

-- a number of 32 bits with a sign is what the machine reads back from its bits
pub by_bits : (z : ℤ) → mag z < 2147483648 → z ≡ to_z w32 (of_z w32 z)
by_bits z h = sym (to_z-of_z {w = w32} (record { sfits = h }))

-- the digits of such a number by its bits n: below 2 ^ 31 they are the number, and from there on 2 ^ 32 minus its size
abbrev Signed : ℤ → ℕ → Type 0
Signed z n = (n < 2147483648 → signed z ≡ decimal n) × (2147483648 ≤ n → signed z ≡ 45 ∷ decimal (4294967296 - n))

signed_is : (z : ℤ) (n : ℕ) → mag z < 2147483648 → n ≡ bits_to 32 z → Signed z n
signed_is (pos a) n f e = (λ h. ap decimal (sym e), λ h. absurd (omega arith))
signed_is (negsuc a) n f e =
    (λ h. absurd (omega arith), λ h. let d : suc a ≡ 4294967296 - n = omega arith in ap (λ k. 45 ∷ decimal k) d)

pub signed_by : (z : ℤ) (n : ℕ) → mag z < 2147483648 → n ≡ bits_to 32 (to_z w32 (of_z w32 z)) → Signed z n
signed_by z n f e = signed_is z n f (e ∙ ap (bits_to 32) (sym (by_bits z f)))
