-- Rounding to the nearest value, and at a tie to the even one, by what the result is and not by how it is found: IEEE 754-2019, section 4.3.1, roundTiesToEven. Definitions only.
-- The exact number is num / den in size, for a den above 0, and negative where s is true. A finite value `fin t n d` is n * up d / down d in size, and negative where t is true.
-- `fits f x` of `lib.Ieee` says that x is a value of the format f, and `to_bits f x` is its bits.
use Rattle.std.specs.Prelude.{◌≡◌, ℕ, suc, ◌+◌, ◌-◌, ◌*◌, ◌%◌, ◌^◌, ◌≤◌, Bool, cond, T, ℤ, ◌≢◌, to_bits, Float}
use Rattle.std.specs.Bool.{beq}
use Rattle.std.specs.Float.{nan, inf, fin, Format}
use Rattle.std.specs.Float.Ieee.{prec, emax, up, down, fits}

-- the difference of two numbers, whichever is the larger
abbrev pub apart : ℕ → ℕ → ℕ
apart a b = (a - b) + (b - a)

-- The distance of the exact number from `fin t n d` is this number divided by den * down d. Numbers of unlike signs are as far apart as the sum of their sizes.
abbrev pub gap : Bool → ℕ → ℕ → Bool → ℕ → ℤ → ℕ
gap s num den t n d = cond (beq s t) (apart (num * down d) (n * up d * den)) (num * down d + n * up d * den)

-- the exact number is 2 ^ emax * (2 - 2 ^ -prec) or more in size, which is half a unit above the largest finite value
abbrev pub TooLarge : Format → ℕ → ℕ → Type 0
TooLarge f num den = (2 ^ suc (prec f) - 1) * 2 ^ emax f * den ≤ num * 2 ^ prec f

-- The exact number is rounded to the finite value y, which is `fin s m e`. Two distances are compared after a multiplication of both by den * down d * down e.
pub record NearestFinite (f : Format) (s : Bool) (num den m : ℕ) (e : ℤ) : Type 0 where
  -- y is a value of the format
  pub held : T (fits f (fin s m e))
  -- the exact number is not too large
  pub bounded : TooLarge f num den → ⊥
  -- no finite value of the format is nearer to it than y
  pub least : (t : Bool) (n : ℕ) (d : ℤ) → T (fits f (fin t n d)) → gap s num den s m e * down d ≤ gap s num den t n d * down e
  -- where another finite value of the format is as near, the last digit of y's significand is even: it is the last of y's bits
  pub even : (t : Bool) (n : ℕ) (d : ℤ) → T (fits f (fin t n d)) → (fin t n d ≢ fin s m e)
      → gap s num den t n d * down e ≡ gap s num den s m e * down d → to_bits f (fin s m e) % 2 ≡ 0

-- The exact number is rounded to y: to no NaN; to an infinity where it is too large; otherwise to a finite value. The sign is kept.
abbrev pub Nearest : Format → Bool → ℕ → ℕ → Float → Type 0
Nearest f s num den nan = ⊥
Nearest f s num den (inf t) = (t ≡ s) × TooLarge f num den
Nearest f s num den (fin t m e) = (t ≡ s) × NearestFinite f s num den m e
