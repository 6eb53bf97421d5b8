-- Numbers as bytes, which are ASCII codes: the words of a line, tools/oracle/README.md, 'Fields'. Definitions only.
use Rattle.std.specs.Prelude.{ℕ, zero, suc, ◌+◌, ◌/◌, ◌%◌, cond, List, [], ◌∷◌, ◌++◌, ltb, ℤ, pos, negsuc}

-- the digits of n to the base ten: the last is n % 10, and before it stand those of n / 10, where that is not 0. At most k + 1 of them
unfoldable pub decimal_in : ℕ → ℕ → List ℕ
decimal_in zero n = (48 + n) ∷ []
decimal_in (suc k) n = cond (ltb n 10) ((48 + n) ∷ []) (decimal_in k (n / 10) ++ ((48 + n % 10) ∷ []))

-- a number below 10 ^ 20, as each of 64 bits is
abbrev pub decimal : ℕ → List ℕ
decimal n = decimal_in 19 n

-- a digit to the base sixteen: 0 to 9, then a to f
abbrev pub hex_digit : ℕ → ℕ
hex_digit d = cond (ltb d 10) (48 + d) (87 + d)

-- the last k digits of n to the base sixteen
unfoldable pub hex_in : ℕ → ℕ → List ℕ
hex_in zero n = []
hex_in (suc k) n = hex_in k (n / 16) ++ (hex_digit (n % 16) ∷ [])

-- 32 bits as eight digits
abbrev pub hex : ℕ → List ℕ
hex n = hex_in 8 n

-- a number with a sign where it is negative: `negsuc n` is -(n + 1)
abbrev pub signed : ℤ → List ℕ
signed (pos n) = decimal n
signed (negsuc n) = 45 ∷ decimal (suc n)

-- `-`: none
abbrev pub dash : List ℕ
dash = 45 ∷ []
