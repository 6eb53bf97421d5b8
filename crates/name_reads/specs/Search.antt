-- The search of the code: a table gone through from its last entry to its first. Definitions only.
use Rattle.std.specs.Prelude.{ℕ, zero, suc, cond, List, eqb, length, get_or, Option, Some, None}

-- the last place below k of a table that holds n
unfoldable pub searched : List ℕ → ℕ → ℕ → Option ℕ
searched xs n zero = None
searched xs n (suc k) = cond (eqb (get_or xs k 0) n) (Some k) (searched xs n k)

abbrev pub last_place : List ℕ → ℕ → Option ℕ
last_place xs n = searched xs n (length xs)
