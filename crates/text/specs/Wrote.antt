-- What writing a line into lent bytes leaves there and answers. Definitions only.
use Rattle.std.specs.Prelude.{ℕ, ◌+◌, Bool, cond, List, ◌++◌, leb, length, take, drop, Option, None, Some}

-- there is room for the line from `at` on
abbrev pub fits : List ℕ → ℕ → List ℕ → Bool
fits out at line = leb (at + length line) (length out)

-- the line from `at` on, and all else as it was
abbrev pub laid : List ℕ → ℕ → List ℕ → List ℕ
laid out at line = take at out ++ line ++ drop (at + length line) out

-- the line where there is room for it; without room all as it was
abbrev pub pasted : List ℕ → ℕ → List ℕ → List ℕ
pasted out at line = cond (fits out at line) (laid out at line) out

-- the place past the line, where there is room for it
abbrev pub wrote_of : List ℕ → ℕ → List ℕ → Option ℕ
wrote_of out at line = cond (fits out at line) (Some (at + length line)) None
