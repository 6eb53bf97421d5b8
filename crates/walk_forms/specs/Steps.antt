-- What the functions do with an element. Definitions only.
use Rattle.std.specs.Prelude.{ℕ, Bool, ◌+◌, nat_lt}
use Rattle.walk_forms.specs.Filled.{rec_of}
use Rattle.walk_forms.specs.declared.fills.Rec.{Rec}

-- a fold: the last element's number, and how many there are
abbrev pub newest : ℕ → ℕ → Rec → ℕ
newest a i x = x.c

abbrev pub counted : ℕ → ℕ → Rec → ℕ
counted a i x = a + 1

-- an element that is moved, by a number
abbrev pub moved : ℕ → ℕ → Rec → Rec
moved shift i x = rec_of shift

-- one that is kept
abbrev pub kept : Rec → Bool
kept x = nat_lt x.c 5

-- one that is rewritten, by the value so far
abbrev pub changed : ℕ → ℕ → Rec → Rec
changed a i x = rec_of a

-- two lists: the number in the first one says where it is read next, the second is read at its start
abbrev pub place_a : ℕ → ℕ
place_a m = m

abbrev pub place_b : ℕ → ℕ
place_b m = 0

abbrev pub turned : ℕ → Rec → Rec → ℕ
turned m x y = x.c
