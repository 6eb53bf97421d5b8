-- What the functions that put a line together say: a line grows from its end to the front. Assumes nothing.
use Rattle.std.specs.Prelude.{ℕ, ◌+◌, ◌≡◌, List, [], ◌∷◌, ◌++◌, length, drop}
use Rattle.text.specs.declared.field.Shown.{Shown}
use Rattle.text.specs.Digits.{decimal}
use Rattle.text.specs.Field.{spaced}
use Rattle.text.specs.Shown.{name_at, list_of}

-- before, the line so far stands from `at` on in l; after, it has the text in front, and stands from r on in m
pub record Put (text l : List ℕ) (at : ℕ) (m : List ℕ) (r : ℕ) : Type 0 where
  pub place : r + length text ≡ at
  pub holds : drop r m ≡ text ++ drop at l

-- a blank and the name, the fields, and a newline
abbrev pub body_of : Shown → List ℕ
body_of s = name_at s.name ++ (spaced (list_of s) ++ (10 ∷ []))

-- the line of what is shown of a command
abbrev pub line_from : ℕ → Shown → List ℕ
line_from n s = decimal n ++ body_of s
