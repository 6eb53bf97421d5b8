-- What the contracts inside the crate say of a place of the state: which row it is in, and what is shown of it. Assumes nothing.
use Rattle.std.specs.Prelude.{ℕ, suc, ◌+◌, ◌-◌, ◌≤◌, ◌<◌, ◌≡◌, refl, Bool, false, cond, List, [], ◌∷◌, ◌++◌, map, ltb, length, take, get_or, Option, None, Some, IfSome}
use Rattle.records.specs.declared.state.State.{State}
use Rattle.text.specs.declared.field.Field.{Field}
use Rattle.text.specs.declared.field.Shown.{Shown}
use Rattle.state_text.specs.declared.state.Place.{Place}
use Rattle.text.specs.Shown.{built}
use Rattle.text.specs.declared.field.Word.TheVariants.{State as state_word}
use Rattle.text.specs.Field.{word_text}
use Rattle.text.specs.Put.{body_of}
use Rattle.state_text.specs.State.{StateRow, state_rows, row_line, state_count}

-- what is shown by a place among the names and up to 14 fields, where it is there
abbrev pub told_of : Bool → ℕ → List Field → Option Shown
told_of there name fields = cond there (Some (built name (length (take 14 fields)) fields)) None

-- the line of what is shown of a place of the state
abbrev pub told_line : Option Shown → List ℕ
told_line None = []
told_line (Some s) = word_text state_word ++ body_of s

-- t shows place i of a row
pub record TellsRow (row : StateRow) (i : ℕ) (t : Option Shown) : Type 0 where
  pub within : IfSome t (λ s. (s.name < 74) × (s.count ≤ 14))
  pub line : told_line t ≡ row_line row i

-- no row
abbrev pub no_row : StateRow
no_row = record { name = ""; places = 0; there = λ i. false; fields = λ i. [] }

-- row number r
abbrev pub row_at : State → ℕ → StateRow
row_at s r = get_or (state_rows s) r no_row

-- how many places each row has
abbrev pub row_places : List ℕ
row_places =
    1 ∷ 1 ∷ 1 ∷ 16 ∷ 16 ∷ 8 ∷ 1 ∷ 1 ∷ 1 ∷ 1 ∷ 16 ∷ 16 ∷ 1 ∷ 8 ∷ 10 ∷ 1 ∷ 1 ∷ 16 ∷ 1 ∷ 192 ∷ 64 ∷ 1 ∷ 1 ∷ []

pub places-are : (s : State) → map (λ r. r.places) (state_rows s) ≡ row_places
places-are s = refl

-- and all of them
abbrev total : List ℕ → ℕ
total [] = 0
total (n ∷ ns) = n + total ns

pub count-is : total row_places ≡ state_count
count-is = refl

-- the row and the place in it of place k of rows, the first of which is row r
unfoldable pub place_in : List ℕ → ℕ → ℕ → Place
place_in [] r k = record { row = r; i = k }
place_in (n ∷ ns) r k = cond (ltb k n) (record { row = r; i = k }) (place_in ns (suc r) (k - n))
