-- What the records are made from. Definitions only.
use Rattle.std.specs.Prelude.{ℕ, ◌+◌, ◌^◌, ◌<◌, List, length, get_or}
use Rattle.walk_forms.specs.declared.fills.Rec.{Rec}
use Rattle.walk_forms.specs.declared.fills.Batch.{Batch}
use Rattle.walk_forms.specs.declared.fills.Window.{Window}

abbrev pub rec_of : ℕ → Rec
rec_of c = record { c = c }

-- the number of record i of a batch
abbrev pub number_at : Batch → ℕ → ℕ
number_at b i = b.first + i

abbrev pub NumberFits : Batch → ℕ → Type 0
NumberFits b i = b.first + i < 2 ^ 32

-- the number that a run has for record i
abbrev pub read_at : List ℕ → Window → ℕ → ℕ
read_at run w i = get_or run (w.from + i) 0

abbrev pub ReadFits : List ℕ → Window → ℕ → Type 0
ReadFits run w i = w.from + i < length run

-- where record i finds its number among four
abbrev pub place_in : Window → ℕ → ℕ
place_in w i = w.from + i

abbrev pub PlaceFits : Window → ℕ → Type 0
PlaceFits w i = w.from + i < 4

-- the number after the one that it finds
abbrev pub picked_at : Window → ℕ → ℕ → ℕ
picked_at w i e = e + 1

abbrev pub PickFits : Window → ℕ → ℕ → Type 0
PickFits w i e = e + 1 < 2 ^ 32
