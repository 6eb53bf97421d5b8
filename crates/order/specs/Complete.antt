-- A view in which nothing that a draw needs is missing. Definitions only.
use Rattle.std.specs.Prelude.{◌≡◌, true, Option, None, Some}
use Rattle.machine.specs.View.{Fetch, View}
use Rattle.book.specs.Book.{known}
use Rattle.machine.specs.Each.{Each}

-- a fetch with a source
abbrev pub Sourced : Option Fetch → Type 0
Sourced None = ⊥
Sourced (Some f) = known f.source ≡ true

pub record Complete (v : View) : Type 0 where
  pub program : known v.program ≡ true
  pub fetches : Each Sourced v.fetches
  pub viewport : known v.viewport ≡ true
  pub scissor : known v.scissor ≡ true
  pub primitive : known v.primitive ≡ true
