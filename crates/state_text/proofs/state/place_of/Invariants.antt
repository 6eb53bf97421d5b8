-- `state_text::state::place_of` meets its contract. Invariant: place i of the rows left is place k of them all. Measure: the rows left. Assumes nothing.
use mathlib.Core.Path.{◌≡◌}
use lib.ListN.{drop}
use Rattle.state_text.specs.Told.{row_places, place_in}
use Rattle.state_text.proofs.state.place_of.Given as goal

abbrev pub invariant-loop-row : goal.invariant-loop-row
invariant-loop-row l = place_in (drop l.row row_places) l.row l.i ≡ place_in row_places 0 l.k
