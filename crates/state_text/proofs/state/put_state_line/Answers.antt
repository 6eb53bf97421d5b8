-- `state_text::state::put_state_line` meets its contract: the line of the place that was found. Assumes nothing.
use mathlib.Core.Path.{ap}
use Rattle.state_text.specs.State.{state_rows}
use Rattle.state_text.proofs.RowLaws.{found, line-found}
use Rattle.state_text.proofs.state.put_state_line.Goals as goal

pub returns : goal.returns
returns c =
    let t = c.told-told in
    let p = c.place_of-place in
    let a = c.args in
    rw (line-found a.s.now a.k, ← ap (found (state_rows a.s.now)) p.ensures.0, ← t.ensures.line) c.put_told.ensures
