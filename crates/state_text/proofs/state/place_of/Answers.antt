-- `state_text::state::place_of` meets its contract. Invariant: place i of the rows left is place k of them all. Assumes nothing.
use Prim.Native.Nat.{suc, ◌+◌, ◌<◌}
use native.Mathlib.Omega.{arith}
use mathlib.Core.Path.{◌≡◌, sym, ◌∙◌}
use Rattle.state_text.specs.Told.{row_places, place_in}
use Rattle.state_text.proofs.RowLaws.{place_here, place-on}
use Rattle.state_text.proofs.state.place_of.Goals as goal

pub returns-then-i-places : goal.returns-then-i-places
returns-then-i-places c =
    let l = c.loop-row in
    let p = c.row_places-places.ensures in
    let r : l.row < 23 = omega arith in
    (sym (place_here row_places l.row l.row l.i r (rw (← p) c.if-i-places.true)) ∙ l.invariant, omega arith)

pub loop-row-preserved : goal.loop-row-preserved
loop-row-preserved c =
    let l = c.loop-row in
    let p = c.row_places-places.ensures in
    let r : l.row < 23 = omega arith in
    let e : l.row + 1 ≡ suc l.row = omega arith in
    rw (e, p) (sym (place-on row_places l.row l.row l.i r (rw (← p) c.if-i-places.false)) ∙ l.invariant)

pub returns : goal.returns
unfolding place_in
returns c =
    let l = c.loop-row in
    let e : l.row ≡ 23 = omega arith in
    (rw e at l.invariant, omega arith)
