-- `state_text::state::state_length` meets its contract. Invariant: the bytes of the first k lines. Measure: the lines left. Assumes nothing.
use Prim.Native.Nat.{◌*◌, ◌≤◌}
use mathlib.Core.Path.{◌≡◌}
use lib.ListN.{length}
use Rattle.state_text.specs.State.{lines_to, state_line}
use Rattle.state_text.proofs.state.state_length.Given as goal

abbrev pub invariant-loop-k : goal.invariant-loop-k
invariant-loop-k l = (l.total ≤ 384 * l.k) × (l.total ≡ length (lines_to l.k (state_line l.s)))
