-- `state_text::write_lines` meets its contract. Invariant: the first k lines are laid into `out`. Measure: the lines left. Assumes nothing.
use Prim.Native.Nat.{◌+◌}
use mathlib.Core.Path.{◌≡◌}
use lib.ListN.{length}
use Rattle.state_text.specs.State.{lines_to, state_line}
use Rattle.text.specs.Wrote.{laid}
use Rattle.state_text.proofs.write_lines.Given as goal

abbrev pub invariant-loop-k : goal.invariant-loop-k
invariant-loop-k l =
    let t = lines_to l.k (state_line l.s) in
    (l.i ≡ l.at + length t) × (l.out ≡ laid l.initial.out l.at t)
