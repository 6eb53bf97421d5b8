-- `cheaper::pieces::distinct_of` meets its contract: with the pieces that are left the count is that of all. Assumes nothing.
use Prim.Native.Nat.{◌+◌, ◌≤◌}
use mathlib.Core.Path.{◌≡◌}
use lib.ListN.{drop}
use Rattle.cheaper.specs.Prices.{distinct}
use Rattle.cheaper.specs.Board.{things}
use Rattle.cheaper.proofs.pieces.distinct_of.Given as goal

abbrev pub invariant-loop-i : goal.invariant-loop-i
invariant-loop-i l = (l.count + distinct (things l.t (drop l.i l.pieces)) ≡ distinct (things l.t l.pieces)) × (l.count ≤ l.i)
