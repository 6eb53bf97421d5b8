-- `cheaper::pieces::table` meets its contract: the prices below k are right. Assumes nothing.
use Prim.Native.Nat.{ℕ, ◌/◌, ◌%◌, ◌≤◌, ◌<◌}
use mathlib.Core.Path.{◌≡◌}
use lib.ListN.{length, get_or}
use Rattle.cheaper.specs.Prices.{between}
use Rattle.cheaper.specs.Board.{value_in}
use Rattle.cheaper.proofs.pieces.table.Given as goal

abbrev pub invariant-loop-k : goal.invariant-loop-k
invariant-loop-k l = (length l.r ≡ 64) × ((q : ℕ) → q < l.k → (get_or l.r q 0 ≡ between (value_in l.pieces) (q / 8) (q % 8)) × (get_or l.r q 0 ≤ 18))
