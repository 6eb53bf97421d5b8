-- `cheaper::pieces::floor_of` meets its contract: the sum so far is that of the things gone through. Assumes nothing.
use Prim.Native.Nat.{◌-◌, ◌*◌, ◌≤◌}
use mathlib.Core.Path.{◌≡◌}
use Rattle.cheaper.specs.Prices.{sum_to, distinct}
use Rattle.cheaper.specs.Board.{things}
use Rattle.cheaper.proofs.pieces.floor_of.Given as goal

abbrev pub invariant-loop-t : goal.invariant-loop-t
invariant-loop-t l = (l.sum ≡ sum_to l.t (λ t. distinct (things t l.pieces) - 1)) × (l.sum ≤ 8 * l.t)
