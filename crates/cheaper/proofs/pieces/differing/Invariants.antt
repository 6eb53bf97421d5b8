-- `cheaper::pieces::differing` meets its contract: the sum so far is that of the things gone through. Assumes nothing.
use Prim.Native.Nat.{◌≤◌}
use mathlib.Core.Path.{◌≡◌}
use Rattle.cheaper.specs.Prices.{sum_to, differs}
use Rattle.cheaper.specs.Board.{thing_of}
use Rattle.cheaper.proofs.pieces.differing.Given as goal

abbrev pub invariant-loop-t : goal.invariant-loop-t
invariant-loop-t l = (l.sum ≡ sum_to l.t (λ t. differs (thing_of l.a t) (thing_of l.b t))) × (l.sum ≤ l.t)
