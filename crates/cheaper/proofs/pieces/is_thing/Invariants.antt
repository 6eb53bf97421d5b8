-- `cheaper::pieces::is_thing` meets its contract: x is none of the pieces gone through. Assumes nothing.
use mathlib.Core.Path.{◌≡◌}
use lib.ListN.{drop}
use Rattle.cheaper.specs.Prices.{among}
use Rattle.cheaper.specs.Board.{things}
use Rattle.cheaper.proofs.pieces.is_thing.Given as goal

abbrev pub invariant-loop-p : goal.invariant-loop-p
invariant-loop-p l = among l.x (things l.t (drop l.p-index l.pieces)) ≡ among l.x (things l.t l.pieces)
