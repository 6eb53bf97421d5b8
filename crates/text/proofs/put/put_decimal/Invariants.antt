-- `text::put::put_decimal` meets its contract: what is left to put are the digits of `rest`. Assumes nothing.
use Prim.Native.Nat.{◌≤◌}
use Rattle.text.specs.Digits.{decimal}
use Rattle.text.proofs.Puts.{Going}
use Rattle.text.proofs.put.put_decimal.Given as goal

abbrev pub invariant-loop-rest : goal.invariant-loop-rest
invariant-loop-rest l = (l.rest ≤ l.n) × Going (decimal l.n) (decimal l.rest) l.initial.line l.at l.line l.i

abbrev pub decreases-loop-rest : goal.decreases-loop-rest
decreases-loop-rest l = l.rest
