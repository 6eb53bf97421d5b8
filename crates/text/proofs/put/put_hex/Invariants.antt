-- `text::put::put_hex` meets its contract: what is left to put are the last k digits of `rest`. Assumes nothing.
use Rattle.text.specs.Digits.{hex, hex_in}
use Rattle.text.proofs.Puts.{Going}
use Rattle.text.proofs.put.put_hex.Given as goal

abbrev pub invariant-loop-k : goal.invariant-loop-k
invariant-loop-k l = Going (hex l.n) (hex_in l._k l.rest) l.initial.line l.at l.line l.i
