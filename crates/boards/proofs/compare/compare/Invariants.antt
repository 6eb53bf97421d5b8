-- The turns so far have been played.
use Rattle.list_walks.proofs.Turned.{Turned}
use Rattle.boards.specs.Alike.{same_bits}
use Rattle.boards.specs.Side.{turn_of}
use Rattle.boards.proofs.compare.compare.Given as goal

abbrev pub invariant-loop-i : goal.invariant-loop-i
invariant-loop-i l = Turned (λ m. m.a.at) (λ m. m.b.at) (turn_of same_bits) l.a l.b l.other l.n l.initial.m l.m l.i
