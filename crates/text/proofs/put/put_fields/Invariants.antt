-- `text::put::put_fields` meets its contract: what is left to put are the first k fields. Assumes nothing.
use Prim.Native.Nat.{◌≤◌, ◌*◌}
use lib.ListN.{take}
use Rattle.text.specs.Field.{spaced}
use Rattle.text.proofs.Puts.{Going}
use Rattle.text.proofs.put.put_fields.Given as goal

abbrev pub invariant-loop-k : goal.invariant-loop-k
invariant-loop-k l =
    (22 * l.k ≤ l.i) × Going (spaced (take l.shown.count l.shown.items)) (spaced (take l.k l.shown.items)) l.initial.line l.at l.line l.i
