-- `single_calls::barriers::texture_uses` meets its contract. Invariant: `uses` are those of the counted barriers from `i` on. Assumes nothing.
use Prim.Native.Nat.{◌*◌, ◌≤◌, min}
use mathlib.Core.Path.{◌≡◌}
use lib.ListN.{length, take, drop}
use Rattle.calls.specs.Transfers.{texture_uses}
use Rattle.single_calls.proofs.barriers.texture_uses.Given as goal

abbrev pub invariant-loop-i : goal.invariant-loop-i
invariant-loop-i l = (2 * l.i ≤ min (2 * l.count) (length l.run)) × (l.uses ≡ texture_uses (drop (2 * l.i) (take (2 * l.count) l.run)))
