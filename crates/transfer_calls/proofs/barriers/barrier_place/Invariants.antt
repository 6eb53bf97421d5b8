-- `transfer_calls::barriers::barrier_place` meets its contract. Invariant: the command looked for is number `left` of those of the barriers from `j` on. Measure: what is left of the run. Assumes nothing.
use Prim.Native.Nat.{◌*◌, ◌-◌, ◌<◌}
use mathlib.Core.Path.{◌≡◌}
use lib.ListN.{length, get_or, take, drop}
use Rattle.records.specs.declared.command.Command.TheVariants.{PopDebugGroup}
use Rattle.calls.specs.Transfers.{barriers_of, buffer_barrier_commands}
use Rattle.transfer_calls.specs.Barriers.{barriers_recorded}
use Rattle.transfer_calls.proofs.barriers.barrier_place.Given as goal

abbrev pub invariant-loop-left : goal.invariant-loop-left
invariant-loop-left l =
    (l.left < length (buffer_barrier_commands (barriers_of (drop (3 * l.j) (take (3 * l.count) l.run)))))
    × (get_or (buffer_barrier_commands (barriers_of (drop (3 * l.j) (take (3 * l.count) l.run)))) l.left PopDebugGroup ≡ get_or (barriers_recorded l.run l.count) l.i PopDebugGroup)

abbrev pub decreases-loop-left : goal.decreases-loop-left
decreases-loop-left l = length l.run - l.j
