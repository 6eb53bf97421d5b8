-- `transfer_calls::barriers::barrier_count` meets its contract. Invariant: `n` of the counted barriers from `i` on are recorded. Assumes nothing.
use Prim.Native.Nat.{◌+◌, ◌*◌, ◌≤◌, min}
use mathlib.Core.Path.{◌≡◌}
use lib.ListN.{length, take, drop}
use Rattle.calls.specs.Transfers.{barriers_of, buffer_barrier_commands}
use Rattle.transfer_calls.proofs.barriers.barrier_count.Given as goal

abbrev pub invariant-loop-i : goal.invariant-loop-i
invariant-loop-i l =
    (3 * (l.n + l.i) ≤ min (3 * l.count) (length l.run)) × (l.n ≡ length (buffer_barrier_commands (barriers_of (drop (3 * l.i) (take (3 * l.count) l.run)))))
