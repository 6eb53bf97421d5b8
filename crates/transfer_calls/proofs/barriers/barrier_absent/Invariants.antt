-- `transfer_calls::barriers::barrier_absent` meets its contract. Invariant: `bad` says whether a counted barrier from `i` on is so. Assumes nothing.
use Prim.Native.Nat.{◌*◌, ◌≤◌, min}
use mathlib.Core.Path.{◌≡◌}
use lib.ListN.{length, take, drop}
use Rattle.records.specs.Check.{some?}
use Rattle.calls.specs.Transfers.{barriers_of, barrier_absent}
use Rattle.transfer_calls.proofs.barriers.barrier_absent.Given as goal

abbrev pub invariant-loop-i : goal.invariant-loop-i
invariant-loop-i l =
    (3 * l.i ≤ min (3 * l.count) (length l.run)) × (l.bad ≡ some? barrier_absent (barriers_of (drop (3 * l.i) (take (3 * l.count) l.run))))
