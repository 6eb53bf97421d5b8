-- `transfer_calls::regions::empty_region` meets its contract. Invariant: `bad` says whether a counted region from `i` on is so. Assumes nothing.
use Prim.Native.Nat.{◌*◌, ◌≤◌, min}
use mathlib.Core.Path.{◌≡◌}
use lib.ListN.{length, take, drop}
use Rattle.records.specs.Check.{some?}
use Rattle.calls.specs.Transfers.{copies_of, empty_copy}
use Rattle.transfer_calls.proofs.regions.empty_region.Given as goal

abbrev pub invariant-loop-i : goal.invariant-loop-i
invariant-loop-i l =
    (3 * l.i ≤ min (3 * l.count) (length l.run)) × (l.bad ≡ some? empty_copy (copies_of (drop (3 * l.i) (take (3 * l.count) l.run))))
