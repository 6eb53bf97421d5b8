-- `bindings::immediates::picked` meets its contract. Invariant: of the descriptors gone through those that are sent are kept. Assumes nothing.
use Prim.Native.Nat.{◌≤◌}
use mathlib.Core.Path.{◌≡◌}
use lib.ListN.{length, take}
use Rattle.bindings.specs.Immediates.{sends, filter}
use Rattle.bindings.proofs.immediates.picked.Given as goal

abbrev pub invariant-loop-d : goal.invariant-loop-d
invariant-loop-d l =
    (l.k ≤ l.d-index) × (length l.kept ≡ 192) × (take l.k l.kept ≡ filter (sends l.sent l.start l.end) (take l.d-index l.d-items))
