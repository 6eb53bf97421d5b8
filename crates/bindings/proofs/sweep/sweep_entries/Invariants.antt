-- `bindings::sweep::sweep_entries` meets its contract.
-- Invariant: the entries and offsets that are left, with what has been found, come to what all of them do. Assumes nothing.
use Prim.Native.Nat.{◌≤◌}
use mathlib.Core.Path.{◌≡◌}
use lib.ListN.{take, drop}
use Rattle.bindings.specs.Sweep.{swept}
use Rattle.bindings.proofs.Entries.{cut}
use Rattle.bindings.proofs.sweep.sweep_entries.Given as goal

abbrev pub invariant-loop-j : goal.invariant-loop-j
invariant-loop-j l =
    (l.j ≤ l.n)
    × (l.n ≤ 64)
    × (l.sweep.count ≤ l.j)
    × (l.sweep.used ≤ l.j)
    × (swept (drop l.j (cut l.n l.entries l.contents)) (drop l.sweep.used (take l.count l.offsets)) l.sweep
    ≡ swept (cut l.n l.entries l.contents) (take l.count l.offsets) l.initial.sweep)
