-- `bindings::group_command::group_command_at` meets its contract.
-- Invariant: what stands at `left` of the commands that are left stands at k of all, and no offset that is left is over where none is.
-- Assumes nothing.
use Prim.Native.Nat.{◌≤◌}
use mathlib.Core.Bool.{false}
use mathlib.Core.Path.{◌≡◌}
use lib.ListN.{take, drop}
use Rattle.records.specs.declared.command.Command.{Command}
use Rattle.slots.specs.Place.{Stands}
use Rattle.bindings.specs.Group.{group_commands, group_over}
use Rattle.bindings.proofs.Entries.{cut}
use Rattle.bindings.proofs.group_command.group_command_at.Given as goal

abbrev pub invariant-loop-j : goal.invariant-loop-j
invariant-loop-j l =
    (l.j ≤ l.n)
    × (l.n ≤ 64)
    × (l.used ≤ l.j)
    × (group_over (cut l.n l.entries l.contents) (take l.count l.offsets) ≡ false
    → group_over (drop l.j (cut l.n l.entries l.contents)) (drop l.used (take l.count l.offsets)) ≡ false)
    × ((c : Command) → Stands c l.left (group_commands (drop l.j (cut l.n l.entries l.contents)) (drop l.used (take l.count l.offsets)))
    → Stands c l.k (group_commands (cut l.n l.entries l.contents) (take l.count l.offsets)))
