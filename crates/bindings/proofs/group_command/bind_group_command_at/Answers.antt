-- `bindings::group_command::bind_group_command_at` meets its contract: the entries' commands, then the samplers'. Assumes nothing.
use Prim.Native.Nat.{ℕ, ◌-◌, ◌≤◌, ◌<◌}
use mathlib.Core.Path.{subst}
use lib.ListN.{take}
use Rattle.slots.specs.Place.{Stands}
use Rattle.slots.proofs.Parts.{stands-left, stands-right}
use Rattle.bindings.specs.Units.{sampler_commands}
use Rattle.bindings.specs.Group.{entries_of, group_commands}
use Rattle.bindings.proofs.group_command.bind_group_command_at.Goals as goal

pub returns-then-k-n : goal.returns-then-k-n
returns-then-k-n c =
    λ o e.
    let a = c.args in
    let xs = group_commands (entries_of a.l a.i a.e a.g) (take a.count a.offsets.now) in
    stands-left c.group_command_at.result a.k xs (sampler_commands a.b a.units) (subst (λ (m : ℕ). a.k < m) e c.if-k-n.true)
    (c.group_command_at.ensures o)

pub returns-else-k-n : goal.returns-else-k-n
returns-else-k-n c =
    λ o e.
    let a = c.args in
    let xs = group_commands (entries_of a.l a.i a.e a.g) (take a.count a.offsets.now) in
    stands-right c.sampler_command.result a.k xs (sampler_commands a.b a.units) (subst (λ (m : ℕ). m ≤ a.k) e c.if-k-n.false)
    (subst (λ (m : ℕ). Stands c.sampler_command.result (a.k - m) (sampler_commands a.b a.units)) e c.sampler_command.ensures)
