-- `pipeline::inner::inner_command_at` meets its contract: the program first, then the units by place. Assumes nothing.
use Prim.Native.Nat.{ℕ, suc, ◌-◌, ◌<◌}
use mathlib.Core.Path.{◌≡◌, ap, ◌∙◌, sym}
use mathlib.Core.List.{◌∷◌}
use native.Mathlib.Omega.{arith}
use lib.ListN.{length, get_or}
use Rattle.records.specs.declared.command.Command.TheVariants.{SetProgram}
use Rattle.bindings.specs.Units.{sampler_commands}
use Rattle.pipeline.proofs.inner.inner_command_at.Goals as goal

pub returns-then-k-eq0 : goal.returns-then-k-eq0
returns-then-k-eq0 c = λ h d. let e : c.args.k ≡ 0 = omega arith in rw e

pub returns-else-k-eq0 : goal.returns-else-k-eq0
returns-else-k-eq0 c =
    λ h d.
    let a = c.args in
    let l = sampler_commands a.b a.changed in
    let e : a.k ≡ suc (a.k - 1) = omega arith in
    let g : a.k - 1 < length l = omega arith in
    c.sampler_command.ensures g d ∙ sym (ap (λ (n : ℕ). get_or (SetProgram a.program ∷ l) n d) e)
