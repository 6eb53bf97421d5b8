use Prim.Native.Nat.{ℕ, ◌-◌, ◌^◌, ◌<◌}
use mathlib.Core.Path.{◌∙◌, ap}
use native.Mathlib.Omega.{arith}
use lib.ListN.{get_or}
use Rattle.records.specs.declared.command.Command.TheVariants.{PopDebugGroup}
use Rattle.joining.specs.Ending.{unset, rest_by}
use Rattle.joining.proofs.Resetting.{at_unit, at_rest}
use Rattle.joining.proofs.join.reset_at.Goals as goal

-- src/join.rt:115:9
pub returns-then-i-n : goal.returns-then-i-n
returns-then-i-n c =
    let a = c.args in
    let h : a.batch.ending.units < 2 ^ 32 = omega arith in
    ap unset c.nth-unit.ensures ∙ at_unit a.batch.ending a.i h (omega (arith, c.count-n.ensures))

-- src/join.rt:106:1
pub returns : goal.returns
returns c =
    let a = c.args in
    let h : a.batch.ending.units < 2 ^ 32 = omega arith in
    c.rest_at.ensures ∙ ap (λ (m : ℕ). get_or (rest_by a.batch.ending) (a.i - m) PopDebugGroup) c.count-n.ensures ∙ at_rest a.batch.ending a.i h (omega (arith, c.count-n.ensures))
