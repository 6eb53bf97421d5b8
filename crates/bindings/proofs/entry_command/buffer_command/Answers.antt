-- `bindings::entry_command::buffer_command` meets its contract. Assumes nothing.
use mathlib.Core.Bool.{Bool, cond}
use mathlib.Core.Path.{◌≡◌, ap₂, ◌∙◌}
use lib.IntN.{ℤ, pos, ◌+ℤ◌}
use mir.Syntax.{w32}
use mir.ValLaws.{to_z-of_z}
use Rattle.bindings.specs.Group.{dynamic}
use Rattle.bindings.proofs.Whole.{whole-low, low-back}
use Rattle.bindings.proofs.entry_command.buffer_command.Goals as goal

pub returns : goal.returns
returns c =
    λ o.
    let a = c.args in
    let t = dynamic a.entry.ty in
    let z = to_z-of_z w32 a.offset c.ranges.offset in
    let e : c.offset_of-whole.result ≡ cond t (a.offset +ℤ pos a.next) a.offset =
    c.offset_of-whole.ensures
    ∙ ap₂ (λ (u : Bool) (y : ℤ). cond u (y +ℤ pos a.next) y) c.dynamic.ensures z in
    let w =
    low-back (cond t (a.offset +ℤ pos a.next) a.offset) c.offset_of-whole.result c.low.result e
    (whole-low t a.offset a.next c.ranges.offset.sfits o) c.low.ensures in
    rw (c.buffer_target.ensures, w, to_z-of_z w32 a.size c.ranges.size)
