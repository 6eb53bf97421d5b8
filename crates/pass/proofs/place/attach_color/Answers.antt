-- `pass::place::attach_color` meets its contract: the point is in its field for a place below 8. Assumes nothing.
use Prim.Native.Nat.{◌+◌, ◌^◌}
use mathlib.Core.Path.{sym, ◌∙◌}
use native.Mathlib.Omega.{arith}
use borrow.Author.Tests.{lt-ltb}
use Rattle.names.specs.Gl.{GL_COLOR_ATTACHMENT0}
use Rattle.pass.proofs.place.attach_color.Goals as goal

pub returns-then-resolves_in_place : goal.returns-then-resolves_in_place
returns-then-resolves_in_place c =
    λ h.
    let a = c.args in
    let t = sym c.resolves_in_place.ensures ∙ c.if-resolves_in_place.true in
    rw (t, c.unwrap_or.ensures, c.color_point-attachment.ensures, lt-ltb (GL_COLOR_ATTACHMENT0 + a.i) (2 ^ 32) (omega arith))

pub returns-else-resolves_in_place : goal.returns-else-resolves_in_place
returns-else-resolves_in_place c =
    λ h.
    let a = c.args in
    let t = sym c.resolves_in_place.ensures ∙ c.if-resolves_in_place.false in
    rw (t, c.color_point-attachment.ensures, lt-ltb (GL_COLOR_ATTACHMENT0 + a.i) (2 ^ 32) (omega arith))
