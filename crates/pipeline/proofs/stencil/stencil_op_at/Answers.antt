-- `pipeline::stencil::stencil_op_at` meets its contract: one for both faces, or front and then back. Assumes nothing.
use Prim.Native.Nat.{ℕ}
use mathlib.Core.Bool.{Bool, ◌&&◌}
use mathlib.Core.Path.{sym, ◌∙◌}
use lib.Dec.{eqb}
use Rattle.records.specs.Same.{same_stencil_ops}
use Rattle.names.specs.Gl.{GL_FRONT, GL_BACK, GL_FRONT_AND_BACK}
use Rattle.names.specs.declared.gl.StencilState.{StencilState}
use Rattle.records.specs.declared.command.Command.{Command}
use Rattle.pipeline.specs.Fixed.{stencil_op}
use Rattle.pipeline.proofs.Choice.{both, first, second}
use Rattle.pipeline.proofs.stencil.stencil_op_at.Goals as goal

abbrev agree : StencilState → Bool
agree s = same_stencil_ops s.front.ops s.back.ops && eqb s.front.mask_write s.back.mask_write

abbrev face : StencilState → ℕ → Command
face s n = stencil_op n s.front

abbrev back : StencilState → Command
back s = stencil_op GL_BACK s.back

pub returns-then-same_op : goal.returns-then-same_op
returns-then-same_op c =
    let a = c.args in
    let t = sym c.same_op.ensures ∙ c.if-same_op.true in
    rw c.stencil_op.ensures (both (agree a.s) (face a.s GL_FRONT_AND_BACK) (face a.s GL_FRONT) (back a.s) a.k t)

pub returns-then-k-eq0 : goal.returns-then-k-eq0
returns-then-k-eq0 c =
    let a = c.args in
    let t = sym c.same_op.ensures ∙ c.if-same_op.false in
    rw c.stencil_op-then-k-eq0.ensures (first (agree a.s) (face a.s GL_FRONT_AND_BACK) (face a.s GL_FRONT) (back a.s) a.k t c.if-k-eq0.true)

pub returns-else-k-eq0 : goal.returns-else-k-eq0
returns-else-k-eq0 c =
    let a = c.args in
    let t = sym c.same_op.ensures ∙ c.if-same_op.false in
    rw c.stencil_op-else-k-eq0.ensures (second (agree a.s) (face a.s GL_FRONT_AND_BACK) (face a.s GL_FRONT) (back a.s) a.k t c.if-k-eq0.false)
