-- `pipeline::stencil::stencil_func_at` meets its contract: one for both faces, or front and then back. Assumes nothing.
use Prim.Native.Nat.{ℕ}
use mathlib.Core.Bool.{Bool}
use mathlib.Core.Path.{sym, ◌∙◌}
use Rattle.records.specs.Same.{same_stencil_func}
use Rattle.names.specs.Gl.{GL_FRONT, GL_BACK, GL_FRONT_AND_BACK}
use Rattle.names.specs.declared.gl.StencilState.{StencilState}
use Rattle.records.specs.declared.command.Command.{Command}
use Rattle.pipeline.specs.Fixed.{stencil_func}
use Rattle.pipeline.proofs.Choice.{both, first, second}
use Rattle.pipeline.proofs.stencil.stencil_func_at.Goals as goal

abbrev agree : StencilState → Bool
agree s = same_stencil_func s.front s.back

abbrev face : StencilState → ℕ → Command
face s n = stencil_func n s.front

abbrev back : StencilState → Command
back s = stencil_func GL_BACK s.back

pub returns-then-same_stencil_func : goal.returns-then-same_stencil_func
returns-then-same_stencil_func c =
    let a = c.args in
    let t = sym c.same_stencil_func.ensures ∙ c.if-same_stencil_func.true in
    rw c.stencil_func.ensures (both (agree a.s) (face a.s GL_FRONT_AND_BACK) (face a.s GL_FRONT) (back a.s) a.k t)

pub returns-then-k-eq0 : goal.returns-then-k-eq0
returns-then-k-eq0 c =
    let a = c.args in
    let t = sym c.same_stencil_func.ensures ∙ c.if-same_stencil_func.false in
    rw c.stencil_func-then-k-eq0.ensures (first (agree a.s) (face a.s GL_FRONT_AND_BACK) (face a.s GL_FRONT) (back a.s) a.k t c.if-k-eq0.true)

pub returns-else-k-eq0 : goal.returns-else-k-eq0
returns-else-k-eq0 c =
    let a = c.args in
    let t = sym c.same_stencil_func.ensures ∙ c.if-same_stencil_func.false in
    rw c.stencil_func-else-k-eq0.ensures (second (agree a.s) (face a.s GL_FRONT_AND_BACK) (face a.s GL_FRONT) (back a.s) a.k t c.if-k-eq0.false)
