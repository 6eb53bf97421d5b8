-- `pass::depth::clear_both` meets its contract, case by case. Assumes nothing.
use Rattle.pass.proofs.depth.clear_both.Goals as goal

pub returns-then-stencil : goal.returns-then-stencil
returns-then-stencil c = simp (c.if-depth.true, c.if-stencil.true)

pub returns-else-stencil : goal.returns-else-stencil
returns-else-stencil c = simp (c.if-depth.true, c.if-stencil.false)

pub returns-then-stencil-2 : goal.returns-then-stencil-2
returns-then-stencil-2 c = simp (c.if-depth.false, c.if-stencil-2.true)
