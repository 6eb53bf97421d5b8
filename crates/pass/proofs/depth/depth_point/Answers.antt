-- `pass::depth::depth_point` meets its contract, case by case. Assumes nothing.
use borrow.Author.Tests.{eq-eqb, ne_eqb}
use Rattle.pass.proofs.depth.depth_point.Goals as goal

pub returns-then-aspects-eq-ASPECT_DEPTH : goal.returns-then-aspects-eq-ASPECT_DEPTH
returns-then-aspects-eq-ASPECT_DEPTH c = rw (eq-eqb c.args.aspects 2 c.if-aspects-eq-ASPECT_DEPTH.true)

pub returns-then-aspects-eq-ASPECT_STENCIL : goal.returns-then-aspects-eq-ASPECT_STENCIL
returns-then-aspects-eq-ASPECT_STENCIL c = rw (ne_eqb c.args.aspects 2 c.if-aspects-eq-ASPECT_DEPTH.false, eq-eqb c.args.aspects 4 c.if-aspects-eq-ASPECT_STENCIL.true)

pub returns-else-aspects-eq-ASPECT_STENCIL : goal.returns-else-aspects-eq-ASPECT_STENCIL
returns-else-aspects-eq-ASPECT_STENCIL c = rw (ne_eqb c.args.aspects 2 c.if-aspects-eq-ASPECT_DEPTH.false, ne_eqb c.args.aspects 4 c.if-aspects-eq-ASPECT_STENCIL.false)
