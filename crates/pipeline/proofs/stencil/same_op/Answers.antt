-- `pipeline::stencil::same_op` meets its contract. Assumes nothing.
use Rattle.pipeline.proofs.stencil.same_op.Goals as goal

pub returns : goal.returns
returns c = simp c.same_stencil_ops.ensures
