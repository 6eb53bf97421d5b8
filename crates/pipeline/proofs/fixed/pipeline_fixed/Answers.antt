-- `pipeline::fixed::pipeline_fixed` meets its contract, field by field. Assumes nothing.
use Rattle.pipeline.proofs.fixed.pipeline_fixed.Goals as goal

pub returns : goal.returns
returns c = rw (c.stencil_or.ensures, c.map_primitive_state.ensures)
