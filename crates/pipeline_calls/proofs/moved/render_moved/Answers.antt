use Rattle.pipeline_calls.proofs.moved.render_moved.Goals as goal

pub returns : goal.returns
returns c = rw (c.with_vertex.ensures, c.taken-new_vertex.ensures, c.with_fixed-set.ensures, c.taken-new_fixed.ensures)
