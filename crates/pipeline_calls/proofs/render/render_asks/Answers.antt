use Rattle.pipeline_calls.proofs.render.render_asks.Goals as goal

pub returns : goal.returns
returns c =
    λ caps s.
    rw (c.in_phase.ensures, c.vertex_twice.ensures, c.vertex_absent.ensures, c.inner_out_of_range.ensures, c.vertex_out_of_range.ensures, c.inner_too_many.ensures, c.fixed_too_many.ensures, c.vertex_too_many.ensures, c.in_render.ensures)
