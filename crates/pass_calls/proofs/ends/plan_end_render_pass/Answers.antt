-- `pass_calls::ends::plan_end_render_pass` meets its contract. Assumes nothing.
use Rattle.pass_calls.proofs.ends.plan_end_render_pass.Goals as goal

pub returns : goal.returns
returns c = rw (c.end_render_pass-pass.ensures, c.end_fixed-fixed.ensures, c.end_vertex-vertex.ensures) at c.plan_end.ensures
