-- `pass_calls::ended::end_count` meets its contract. Assumes nothing.
use Rattle.pass_calls.proofs.ended.end_count.Goals as goal

pub returns-then-render : goal.returns-then-render
returns-then-render c = rw c.if-render.true c.end_render_count.ensures

pub returns-else-render : goal.returns-else-render
returns-else-render c = rw c.if-render.false c.end_compute_count.ensures
