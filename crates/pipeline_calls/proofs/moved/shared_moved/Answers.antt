use Rattle.pipeline_calls.proofs.Taken.{shared-taken}
use Rattle.pipeline_calls.proofs.moved.shared_moved.Goals as goal

pub returns : goal.returns
returns c =
    let a = c.args in
    rw (c.with_immediates.ensures, c.taken-new_immediates.ensures, c.with_bind-bound.ensures, c.taken-new_bind.ensures, c.with_draw-drawn.ensures, c.taken-new_draw.ensures, c.with_progress-moved.ensures)
    (shared-taken a.draw a.bind a.immediates a.s a.progress a.ok)
