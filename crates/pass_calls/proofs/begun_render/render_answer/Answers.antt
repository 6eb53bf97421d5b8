-- `pass_calls::begun_render::render_answer` meets its contract. Assumes nothing.
use Rattle.pass_calls.proofs.begun_render.render_answer.Goals as goal

pub returns : goal.returns
returns c = rw (c.with_pass-state.ensures, c.with_progress-moved.ensures)
