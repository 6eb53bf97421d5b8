-- `single_calls::one::one_answer` meets its contract. Assumes nothing.
use Rattle.single_calls.proofs.one.one_answer.Goals as goal

pub returns : goal.returns
returns c = rw (c.with_draw-state.ensures, c.with_progress-moved.ensures)
