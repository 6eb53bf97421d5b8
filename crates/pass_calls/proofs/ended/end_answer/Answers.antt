-- `pass_calls::ended::end_answer` meets its contract. Assumes nothing.
use Rattle.pass_calls.proofs.ended.end_answer.Goals as goal

pub returns : goal.returns
returns c = rw (c.with_vertex-state.ensures, c.with_fixed-settled.ensures, c.with_pass-passed.ensures, c.with_progress-moved.ensures)
