-- `pass_calls::begun_compute::compute_answer` meets its contract. Assumes nothing.
use Rattle.pass_calls.proofs.begun_compute.compute_answer.Goals as goal

pub returns : goal.returns
returns c = rw (c.with_pass-state.ensures, c.with_progress-moved.ensures)
