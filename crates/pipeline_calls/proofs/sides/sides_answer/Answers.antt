use Rattle.pipeline_calls.proofs.sides.sides_answer.Goals as goal

pub returns : goal.returns
returns c = rw (c.with_fixed-state.ensures, c.with_progress-moved.ensures)
