use Rattle.pipeline_calls.proofs.programmed.programmed_answer.Goals as goal

pub returns : goal.returns
returns c = rw c.shared_moved-state.ensures
