use Rattle.draw_calls.proofs.drawn.draw_answer.Goals as goal

pub returns : goal.returns
returns c = rw (c.with_vertex-state.ensures, c.with_progress-moved.ensures, c.stepped-after.ensures)
