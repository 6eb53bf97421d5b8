use Rattle.pipeline_calls.proofs.compute.compute_asks.Goals as goal

pub returns : goal.returns
returns c = λ s. rw (c.in_phase.ensures, c.inner_out_of_range.ensures, c.inner_too_many.ensures, c.in_compute.ensures)
