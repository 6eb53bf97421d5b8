use Rattle.pipeline_calls.proofs.reference.referenced.Goals as goal

pub returns : goal.returns
returns c = rw (c.with_reference-back.ensures, c.with_reference-front.ensures)
