use Rattle.std.proofs.Common.{refl}
use Rattle.calls.specs.Call.{set_compute_pipeline}
use Rattle.pipeline_calls.specs.Programmed.{ProgrammedAllowed, programmed_next, programmed_at}
use Rattle.pipeline_calls.proofs.Rights.{done}
use Rattle.pipeline_calls.proofs.compute.set_compute_pipeline.Goals as goal

pub returns : goal.returns
returns c =
    let a = c.args in
    let p = c.plan_set_compute_pipeline-plan.result in
    done a.caps a.s (set_compute_pipeline a.p) (λ x. refl) refl refl _ _ _ p.outcome (programmed_next p a.s) p.batch.at p.batch.n (programmed_at p.batch) (ProgrammedAllowed p.batch)
    c.plan_set_compute_pipeline-plan.ensures c.programmed_answer.ensures c.«record».ensures
