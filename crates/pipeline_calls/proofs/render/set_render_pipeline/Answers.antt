use Rattle.std.proofs.Common.{refl}
use Rattle.calls.specs.Call.{set_render_pipeline}
use Rattle.pipeline_calls.specs.Piped.{PipedAllowed, piped_next, piped_at}
use Rattle.pipeline_calls.proofs.Rights.{done}
use Rattle.pipeline_calls.proofs.render.set_render_pipeline.Goals as goal

pub returns : goal.returns
returns c =
    let a = c.args in
    let p = c.plan_set_render_pipeline-plan.result in
    done a.caps a.s (set_render_pipeline a.p) (λ x. refl) refl refl _ _ _ p.outcome (piped_next p a.s) p.batch.at p.batch.n (piped_at p.batch) (PipedAllowed p.batch)
    c.plan_set_render_pipeline-plan.ensures c.piped_answer.ensures c.record_piped.ensures
