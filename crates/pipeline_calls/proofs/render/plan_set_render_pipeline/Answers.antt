use mathlib.Core.Bool.{cond}
use mathlib.Core.Path.{ap}
use Rattle.records.specs.declared.state.BindState.{BindState}
use Rattle.pipeline.specs.Render.{render_commands}
use Rattle.calls.specs.Meaning.{in_render}
use Rattle.calls.specs.Parts.{with_progress, with_bind}
use Rattle.calls.specs.Step.{outcome_of, set_render_pipeline_meaning}
use Rattle.calls.proofs.Plans.{found}
use Rattle.calls.specs.Judge.{asking}
use Rattle.pipeline_calls.proofs.Rights.{right, no_more}
use Rattle.pipeline_calls.proofs.Sames.{render-same, render-many}
use Rattle.pipeline_calls.proofs.render.plan_set_render_pipeline.Goals as goal

pub returns : goal.returns
unfolding outcome_of
returns c =
    let a = c.args in
    let s = a.s in
    let p = a.p in
    let cs = render_commands a.caps p s.vertex s.bind s.fixed in
    let asks = asking (in_render s.progress.phase) (set_render_pipeline_meaning a.caps s p).asks in
    let after = (set_render_pipeline_meaning a.caps s p).after in
    let bind = c.inner_bind-bind.ensures in
    let plan = c.render_plan-plan.ensures in
    let same = render-same a.caps p s.vertex s.bind s.fixed bind plan.0 in
    let many = render-many a.caps p s.vertex s.bind s.fixed plan.0 in
    let v = c.judge-v.result in
    let k = found a.room s asks s.progress.phase cs _ _ _ _ _ c.list_rooms-rooms.ensures c.broken_limits-broken.ensures many c.commands_only-more.ensures
    (rw (c.render_asks-c.ensures a.caps s) at c.judge-v.ensures) c.spot_of-place.ensures in
    right a.room s asks cs k after _ (ap (λ (b : BindState). with_progress v.progress (cond v.ok (with_bind b after) s)) bind) same _
    (λ i h. (h, no_more same many plan.1, record { old = s.bind; bind = bind; plan = plan.0 }))
