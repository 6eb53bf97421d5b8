use mathlib.Core.List.{List}
use mathlib.Core.Path.{ap, ◌∙◌}
use lib.ListN.{length}
use Rattle.records.specs.declared.command.Command.{Command}
use Rattle.pipeline.specs.Inner.{inner_commands}
use Rattle.calls.specs.Meaning.{in_compute}
use Rattle.calls.specs.Step.{outcome_of, set_compute_pipeline_meaning}
use Rattle.calls.proofs.Plans.{found}
use Rattle.calls.specs.Judge.{asking}
use Rattle.pipeline_calls.proofs.Rights.{right, no_more}
use Rattle.pipeline_calls.proofs.Sames.{inner-same}
use Rattle.pipeline_calls.proofs.Taken.{shared-next}
use Rattle.pipeline_calls.proofs.compute.plan_set_compute_pipeline.Goals as goal

pub returns : goal.returns
unfolding outcome_of
returns c =
    let a = c.args in
    let s = a.s in
    let p = a.p.inner in
    let cs = inner_commands p s.bind in
    let asks = asking (in_compute s.progress.phase) (set_compute_pipeline_meaning s a.p).asks in
    let bind = c.inner_bind-bind.ensures in
    let same = inner-same p s.bind bind c.changed_units-changed.ensures in
    let l = c.inner_count-n.ensures in
    let many = l.0 p.program _ ∙ ap (λ (x : List Command). length x) same in
    let v = c.judge-v.result in
    let k = found a.room s asks s.progress.phase cs _ _ _ _ _ c.list_rooms-rooms.ensures c.broken_limits-broken.ensures many c.commands_only-more.ensures
    (rw (c.compute_asks-c.ensures s) at c.judge-v.ensures) c.spot_of-place.ensures in
    right a.room s asks cs k (set_compute_pipeline_meaning s a.p).after _ (shared-next v.ok s v.progress c.with_location-draw.ensures bind c.inner_immediates-immediates.ensures) same _
    (λ i h. (h, no_more same many l.1))
