use mathlib.Core.Path.{ap, ◌∙◌}
use lib.ListN.{length}
use Rattle.names.specs.declared.gl.StencilState.{StencilState}
use Rattle.pipeline.specs.Fixed.{stencil_funcs}
use Rattle.calls.specs.Meaning.{in_render, free}
use Rattle.calls.specs.Parts.{with_fixed, with_stencil}
use Rattle.calls.specs.Settings.{referenced}
use Rattle.calls.specs.Step.{outcome_of}
use Rattle.calls.proofs.Plans.{found}
use Rattle.calls.specs.Judge.{asking}
use Rattle.pipeline_calls.proofs.Rights.{right, no_more}
use Rattle.pipeline_calls.proofs.Taken.{fixed-next}
use Rattle.pipeline_calls.proofs.reference.plan_set_stencil_reference.Goals as goal

pub returns : goal.returns
unfolding outcome_of
returns c =
    let a = c.args in
    let s = a.s in
    let new = referenced a.reference s.fixed.stencil in
    let fixed = with_stencil new s.fixed in
    let cs = stencil_funcs new in
    let asks = asking (in_render s.progress.phase) free in
    let stencil = c.referenced-stencil.ensures in
    let same = ap stencil_funcs stencil in
    let l = c.stencil_func_count-n.ensures in
    let many = l.0 ∙ ap (λ (x : StencilState). length (stencil_funcs x)) stencil in
    let v = c.judge-v.result in
    let k = found a.room s asks s.progress.phase cs _ _ _ _ _ c.list_rooms-rooms.ensures c.broken_limits-broken.ensures many c.commands_only-more.ensures
    (rw (c.in_phase-c.ensures, c.in_render.ensures) at c.judge-v.ensures) c.spot_of-place.ensures in
    right a.room s asks cs k (with_fixed fixed s) _ (fixed-next v.ok fixed s v.progress (rw (c.with_stencil-new.ensures, stencil) at c.taken-fixed.ensures)) same _
    (λ i h. (h, no_more same many l.1))
