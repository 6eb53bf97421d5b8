use Rattle.std.proofs.Common.{refl, get_or}
use Rattle.calls.specs.Call.{begin_render_pass}
use Rattle.pass_calls.specs.BegunRender.{render_at, render_next}
use Rattle.pass_calls.specs.Marked.{label_of}
use Rattle.pass_calls.proofs.Begun.{begun-done}
use Rattle.pass_calls.proofs.Labels.{label-fits}
use Rattle.pass_calls.proofs.begins.begin_render_pass.Goals as goal

pub copy_label-requires : goal.copy_label-requires
copy_label-requires c = let a = c.args in label-fits _ _ _ a.has_label a.label.now a.label_count _ _ _ (c.plan_begin_render-plan.ensures.0 a.label.now refl).2

pub returns : goal.returns
returns c =
    let a = c.args in
    let p = c.plan_begin_render-plan.result in
    begun-done a.caps a.s (begin_render_pass a.d (label_of a.has_label a.label.now a.label_count) (record { run = a.set.now; count = a.set_count })) (λ x. refl) refl
    _ _ _ _ _ p.outcome (render_next p a.s) p.batch.at p.batch.n (render_at p.batch) p.put p.size (λ i. get_or a.label.now i 0)
    (c.plan_begin_render-plan.ensures.0 a.label.now refl) c.render_answer.ensures c.«record».ensures c.copy_label.ensures
