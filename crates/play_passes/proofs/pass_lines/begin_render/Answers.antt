-- What is copied of the label fits.
use mathlib.Core.Path.{refl}
use lib.ListN.{length}
use Rattle.pass_calls.proofs.Labels.{label-fits}
use Rattle.play_passes.proofs.pass_lines.begin_render.Goals as goal

pub copy_label-requires : goal.copy_label-requires
copy_label-requires g c =
    let a = c.args in
    label-fits _ (length a.bytes.now) a.s.progress.bytes _ a.label.now _ _ _ _ (c.plan_begin_render-plan.ensures.0 a.label.now refl).2
