-- `pass::begin::begin_plan` meets its contract: each field by what counts its part. Assumes nothing.
use mathlib.Core.Path.{◌≡◌, ap, ◌∙◌}
use mathlib.Core.Bool.{Bool, not}
use native.Mathlib.Omega.{arith}
use lib.ListN.{length}
use Rattle.mask.specs.Mask.{digit_of}
use Rattle.records.specs.declared.command.Command.TheVariants.{SetDrawColorBuffers}
use Rattle.pass.specs.Render.{places_of, to_external}
use Rattle.pass.specs.Marks.{Lent}
use Rattle.pass.specs.Plan.{draw_buffers}
use Rattle.pass.proofs.Beginning.{one_not, begin-long}
use Rattle.pass.proofs.begin.begin_plan.Goals as goal

pub overflow_add-result-4 : goal.overflow_add-result-4
overflow_add-result-4 c = omega (arith, c.clear_count-clears.ensures.0, c.one_if-buffers.ensures.1, c.attachment_count-attachments.ensures.0, c.opening_count-opening.ensures.1)

pub overflow_add-result-5 : goal.overflow_add-result-5
overflow_add-result-5 c = omega (arith, c.clear_count-clears.ensures.0, c.one_if-buffers.ensures.1, c.attachment_count-attachments.ensures.0, c.opening_count-opening.ensures.1)

pub returns : goal.returns
returns c =
    let a = c.args in
    let d = a.d in
    let set : Lent = record { run = a.set.now; count = a.set_count } in
    let v = c.filled_mask-filled.ensures in
    let w = c.cleared_mask-cleared.ensures in
    let q = c.begin_query-query.ensures.0 in
    let f = c.default_first-is_default.ensures in
    let o = c.opening_count-opening.ensures.0 in
    let n = c.attachment_count-attachments.ensures.1 a.caps f v in
    let l = c.clear_count-clears.ensures.1 w in
    let x : c.one_if-buffers.result ≡ length (draw_buffers d) =
    c.one_if-buffers.ensures.0 ∙ ap (λ (b : Bool). digit_of (not b)) c.to_external.ensures ∙ one_not (to_external (places_of d)) (SetDrawColorBuffers d.color_attachment_count) in (
      rw (o, n, x, l, q, f, v, w),
      λ bytes at. rw (o, n, x, l, q) (begin-long a.caps d a.label set bytes at),
    )
