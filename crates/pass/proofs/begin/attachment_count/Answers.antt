-- `pass::begin::attachment_count` meets its contract: the filled places, and depth and stencil. Assumes nothing.
use Prim.Native.Nat.{ℕ, ◌+◌, ◌^◌, ◌<◌}
use mathlib.Core.Path.{sym, ap, ap₂, ◌∙◌}
use native.Mathlib.Omega.{arith}
use lib.Count.{ones, ones-le}
use lib.ListN.{length-append}
use Rattle.mask.specs.Mask.{digit_of}
use Rattle.pass.specs.Render.{places_of, attach_colors, attach_depth}
use Rattle.pass.proofs.Long.{places-few}
use Rattle.pass.proofs.Counts.{attach-count, attach-one}
use Rattle.pass.proofs.begin.attachment_count.Goals as goal

pub overflow_add-result : goal.overflow_add-result
overflow_add-result c =
    let h : c.args.filled < 2 ^ 32 = omega arith in
    omega (arith, c.one_if.ensures.1, c.count.ensures, ones-le 32 c.args.filled h)

pub returns-then-is_default : goal.returns-then-is_default
returns-then-is_default c = (omega arith, λ caps e q. rw (sym e ∙ c.if-is_default.true))

pub returns-else-is_default : goal.returns-else-is_default
returns-else-is_default c =
    let a = c.args in
    let t = a.d.depth_stencil_attachment in
    let ps = places_of a.d in
    let h : a.filled < 2 ^ 32 = omega arith in (
      omega (arith, c.one_if.ensures.1, c.count.ensures, ones-le 32 a.filled h),
      λ caps e q.
          rw (sym e ∙ c.if-is_default.false)
          (ap₂ (λ (x y : ℕ). x + y)
          (c.count.ensures ∙ ap ones q ∙ sym (attach-count a.d (places-few a.d _ c.well_formed.0) caps a.d.sample_count))
          (c.one_if.ensures.0 ∙ ap digit_of c.is_some.ensures ∙ sym (attach-one t))
          ∙ sym (length-append (attach_colors caps a.d.sample_count 0 ps) (attach_depth t))),
    )
