-- `pass::begin::clear_count` meets its contract: the cleared places, and depth and stencil. Assumes nothing.
use Prim.Native.Nat.{ℕ, ◌+◌, ◌^◌, ◌<◌}
use mathlib.Core.Path.{sym, ap, ap₂, ◌∙◌}
use native.Mathlib.Omega.{arith}
use lib.Count.{ones, ones-le}
use lib.ListN.{length-append}
use Rattle.mask.specs.Mask.{digit_of}
use Rattle.pass.specs.Render.{places_of, clear_colors, clear_depth}
use Rattle.pass.proofs.Long.{places-few}
use Rattle.pass.proofs.Counts.{clear-count, clear-one}
use Rattle.pass.proofs.begin.clear_count.Goals as goal

pub overflow_add-result : goal.overflow_add-result
overflow_add-result c =
    let h : c.args.cleared < 2 ^ 32 = omega arith in
    omega (arith, c.one_if.ensures.1, c.count.ensures, ones-le 32 c.args.cleared h)

pub returns : goal.returns
returns c =
    let a = c.args in
    let t = a.d.depth_stencil_attachment in
    let h : a.cleared < 2 ^ 32 = omega arith in (
      omega (arith, c.one_if.ensures.1, c.count.ensures, ones-le 32 a.cleared h),
      λ q.
          ap₂ (λ (x y : ℕ). x + y)
          (c.count.ensures ∙ ap ones q ∙ sym (clear-count a.d (places-few a.d _ c.well_formed.0)))
          (c.one_if.ensures.0 ∙ ap digit_of c.clears_depth-depth.ensures ∙ sym (clear-one t))
          ∙ sym (length-append (clear_colors 0 (places_of a.d)) (clear_depth t)),
    )
