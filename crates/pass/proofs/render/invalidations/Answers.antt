-- `pass::render::invalidations` meets its contract: two places after the eight. Assumes nothing.
use Prim.Native.Nat.{ℕ}
use mathlib.Core.Path.{◌≡◌, ap, ◌∙◌}
use native.Mathlib.Omega.{arith}
use Rattle.std.proofs.Common.{rules, tests}
use borrow.Author.Tests.{lt-ltb}
use Rattle.mask.specs.Mask.{set_bit_if}
use Rattle.mask.specs.By.{mask_by, by_next, by_alike}
use Rattle.pass.specs.Render.{invalid_at, invalid_color, invalid_stencil, invalidations}
use Rattle.pass.specs.Places.{place_at}
use Rattle.pass.proofs.render.invalidations.Goals as goal

pub returns : goal.returns
unfolding invalidations
returns c =
    let a = c.args in
    let t = a.d.depth_stencil_attachment in
    let e : mask_by 8 (invalid_at a.caps a.d) ≡ mask_by 8 (λ i. invalid_color a.caps i (place_at a.d i)) =
    by_alike 8 (invalid_at a.caps a.d) (λ i. invalid_color a.caps i (place_at a.d i)) (λ i h. rw (lt-ltb i 8 h)) in
    rw (c.set_if-2.ensures, c.set_if.ensures, c.invalid_stencil-stencil.ensures, c.invalid_depth-depth.ensures, c.mask_where-colors.ensures.made (λ i. invalid_color a.caps i (place_at a.d i)) (λ i b h k. search (rules, tests)), ← e)
    (ap (λ (m : ℕ). set_bit_if (invalid_stencil t) m 9) (by_next 8 (invalid_at a.caps a.d) (omega arith)) ∙ by_next 9 (invalid_at a.caps a.d) (omega arith))
