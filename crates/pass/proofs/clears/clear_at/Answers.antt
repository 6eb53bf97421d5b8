-- `pass::clears::clear_at` meets its contract: the colours, then depth and stencil. Assumes nothing.
use Prim.Native.Nat.{◌-◌}
use mathlib.Core.Path.{◌≡◌, sym, ap, ◌∙◌}
use native.Mathlib.Omega.{arith}
use lib.Count.{ones}
use lib.ListN.{length}
use Rattle.slots.proofs.Parts.{stands-left, stands-right}
use Rattle.pass.specs.Render.{places_of, clear_colors, clear_depth}
use Rattle.pass.specs.Places.{no_command}
use Rattle.pass.proofs.Long.{places-few}
use Rattle.pass.proofs.Gathered.{only}
use Rattle.pass.proofs.Counts.{clear-count, few-clear}
use Rattle.pass.proofs.clears.clear_at.Goals as goal

pub returns-then-k-count : goal.returns-then-k-count
returns-then-k-count c =
    λ o.
    let a = c.args in
    let xs = clear_colors 0 (places_of a.d) in
    let n : c.count.result ≡ length xs = c.count.ensures ∙ ap ones o ∙ sym (clear-count a.d (places-few a.d _ c.well_formed.0)) in
    stands-left c.clear_color_at.result a.k xs (clear_depth a.d.depth_stencil_attachment) (omega (arith, n)) (c.clear_color_at.ensures o)

pub returns-else-k-count : goal.returns-else-k-count
returns-else-k-count c =
    λ o.
    let a = c.args in
    let t = a.d.depth_stencil_attachment in
    let xs = clear_colors 0 (places_of a.d) in
    let n : c.count.result ≡ length xs = c.count.ensures ∙ ap ones o ∙ sym (clear-count a.d (places-few a.d _ c.well_formed.0)) in
    stands-right c.clear_depth.result a.k xs (clear_depth t) (omega (arith, n)) (rw c.clear_depth.ensures (only (clear_depth t) no_command (a.k - length xs) (few-clear t)))
