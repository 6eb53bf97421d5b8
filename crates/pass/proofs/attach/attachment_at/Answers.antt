-- `pass::attach::attachment_at` meets its contract: the colours, then depth and stencil. Assumes nothing.
use Prim.Native.Nat.{◌-◌}
use mathlib.Core.Path.{◌≡◌, sym, ap, ◌∙◌}
use native.Mathlib.Omega.{arith}
use lib.Count.{ones}
use lib.ListN.{length}
use Rattle.slots.proofs.Parts.{stands-left, stands-right}
use Rattle.pass.specs.Render.{places_of, attach_colors, attach_depth}
use Rattle.pass.specs.Places.{no_command}
use Rattle.pass.proofs.Long.{places-few}
use Rattle.pass.proofs.Gathered.{only}
use Rattle.pass.proofs.Counts.{attach-count, few-attach}
use Rattle.pass.proofs.attach.attachment_at.Goals as goal

pub returns-then-k-count : goal.returns-then-k-count
returns-then-k-count c =
    λ e.
    let a = c.args in
    let xs = attach_colors a.caps a.d.sample_count 0 (places_of a.d) in
    let n : c.count.result ≡ length xs = c.count.ensures ∙ ap ones e ∙ sym (attach-count a.d (places-few a.d _ c.well_formed.1.0) a.caps a.d.sample_count) in
    stands-left c.attach_color_at.result a.k xs (attach_depth a.d.depth_stencil_attachment) (omega (arith, n)) (c.attach_color_at.ensures e)

pub returns-else-k-count : goal.returns-else-k-count
returns-else-k-count c =
    λ e.
    let a = c.args in
    let t = a.d.depth_stencil_attachment in
    let xs = attach_colors a.caps a.d.sample_count 0 (places_of a.d) in
    let n : c.count.result ≡ length xs = c.count.ensures ∙ ap ones e ∙ sym (attach-count a.d (places-few a.d _ c.well_formed.1.0) a.caps a.d.sample_count) in
    stands-right c.attach_depth.result a.k xs (attach_depth t) (omega (arith, n)) (rw c.attach_depth.ensures (only (attach_depth t) no_command (a.k - length xs) (few-attach t)))
