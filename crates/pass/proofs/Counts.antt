-- How many attachments and clears a pass has, by the masks of its places. Assumes nothing.
use Prim.Native.Nat.{ℕ, ◌≤◌}
use mathlib.Core.Path.{◌≡◌, refl, ap, ◌∙◌}
use mathlib.Core.Bool.{Bool, true, false, ◌||◌}
use native.Mathlib.Omega.{arith}
use lib.Count.{ones}
use lib.ListN.{length}
use Rattle.mask.specs.Mask.{digit_of}
use Rattle.std.specs.Prelude.{Option, None, Some}
use Rattle.records.specs.declared.pass.DepthStencilAttachment.{DepthStencilAttachment}
use Rattle.records.specs.declared.pass.RenderPassDescriptor.{RenderPassDescriptor}
use Rattle.records.specs.declared.pipeline.PrivateCapabilities.{PrivateCapabilities}
use Rattle.pass.specs.Render.{places_of, no_place, clears, attach_colors, attach_depth, clear_colors, clear_both, clear_depth}
use Rattle.pass.specs.Places.{has_depth, clears_depth}
use Rattle.pass.specs.Gather.{gather-count}
use Rattle.pass.specs.Survey.{fills_at, attach_at, attach-gather, clears_at, clear_at, clear-gather}
use Rattle.pass.specs.Plan.{filled_mask, cleared_mask}

pub few-attach : (t : Option DepthStencilAttachment) → length (attach_depth t) ≤ 1
few-attach None = omega arith
few-attach (Some d) = omega arith

pub few-clear : (t : Option DepthStencilAttachment) → length (clear_depth t) ≤ 1
few-clear None = omega arith
few-clear (Some d) = go (clears d.depth_ops) (clears d.stencil_ops)
  where
    go : (a b : Bool) → length (clear_both a b d) ≤ 1
    go true true = omega arith
    go true false = omega arith
    go false true = omega arith
    go false false = omega arith

pub attach-one : (t : Option DepthStencilAttachment) → length (attach_depth t) ≡ digit_of (has_depth t)
attach-one None = refl
attach-one (Some d) = refl

pub clear-one : (t : Option DepthStencilAttachment) → length (clear_depth t) ≡ digit_of (clears_depth t)
clear-one None = refl
clear-one (Some d) = go (clears d.depth_ops) (clears d.stencil_ops)
  where
    go : (a b : Bool) → length (clear_both a b d) ≡ digit_of (a || b)
    go true true = refl
    go true false = refl
    go false true = refl
    go false false = refl

module _ (d : RenderPassDescriptor) where
  module _ (few : length (places_of d) ≤ 8) where
    pub attach-count : (caps : PrivateCapabilities) (samples : ℕ) → length (attach_colors caps samples 0 (places_of d)) ≡ ones (filled_mask d)
    attach-count caps samples =
        ap length (attach-gather caps samples 0 (places_of d)) ∙ gather-count fills_at (attach_at caps samples) no_place (λ i. refl) 8 (places_of d) few (omega arith)

    pub clear-count : length (clear_colors 0 (places_of d)) ≡ ones (cleared_mask d)
    clear-count = ap length (clear-gather 0 (places_of d)) ∙ gather-count clears_at clear_at no_place (λ i. refl) 8 (places_of d) few (omega arith)
