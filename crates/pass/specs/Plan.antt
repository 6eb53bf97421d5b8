-- The parts of what the beginning of a render pass records, and the plan that counts them. Definitions only.
use Rattle.std.specs.Prelude.{ℕ, ◌+◌, Bool, cond, List, [], ◌∷◌, ◌++◌, length, Option, None, Some}
use Rattle.mask.specs.Mask.{digit_of}
use Rattle.mask.specs.By.{mask_by}
use Rattle.records.specs.declared.command.Command.{Command}
use Rattle.records.specs.declared.command.Command.TheVariants.{ResetFramebuffer, SetDrawColorBuffers, SetScissor, SetViewport}
use Rattle.records.specs.declared.pass.TimestampWrites.{TimestampWrites}
use Rattle.records.specs.declared.pass.RenderPassDescriptor.{RenderPassDescriptor}
use Rattle.records.specs.declared.pipeline.PrivateCapabilities.{PrivateCapabilities}
use Rattle.pass.specs.Marks.{Lent, query_at, timestamp}
use Rattle.pass.specs.Render.{places_of, default_first, to_external, attachments, clear_colors, clear_depth, extent_rect, full_depth}
use Rattle.pass.specs.Places.{place_at, is_filled, is_cleared}
use Rattle.pass.specs.declared.begin.BeginPlan.{BeginPlan}

-- the query that the beginning of the pass writes
abbrev pub begin_query_meaning : Lent → Option TimestampWrites → Option ℕ
begin_query_meaning set None = None
begin_query_meaning set (Some t) = query_at set t.beginning_of_pass_write_index

abbrev pub filled_mask : RenderPassDescriptor → ℕ
filled_mask d = mask_by 8 (λ i. is_filled (place_at d i))

abbrev pub cleared_mask : RenderPassDescriptor → ℕ
cleared_mask d = mask_by 8 (λ i. is_cleared (place_at d i))

-- the clears
abbrev pub all_clears : RenderPassDescriptor → List Command
all_clears d = clear_colors 0 (places_of d) ++ clear_depth d.depth_stencil_attachment

-- the draw buffer count
abbrev pub draw_buffers : RenderPassDescriptor → List Command
draw_buffers d = cond (to_external (places_of d)) [] (SetDrawColorBuffers d.color_attachment_count ∷ [])

-- from the scissor on
abbrev pub settings : RenderPassDescriptor → List Command
settings d = SetScissor (extent_rect d.extent) ∷ SetViewport (extent_rect d.extent) full_depth ∷ (draw_buffers d ++ all_clears d)

-- the attachments, none for the default renderbuffer
abbrev pub attached : PrivateCapabilities → RenderPassDescriptor → List Command
attached caps d = cond (default_first (places_of d)) [] (attachments caps d)

-- from the framebuffer reset on
abbrev pub framing : PrivateCapabilities → RenderPassDescriptor → List Command
framing caps d = ResetFramebuffer (default_first (places_of d)) ∷ (attached caps d ++ settings d)

-- what comes before it
abbrev pub opening_count : RenderPassDescriptor → Bool → Lent → ℕ
opening_count d label set = length (timestamp (begin_query_meaning set d.timestamp_writes)) + digit_of label

abbrev pub begin_plan : PrivateCapabilities → RenderPassDescriptor → Bool → Lent → BeginPlan
begin_plan caps d label set =
    record {
      query = begin_query_meaning set d.timestamp_writes;
      label = label;
      is_default = default_first (places_of d);
      filled = filled_mask d;
      cleared = cleared_mask d;
      opening = opening_count d label set;
      attachments = length (attached caps d);
      buffers = length (draw_buffers d);
      count = opening_count d label set + 1 + length (attached caps d) + 2 + length (draw_buffers d) + length (all_clears d);
    }
