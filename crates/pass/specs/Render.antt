-- `begin_render_pass` and `end_render_pass`: document 01, "The pass record". Definitions only.
use Rattle.std.specs.Prelude.{ℕ, suc, ◌+◌, Bool, true, false, cond, not, ◌&&◌, ◌||◌, List, [], ◌∷◌, ◌++◌, map, pos, nat_abs, ltb, eqb, get_or, take, drop, length, Option, None, Some, unwrap_or}
use Rattle.std.specs.Float.{binary32}
use Rattle.std.specs.Float.Ieee.{of_bits}
use Rattle.mask.specs.Mask.{test_bit}
use Rattle.mask.specs.By.{mask_by}
use Rattle.numbers.specs.Convert.{signed, unsigned, twos, trunc_to, convert_to}
use Rattle.names.specs.Gl.{GL_COLOR_ATTACHMENT0, GL_DEPTH_ATTACHMENT, GL_STENCIL_ATTACHMENT, GL_DEPTH_STENCIL_ATTACHMENT}
use Rattle.records.specs.Check.{some?}
use Rattle.records.specs.declared.command.Command.{Command}
use Rattle.records.specs.declared.command.Command.TheVariants.{ResetFramebuffer, BindAttachment, ResolveAttachment, InvalidateAttachments, SetDrawColorBuffers, ClearColorF, ClearColorU, ClearColorI, ClearDepth, ClearStencil, ClearDepthAndStencil, SetScissor, SetViewport}
use Rattle.records.specs.declared.command.Extent3d.{Extent3d}
use Rattle.records.specs.declared.command.RectI32.{RectI32}
use Rattle.records.specs.declared.command.DepthRange.{DepthRange}
use Rattle.records.specs.declared.command.TextureInner.{TextureInner}
use Rattle.records.specs.declared.command.TextureInner.TheVariants.{Renderbuffer, DefaultRenderbuffer, Texture, ExternalNativeFramebuffer}
use Rattle.records.specs.declared.command.SampleKind.{SampleKind}
use Rattle.records.specs.declared.command.SampleKind.TheVariants as kind
use Rattle.records.specs.declared.command.TextureView.{TextureView}
use Rattle.records.specs.declared.pass.ColorAttachment.{ColorAttachment}
use Rattle.records.specs.declared.pass.ColorPlace.{ColorPlace}
use Rattle.records.specs.declared.pass.DepthStencilAttachment.{DepthStencilAttachment}
use Rattle.records.specs.declared.pass.RenderPassDescriptor.{RenderPassDescriptor}
use Rattle.records.specs.declared.pipeline.PrivateCapabilities.{PrivateCapabilities}
use Rattle.records.specs.declared.state.ResolveDesc.{ResolveDesc}
use Rattle.records.specs.declared.state.PassState.{PassState}
use Rattle.pass.specs.Marks.{Lent, Label, begin_timestamp, end_timestamp, push_label, pop_label, timestamp}

-- ---- the attachment operations, `AttachmentOps`: load 1, clear 2, don't care 4, store 8, discard 16
abbrev pub clears : ℕ → Bool
clears ops = test_bit ops 1

abbrev pub stores : ℕ → Bool
stores ops = test_bit ops 3

abbrev pub discards : ℕ → Bool
discards ops = test_bit ops 4

-- ---- the colour places
abbrev pub places_of : RenderPassDescriptor → List ColorPlace
places_of d = take d.color_attachment_count d.color_attachments

abbrev pub is_default : TextureInner → Bool
is_default (Renderbuffer raw) = false
is_default DefaultRenderbuffer = true
is_default (Texture raw t) = false
is_default (ExternalNativeFramebuffer raw) = false

abbrev pub is_external : TextureInner → Bool
is_external (Renderbuffer raw) = false
is_external DefaultRenderbuffer = false
is_external (Texture raw t) = false
is_external (ExternalNativeFramebuffer raw) = true

abbrev pub is_texture : TextureInner → Bool
is_texture (Renderbuffer raw) = false
is_texture DefaultRenderbuffer = false
is_texture (Texture raw t) = true
is_texture (ExternalNativeFramebuffer raw) = false

abbrev pub filled_with : (TextureInner → Bool) → Option ColorAttachment → Bool
filled_with f None = false
filled_with f (Some a) = f a.view.inner

-- "If place 0 is the default renderbuffer"
abbrev pub default_first : List ColorPlace → Bool
default_first [] = false
default_first (p ∷ ps) = filled_with is_default p.attachment

-- "An external framebuffer": some colour place's own view
abbrev pub to_external : List ColorPlace → Bool
to_external ps = some? (λ (p : ColorPlace). filled_with is_external p.attachment) ps

-- ---- multisampled render to texture: the resolve view is attached in place of the view, at place 0
abbrev pub resolves_in_place : PrivateCapabilities → ℕ → ℕ → Option TextureView → Bool
resolves_in_place caps i ops None = false
resolves_in_place caps i ops (Some v) = is_texture v.inner && (caps.multisampled_render_to_texture && (not (stores ops) && eqb i 0))

abbrev pub view_or : TextureView → Option TextureView → TextureView
view_or v o = unwrap_or o v

-- the attachment of place i
abbrev pub attach_color : PrivateCapabilities → ℕ → ℕ → ColorAttachment → Command
attach_color caps samples i a =
    cond (resolves_in_place caps i a.ops a.resolve_target)
    (BindAttachment (GL_COLOR_ATTACHMENT0 + i) (view_or a.view a.resolve_target) None samples)
    (BindAttachment (GL_COLOR_ATTACHMENT0 + i) a.view a.depth_slice 1)

abbrev pub attach_place : PrivateCapabilities → ℕ → ℕ → Option ColorAttachment → List Command
attach_place caps samples i None = []
attach_place caps samples i (Some a) = attach_color caps samples i a ∷ []

unfoldable pub attach_colors : PrivateCapabilities → ℕ → ℕ → List ColorPlace → List Command
attach_colors caps samples i [] = []
attach_colors caps samples i (p ∷ ps) = attach_place caps samples i p.attachment ++ attach_colors caps samples (suc i) ps

-- the resolves of the end: places with a resolve view that was not attached in place
abbrev pub resolve_of : Bool → ℕ → Option TextureView → List ResolveDesc
resolve_of inPlace i None = []
resolve_of inPlace i (Some v) = cond inPlace [] (record { place = i; dst = v } ∷ [])

abbrev pub resolve_place : PrivateCapabilities → ℕ → Option ColorAttachment → List ResolveDesc
resolve_place caps i None = []
resolve_place caps i (Some a) = resolve_of (resolves_in_place caps i a.ops a.resolve_target) i a.resolve_target

unfoldable pub resolves_from : PrivateCapabilities → ℕ → List ColorPlace → List ResolveDesc
resolves_from caps i [] = []
resolves_from caps i (p ∷ ps) = resolve_place caps i p.attachment ++ resolves_from caps (suc i) ps

-- ---- invalidation: "a set of ten bits: colours 0 to 7, then depth, then stencil"
abbrev pub invalid_color : PrivateCapabilities → ℕ → Option ColorAttachment → Bool
invalid_color caps i None = false
invalid_color caps i (Some a) = not (resolves_in_place caps i a.ops a.resolve_target) && discards a.ops

abbrev pub no_place : ColorPlace
no_place = record { attachment = None }

abbrev pub invalid_depth : Option DepthStencilAttachment → Bool
invalid_depth None = false
invalid_depth (Some d) = test_bit d.view.aspects 1 && discards d.depth_ops

abbrev pub invalid_stencil : Option DepthStencilAttachment → Bool
invalid_stencil None = false
invalid_stencil (Some d) = test_bit d.view.aspects 2 && discards d.stencil_ops

abbrev pub invalid_at : PrivateCapabilities → RenderPassDescriptor → ℕ → Bool
invalid_at caps d i =
    cond (ltb i 8) (invalid_color caps i (get_or (places_of d) i no_place).attachment)
    (cond (eqb i 8) (invalid_depth d.depth_stencil_attachment) (invalid_stencil d.depth_stencil_attachment))

unfoldable pub invalidations : PrivateCapabilities → RenderPassDescriptor → ℕ
invalidations caps d = mask_by 10 (invalid_at caps d)

-- ---- depth and stencil: the attachment point by the view's aspects (colour 1, depth 2, stencil 4)
abbrev pub depth_point : ℕ → ℕ
depth_point aspects = cond (eqb aspects 2) GL_DEPTH_ATTACHMENT (cond (eqb aspects 4) GL_STENCIL_ATTACHMENT GL_DEPTH_STENCIL_ATTACHMENT)

abbrev pub attach_depth : Option DepthStencilAttachment → List Command
attach_depth None = []
attach_depth (Some d) = BindAttachment (depth_point d.view.aspects) d.view None 1 ∷ []

abbrev pub attachments : PrivateCapabilities → RenderPassDescriptor → List Command
attachments caps d = attach_colors caps d.sample_count 0 (places_of d) ++ attach_depth d.depth_stencil_attachment

-- ---- the clears
-- a colour by its view's kind; a depth kind is refused
abbrev pub clear_color : ℕ → ColorAttachment → SampleKind → List Command
clear_color n a kind.Float =
    ClearColorF n
    (record {
      r = convert_to binary32 a.clear_value.r;
      g = convert_to binary32 a.clear_value.g;
      b = convert_to binary32 a.clear_value.b;
      a = convert_to binary32 a.clear_value.a;
      is_srgb = a.view.is_srgb;
    })
    ∷ []
clear_color n a kind.Uint =
    ClearColorU n
    (record {
      r = nat_abs (trunc_to unsigned 32 a.clear_value.r);
      g = nat_abs (trunc_to unsigned 32 a.clear_value.g);
      b = nat_abs (trunc_to unsigned 32 a.clear_value.b);
      a = nat_abs (trunc_to unsigned 32 a.clear_value.a);
    })
    ∷ []
clear_color n a kind.Sint =
    ClearColorI n
    (record {
      r = trunc_to signed 32 a.clear_value.r;
      g = trunc_to signed 32 a.clear_value.g;
      b = trunc_to signed 32 a.clear_value.b;
      a = trunc_to signed 32 a.clear_value.a;
    })
    ∷ []
clear_color n a kind.Depth = []

abbrev pub clear_place : ℕ → Option ColorAttachment → List Command
clear_place n None = []
clear_place n (Some a) = cond (clears a.ops) (clear_color n a a.view.kind) []

-- document 02, request 1: "a clear's draw buffer is the number of its place, empty places counted"; place i is the first of the list
unfoldable pub clear_colors : ℕ → List ColorPlace → List Command
clear_colors i [] = []
clear_colors i (p ∷ ps) = clear_place i p.attachment ++ clear_colors (suc i) ps

abbrev pub clear_both : Bool → Bool → DepthStencilAttachment → List Command
clear_both true true d = ClearDepthAndStencil d.clear_depth d.clear_stencil ∷ []
clear_both true false d = ClearDepth d.clear_depth ∷ []
clear_both false true d = ClearStencil d.clear_stencil ∷ []
clear_both false false d = []

abbrev pub clear_depth : Option DepthStencilAttachment → List Command
clear_depth None = []
clear_depth (Some d) = clear_both (clears d.depth_ops) (clears d.stencil_ops) d

-- ---- the whole beginning
-- the pass's extent as a rectangle: "keeps its 32 bits"
abbrev pub extent_rect : Extent3d → RectI32
extent_rect e = record { x = pos 0; y = pos 0; w = twos 32 e.width; h = twos 32 e.height }

-- depth 0 to 1
abbrev pub full_depth : DepthRange
full_depth = record { start = of_bits binary32 0; end = of_bits binary32 0x3f80_0000 }

-- "Order recorded: beginning timestamp, label, framebuffer reset, attachments, scissor, viewport, draw buffer count, clears", where these are the colours' clears
abbrev pub begin_with : List Command → PrivateCapabilities → RenderPassDescriptor → Label → Lent → ℕ → List Command
begin_with colours caps d label set at =
    begin_timestamp set d.timestamp_writes
    ++ (push_label label at
    ++ (ResetFramebuffer (default_first (places_of d))
    ∷ (cond (default_first (places_of d)) [] (attachments caps d)
    ++ (SetScissor (extent_rect d.extent)
    ∷ SetViewport (extent_rect d.extent) full_depth
    ∷ (cond (to_external (places_of d)) [] (SetDrawColorBuffers d.color_attachment_count ∷ [])
    ++ (colours ++ clear_depth d.depth_stencil_attachment))))))

unfoldable pub begin_render_commands : PrivateCapabilities → RenderPassDescriptor → Label → Lent → ℕ → List Command
begin_render_commands caps d label set at = begin_with (clear_colors 0 (places_of d)) caps d label set at

-- what the end of the pass will resolve and invalidate: nothing for the default renderbuffer
abbrev pub resolves_at_end : PrivateCapabilities → RenderPassDescriptor → List ResolveDesc
resolves_at_end caps d = cond (default_first (places_of d)) [] (resolves_from caps 0 (places_of d))

abbrev pub begin_render_pass_state : PrivateCapabilities → RenderPassDescriptor → Label → Lent → PassState → PassState
begin_render_pass_state caps d label set s =
    record {
      render_size = d.extent;
      resolves = resolves_at_end caps d ++ drop (length (resolves_at_end caps d)) s.resolves;
      resolve_count = length (resolves_at_end caps d);
      invalidate_attachments = cond (default_first (places_of d)) 0 (invalidations caps d);
      has_pass_label = label.present || s.has_pass_label;
      end_of_pass_timestamp = end_timestamp set d.timestamp_writes s.end_of_pass_timestamp;
    }

-- 5: an external framebuffer with other than 1 place; a depth kind cleared as colour
abbrev pub is_depth : SampleKind → Bool
is_depth kind.Float = false
is_depth kind.Uint = false
is_depth kind.Sint = false
is_depth kind.Depth = true

abbrev pub clears_depth_kind : Option ColorAttachment → Bool
clears_depth_kind None = false
clears_depth_kind (Some a) = clears a.ops && is_depth a.view.kind

abbrev pub pass_wrong_kind : RenderPassDescriptor → Bool
pass_wrong_kind d =
    (to_external (places_of d) && not (eqb d.color_attachment_count 1)) || some? (λ (p : ColorPlace). clears_depth_kind p.attachment) (places_of d)

-- ---- the end: resolves, invalidation, label, attributes, timestamp
abbrev pub resolve_command : Extent3d → ResolveDesc → Command
resolve_command size r = ResolveAttachment (GL_COLOR_ATTACHMENT0 + r.place) r.dst size

abbrev pub invalidate_command : ℕ → List Command
invalidate_command m = cond (eqb m 0) [] (InvalidateAttachments m ∷ [])

abbrev pub end_render_commands : PassState → List Command → List Command
end_render_commands s unsets =
    map (resolve_command s.render_size) (take s.resolve_count s.resolves)
    ++ (invalidate_command s.invalidate_attachments
    ++ (pop_label s.has_pass_label
    ++ (unsets
    ++ timestamp s.end_of_pass_timestamp)))

abbrev pub end_render_pass_state : PassState → PassState
end_render_pass_state s =
    record {
      render_size = s.render_size;
      resolves = s.resolves;
      resolve_count = 0;
      invalidate_attachments = 0;
      has_pass_label = false;
      end_of_pass_timestamp = None;
    }

-- ---- the compute pass
abbrev pub begin_compute_pass_state : Label → Option ℕ → PassState → PassState
begin_compute_pass_state label stamp s =
    record {
      render_size = s.render_size;
      resolves = s.resolves;
      resolve_count = s.resolve_count;
      invalidate_attachments = s.invalidate_attachments;
      has_pass_label = label.present || s.has_pass_label;
      end_of_pass_timestamp = stamp;
    }

abbrev pub end_compute_pass_state : PassState → PassState
end_compute_pass_state s =
    record {
      render_size = s.render_size;
      resolves = s.resolves;
      resolve_count = s.resolve_count;
      invalidate_attachments = s.invalidate_attachments;
      has_pass_label = false;
      end_of_pass_timestamp = None;
    }
