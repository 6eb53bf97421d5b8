-- Beginnings of passes worked out, by computation. Assumes nothing.
use Rattle.std.specs.Prelude.{◌≡◌, refl, true, false, List, [], ◌∷◌, ◌++◌, pos, length, drop, replicate, None, Some}
use Rattle.std.specs.Float.{binary64}
use Rattle.std.specs.Float.Ieee.{of_bits}
use Rattle.mask.specs.Mask.{test_bit}
use Rattle.numbers.specs.Convert.{clamp_to}
use Rattle.records.specs.Start.{start_range}
use Rattle.records.specs.Check.{some?}
use Rattle.records.specs.declared.command.Command.{Command}
use Rattle.records.specs.declared.command.Command.TheVariants.{ResetFramebuffer, BindAttachment, SetDrawColorBuffers, ClearColorU, SetScissor, SetViewport}
use Rattle.records.specs.declared.command.RectI32.{RectI32}
use Rattle.records.specs.declared.command.SampleKind.TheVariants as kind
use Rattle.records.specs.declared.command.TextureInner.{TextureInner}
use Rattle.records.specs.declared.command.TextureInner.TheVariants.{DefaultRenderbuffer, Texture}
use Rattle.records.specs.declared.command.TextureView.{TextureView}
use Rattle.records.specs.declared.pass.ColorPlace.{ColorPlace}
use Rattle.records.specs.declared.pass.RenderPassDescriptor.{RenderPassDescriptor}
use Rattle.records.specs.declared.pipeline.PrivateCapabilities.{PrivateCapabilities}
use Rattle.pass.specs.Marks.{Lent}
use Rattle.pass.specs.Render.{no_place, full_depth, default_first, attach_colors, clear_colors, begin_render_commands}

abbrev plain : PrivateCapabilities
plain =
    record {
      memory_barriers = false;
      vertex_buffer_layout = false;
      fully_featured_instancing = false;
      multisampled_render_to_texture = false;
    }

abbrev none : Lent
none = record { run = []; count = 0 }

-- a pass of 4 by 3 with these colour places, no label and no timestamps
abbrev pass_of : List ColorPlace → RenderPassDescriptor
pass_of places =
    record {
      extent = record { width = 4; height = 3; depth_or_array_layers = 1 };
      sample_count = 1;
      color_attachments = places ++ drop (length places) (replicate 8 no_place);
      color_attachment_count = length places;
      depth_stencil_attachment = None;
      timestamp_writes = None;
    }

abbrev begins : List ColorPlace → List Command
begins places = begin_render_commands plain (pass_of places) (record { present = false; bytes = none }) none 0

abbrev extent : RectI32
extent = record { x = pos 0; y = pos 0; w = pos 4; h = pos 3 }

abbrev viewed : TextureInner → TextureView
viewed inner = record { inner = inner; aspects = 1; mip_levels = start_range; array_layers = start_range; kind = kind.Uint; is_srgb = false }

-- a place that is cleared to zeros and stored
abbrev cleared : TextureInner → ColorPlace
cleared inner =
    record {
      attachment =
          Some
          (record {
            view = viewed inner;
            depth_slice = None;
            resolve_target = None;
            ops = 10;
            clear_value = record { r = of_bits binary64 0; g = of_bits binary64 0; b = of_bits binary64 0; a = of_bits binary64 0 };
          });
    }

-- scissor and viewport are the pass's
screen-reset : begins [] ≡ ResetFramebuffer false ∷ SetScissor extent ∷ SetViewport extent full_depth ∷ SetDrawColorBuffers 0 ∷ []
unfolding begin_render_commands attach_colors clear_colors some?
screen-reset = refl

-- place 1 is attached and cleared as such, empty places counted
clear-places : begins (no_place ∷ cleared (Texture 7 3553) ∷ [])
    ≡ ResetFramebuffer false
    ∷ BindAttachment 36065 (viewed (Texture 7 3553)) None 1
    ∷ SetScissor extent
    ∷ SetViewport extent full_depth
    ∷ SetDrawColorBuffers 2
    ∷ ClearColorU 1 (record { r = 0; g = 0; b = 0; a = 0 })
    ∷ []
unfolding begin_render_commands attach_colors clear_colors test_bit some? clamp_to of_bits
clear-places = refl

-- a default renderbuffer at another place does not make the framebuffer the default one
default-later : default_first (no_place ∷ cleared DefaultRenderbuffer ∷ []) ≡ false
default-later = refl

-- the framebuffer is the default one by place 0
default-first : begins (cleared DefaultRenderbuffer ∷ [])
    ≡ ResetFramebuffer true
    ∷ SetScissor extent
    ∷ SetViewport extent full_depth
    ∷ SetDrawColorBuffers 1
    ∷ ClearColorU 0 (record { r = 0; g = 0; b = 0; a = 0 })
    ∷ []
unfolding begin_render_commands attach_colors clear_colors test_bit some? clamp_to of_bits
default-first = refl
