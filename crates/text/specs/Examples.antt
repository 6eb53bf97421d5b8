-- Lines of tools/oracle/data/sessions.out, each computed from its command. Assumes nothing.
use Rattle.std.specs.Prelude.{ℕ, ◌≡◌, refl, Bool, false, pos, negsuc, Float, None, Some}
use Prim.Native.String.{String}
use Rattle.std.specs.Float.{nan, binary32}
use Rattle.std.specs.Float.Ieee.{to_bits, of_bits}
use Rattle.numbers.specs.Convert.{bits32}
use Rattle.records.specs.declared.command.VertexStepMode.TheVariants.{Vertex, Instance}
use Rattle.records.specs.declared.command.VertexAttribKind.TheVariants.{Integer}
use Rattle.records.specs.declared.command.TextureView.{TextureView}
use Rattle.records.specs.declared.command.TextureInner.{TextureInner}
use Rattle.records.specs.declared.command.SampleKind.{SampleKind}
use Rattle.records.specs.declared.command.SampleKind.TheVariants.{Float as sample_float, Depth}
use Rattle.records.specs.declared.command.TextureInner.TheVariants.{Renderbuffer, Texture}
use Rattle.records.specs.declared.command.Command.{Command}
use Rattle.records.specs.declared.command.Command.TheVariants.{DrawIndexed, ClearBuffer, CopyBufferToBuffer, CopyQueryResults, BindAttachment, ResolveAttachment, ClearColorF, ClearColorI, SetViewport, SetDepthBias, SetVertexAttribute, SetVertexBuffer, SetColorTarget, BindImage, SetImmediates}
use Rattle.names.specs.Ascii.{ascii}
use Rattle.text.specs.Digits.{decimal_in, hex_in}
use Rattle.text.specs.Field.{spaced}
use Rattle.text.specs.Command.{line_of}

-- the command with this number has this line
abbrev Prints : ℕ → Command → String → Type 0
Prints n c line = line_of n c ≡ ascii line

-- the float with these bits
abbrev float : ℕ → Float
float b = of_bits binary32 b

abbrev view : TextureInner → ℕ → ℕ → ℕ → ℕ → ℕ → SampleKind → Bool → TextureView
view inner aspects mip mip-end layer layer-end kind srgb =
    record {
      inner = inner;
      aspects = aspects;
      mip_levels = record { start = mip; end = mip-end };
      array_layers = record { start = layer; end = layer-end };
      kind = kind;
      is_srgb = srgb;
    }

draw_indexed :
    Prints 15 (DrawIndexed 4 5125 3 18446744073709551612 (negsuc 2147483647) 0 1 None)
    "15 DrawIndexed 4 5125 3 18446744073709551612 -2147483648 0 1 -\n"
unfolding decimal_in hex_in spaced
draw_indexed = refl

clear_buffer :
    Prints 1 (ClearBuffer 0 34963 (record { start = 4; end = 0 }))
    "1 ClearBuffer - 34963 4 0\n"
unfolding decimal_in hex_in spaced
clear_buffer = refl

copy-buffer :
    Prints 0 (CopyBufferToBuffer 0 34962 4 35345 (record { src_offset = 4294967280; dst_offset = 4; size = 82 }))
    "0 CopyBufferToBuffer - 34962 4 35345 4294967280 4 82\n"
unfolding decimal_in hex_in spaced
copy-buffer = refl

copy_query_results :
    Prints 1 (CopyQueryResults (record { start = 400; end = 800 }) 7 34962 18446744073709551615)
    "1 CopyQueryResults 400 800 7 34962 18446744073709551615\n"
unfolding decimal_in hex_in spaced
copy_query_results = refl

bind-attachment :
    Prints 1 (BindAttachment 33306 (view (Texture 11 3553) 0 0 1 0 1 Depth false) None 1)
    "1 BindAttachment 33306 2 11 3553 0 0 1 0 1 3 0 - 1\n"
unfolding decimal_in hex_in spaced
bind-attachment = refl

resolve-attachment :
    Prints 101 (ResolveAttachment 36067 (view (Renderbuffer 5) 1 0 1 0 1 sample_float false) (record { width = 3; height = 198; depth_or_array_layers = 1 }))
    "101 ResolveAttachment 36067 0 5 - 1 0 1 0 1 0 0 3 198 1\n"
unfolding decimal_in hex_in spaced
resolve-attachment = refl

clear-color-f :
    Prints 6 (ClearColorF 0 (record { r = nan; g = float 0x3f000000; b = float 0xbfc00000; a = float 0x3f800000; is_srgb = false }))
    "6 ClearColorF 0 7fc00000 3f000000 bfc00000 3f800000 0\n"
unfolding decimal_in hex_in spaced bits32 of_bits to_bits
clear-color-f = refl

clear-color-i :
    Prints 7 (ClearColorI 1 (record { r = negsuc 1; g = pos 2147483647; b = pos 0; a = negsuc 2147483647 }))
    "7 ClearColorI 1 -2 2147483647 0 -2147483648\n"
unfolding decimal_in hex_in spaced
clear-color-i = refl

set_viewport :
    Prints 20 (SetViewport (record { x = pos 1; y = pos 3; w = pos 0; h = pos 2147483647 }) (record { start = float 0; end = nan }))
    "20 SetViewport 1 3 0 2147483647 00000000 7fc00000\n"
unfolding decimal_in hex_in spaced bits32 of_bits to_bits
set_viewport = refl

set-depth-bias :
    Prints 124 (SetDepthBias (record { constant = negsuc 6; slope_scale = 0x7f800000; clamp = 0x7fc00000 }))
    "124 SetDepthBias -7 7f800000 7fc00000\n"
unfolding decimal_in hex_in spaced
set-depth-bias = refl

set-vertex-attribute :
    Prints 101 (SetVertexAttribute None (record { step = Vertex; stride = 8 })
    (record {
      location = 12;
      offset = 4294967200;
      buffer_index = 0;
      format_desc = record { element_count = pos 4; element_format = 5131; attrib_kind = Integer };
    }))
    "101 SetVertexAttribute - 0 8 12 4294967200 0 4 5131 1\n"
unfolding decimal_in hex_in spaced
set-vertex-attribute = refl

set_vertex_buffer :
    Prints 10 (SetVertexBuffer 0 (record { raw = 7; offset = 16 }) (record { step = Instance; stride = 8 }))
    "10 SetVertexBuffer 0 7 16 1 8\n"
unfolding decimal_in hex_in spaced
set_vertex_buffer = refl

set-color-target :
    Prints 119 (SetColorTarget (Some 2) (record { mask = 7; blend = None }))
    "119 SetColorTarget 2 7 -\n"
unfolding decimal_in hex_in spaced
set-color-target = refl

set-color-target-blend :
    Prints 9
    (SetColorTarget None
    (record {
      mask = 15;
      blend = Some (record { alpha = record { src = 1; dst = 2; equation = 3 }; color = record { src = 4; dst = 5; equation = 6 } });
    }))
    "9 SetColorTarget - 15 1 2 3 4 5 6\n"
unfolding decimal_in hex_in spaced
set-color-target-blend = refl

bind-image :
    Prints 1 (BindImage 3 (record { raw = 6; mip_level = 1; array_layer = Some 0; access = 35000; format = 32856 }))
    "1 BindImage 3 6 1 0 35000 32856\n"
unfolding decimal_in hex_in spaced
bind-image = refl

set_immediates :
    Prints 10 (SetImmediates (record { location = 3; ty = 1; offset = 0; size_bytes = 256 }) 2048)
    "10 SetImmediates 3 1 0 256 2048\n"
unfolding decimal_in hex_in spaced
set_immediates = refl
