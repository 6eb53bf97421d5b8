-- The settings of src/settings.rt, and the machine that has them. Definitions only.
use Rattle.std.specs.Prelude.{ℕ, ◌+◌, cond, ltb, replicate, get_or, set, Option, None, Some}
use Rattle.boards.specs.declared.settings.VertexBuffer.{VertexBuffer}
use Rattle.std.specs.Float.{binary32}
use Rattle.std.specs.Float.Ieee.{of_bits}
use Rattle.records.specs.declared.command.Command.{Command}
use Rattle.records.specs.declared.command.Command.TheVariants.{Draw, DrawIndexed, DrawIndirect, DrawIndexedIndirect, Dispatch, DispatchIndirect, ClearBuffer, CopyBufferToBuffer}
use Rattle.records.specs.declared.command.Command.TheVariants.{SetIndexBuffer, BeginQuery, EndQuery, TimestampQuery, CopyQueryResults, ResetFramebuffer, BindAttachment}
use Rattle.records.specs.declared.command.Command.TheVariants.{ResolveAttachment, InvalidateAttachments, SetDrawColorBuffers, ClearColorF, ClearColorU, ClearColorI, ClearDepth}
use Rattle.records.specs.declared.command.Command.TheVariants.{ClearStencil, ClearDepthAndStencil, BufferBarrier, TextureBarrier, SetViewport, SetScissor, SetStencilFunc}
use Rattle.records.specs.declared.command.Command.TheVariants.{SetStencilOps, SetDepth, SetDepthBias, ConfigureDepthStencil, SetAlphaToCoverage, SetVertexAttribute}
use Rattle.records.specs.declared.command.Command.TheVariants.{UnsetVertexAttribute, SetVertexBuffer, SetProgram, SetPrimitive, SetBlendConstant, SetColorTarget, BindBuffer}
use Rattle.records.specs.declared.command.Command.TheVariants.{BindSampler, BindTexture, BindImage, PushDebugGroup, PopDebugGroup, SetImmediates, SetClipDistances}
use Rattle.records.specs.declared.command.ColorF32.{ColorF32}
use Rattle.machine.specs.View.{Source, Fetch}
use Rattle.machine.specs.Machine as gl
use Rattle.machine.specs.Machine.{Vertices, Gl, fresh_gl}
use Rattle.machine.specs.Found.{source_of, fetch_of}
use Rattle.boards.specs.declared.settings.Attribute.{Attribute}
use Rattle.boards.specs.declared.settings.Settings.{Settings}
use Rattle.boards.specs.declared.alike.Source.{Source as Summed}

-- ---- document 01: "On a fresh machine nothing is bound, .. blend constants are zero"
abbrev pub fresh_settings : Settings
fresh_settings =
    record {
      locations = replicate 16 None;
      slots = replicate 16 None;
      program = None;
      blend = record { r = of_bits binary32 0; g = of_bits binary32 0; b = of_bits binary32 0; a = of_bits binary32 0 };
    }

-- ---- a command, on the settings
abbrev pub place_attribute : Settings → ℕ → Option Attribute → Settings
place_attribute s l x = record { locations = cond (ltb l 16) (set s.locations l x) s.locations; slots = s.slots; program = s.program; blend = s.blend }

abbrev pub place_buffer : Settings → ℕ → Option VertexBuffer → Settings
place_buffer s i x = record { locations = s.locations; slots = cond (ltb i 16) (set s.slots i x) s.slots; program = s.program; blend = s.blend }

abbrev pub place_program : Settings → ℕ → Settings
place_program s p = record { locations = s.locations; slots = s.slots; program = Some p; blend = s.blend }

abbrev pub place_blend : Settings → ColorF32 → Settings
place_blend s c = record { locations = s.locations; slots = s.slots; program = s.program; blend = c }

abbrev pub placed : Settings → Command → Settings
placed s (Draw t fv vc fi ic l) = s
placed s (DrawIndexed t ty n o bv fi ic l) = s
placed s (DrawIndirect t raw o l) = s
placed s (DrawIndexedIndirect t ty raw o l) = s
placed s (Dispatch x y z) = s
placed s (DispatchIndirect raw o) = s
placed s (ClearBuffer raw t r) = s
placed s (CopyBufferToBuffer a b c d e) = s
placed s (SetIndexBuffer raw) = s
placed s (BeginQuery q t) = s
placed s (EndQuery t) = s
placed s (TimestampQuery q) = s
placed s (CopyQueryResults r d t o) = s
placed s (ResetFramebuffer d) = s
placed s (BindAttachment a v d n) = s
placed s (ResolveAttachment a v n) = s
placed s (InvalidateAttachments n) = s
placed s (SetDrawColorBuffers n) = s
placed s (ClearColorF n c) = s
placed s (ClearColorU n c) = s
placed s (ClearColorI n c) = s
placed s (ClearDepth d) = s
placed s (ClearStencil n) = s
placed s (ClearDepthAndStencil d n) = s
placed s (BufferBarrier b k) = s
placed s (TextureBarrier k) = s
placed s (SetViewport r d) = s
placed s (SetScissor r) = s
placed s (SetStencilFunc face f r k) = s
placed s (SetStencilOps face w o) = s
placed s (SetDepth d) = s
placed s (SetDepthBias d) = s
placed s (ConfigureDepthStencil a) = s
placed s (SetAlphaToCoverage a) = s
placed s (SetVertexAttribute b d a) = place_attribute s a.location (Some (record { buffer = b; buffer_desc = d; attribute_desc = a }))
placed s (UnsetVertexAttribute l) = place_attribute s l None
placed s (SetVertexBuffer i b d) = place_buffer s i (Some (record { buffer = b; buffer_desc = d }))
placed s (SetProgram p) = place_program s p
placed s (SetPrimitive p) = s
placed s (SetBlendConstant c) = place_blend s c
placed s (SetColorTarget i t) = s
placed s (BindBuffer t i b o n) = s
placed s (BindSampler i x) = s
placed s (BindTexture i t ta a mips) = s
placed s (BindImage i x) = s
placed s (PushDebugGroup r) = s
placed s PopDebugGroup = s
placed s (SetImmediates d o) = s
placed s (SetClipDistances old n) = s

-- ---- the machine that has these settings, and no others
abbrev pub attribute_in : Settings → ℕ → Option Attribute
attribute_in s l = get_or s.locations l None

abbrev pub buffer_in : Settings → ℕ → Option VertexBuffer
buffer_in s i = get_or s.slots i None

abbrev pub attribute_of : Option Attribute → Option gl.Attribute
attribute_of None = None
attribute_of (Some a) = Some (record { buffer = a.buffer; desc = a.buffer_desc; attribute = a.attribute_desc })

abbrev pub buffer_of : Option VertexBuffer → Option gl.VertexBuffer
buffer_of None = None
buffer_of (Some b) = Some (record { binding = b.buffer; desc = b.buffer_desc })

abbrev pub program_of : Option ℕ → Option ℕ
program_of None = None
program_of (Some p) = Some p

abbrev pub vertices_of : Settings → Vertices
vertices_of s = record { attribute = λ l. attribute_of (attribute_in s l); buffer = λ i. buffer_of (buffer_in s i) }

abbrev pub gl_of : Settings → Gl
gl_of s =
    record {
      vertices = vertices_of s;
      bindings = fresh_gl.bindings;
      screen = record { viewport = None; scissor = None; blend = s.blend };
      fixed =
          record {
            program = program_of s.program;
            primitive = None;
            bias = fresh_gl.fixed.bias;
            alpha = fresh_gl.fixed.alpha;
            target = fresh_gl.fixed.target;
            clip = fresh_gl.fixed.clip;
            aspects = None;
            depth = None;
          };
      faces = fresh_gl.faces;
    }

-- ---- a source of src/alike.rt: the first byte is a sum
abbrev pub source_is : Option Summed → Option Source
source_is None = None
source_is (Some x) = Some (record { buffer = x.buffer; stride = x.stride; step = x.step; first = x.offset + x.base })

-- the source of an attribute, with the slots of these settings
abbrev pub attribute_source : Settings → Attribute → Option Source
attribute_source s a =
    source_of a.buffer a.buffer_desc a.attribute_desc.offset (buffer_of (buffer_in s a.attribute_desc.buffer_index))

-- its fetch at a location
abbrev pub fetch_in : Settings → ℕ → Attribute → Option Fetch
fetch_in s l a = fetch_of l (λ i. buffer_of (buffer_in s i)) (attribute_of (Some a))
