-- The GL machine: document 01, "The command list": "On a fresh machine nothing is bound ...". "A setting command overwrites the thing it names, other commands nothing". Definitions only.
-- It knows commands and OpenGL ES, and nothing of the recorder.
use Rattle.std.specs.Prelude.{ℕ, Bool, true, false, cond, not, ◌&&◌, ◌||◌, List, [], ◌∷◌, ◌++◌, eqb, ltb, pos, Option, None, Some}
use Rattle.std.specs.Float.{binary32}
use Rattle.std.specs.Float.Ieee.{of_bits}
use Rattle.tables.specs.Tabulate.{upd}
use Rattle.names.specs.declared.gl.PrimitiveState.{PrimitiveState}
use Rattle.records.specs.declared.command.Command.{Command}
use Rattle.records.specs.declared.command.Command.TheVariants.{Draw, DrawIndexed, DrawIndirect, DrawIndexedIndirect, Dispatch, DispatchIndirect, ClearBuffer, CopyBufferToBuffer, SetIndexBuffer, BeginQuery, EndQuery, TimestampQuery, CopyQueryResults, ResetFramebuffer, BindAttachment, ResolveAttachment, InvalidateAttachments, SetDrawColorBuffers, ClearColorF, ClearColorU, ClearColorI, ClearDepth, ClearStencil, ClearDepthAndStencil, BufferBarrier, TextureBarrier, SetViewport, SetScissor, SetStencilFunc, SetStencilOps, SetDepth, SetDepthBias, ConfigureDepthStencil, SetAlphaToCoverage, SetVertexAttribute, UnsetVertexAttribute, SetVertexBuffer, SetProgram, SetPrimitive, SetBlendConstant, SetColorTarget, BindBuffer, BindSampler, BindTexture, BindImage, PushDebugGroup, PopDebugGroup, SetImmediates, SetClipDistances}
use Rattle.records.specs.declared.command.AttributeDesc.{AttributeDesc}
use Rattle.records.specs.declared.command.BufferBinding.{BufferBinding}
use Rattle.records.specs.declared.command.ColorF32.{ColorF32}
use Rattle.records.specs.declared.command.ColorTargetDesc.{ColorTargetDesc}
use Rattle.records.specs.declared.command.DepthBiasState.{DepthBiasState}
use Rattle.records.specs.declared.command.DepthState.{DepthState}
use Rattle.records.specs.declared.command.ImageBinding.{ImageBinding}
use Rattle.records.specs.declared.command.RectI32.{RectI32}
use Rattle.records.specs.declared.command.VertexBufferDesc.{VertexBufferDesc}
use Rattle.machine.specs.View.{Stage, before, first, later, BufferRange, TextureBinding, Viewport, StencilFunc, FaceOps}

-- a `ResetFramebuffer` begins a render pass
abbrev pub onward : Stage → Stage
onward before = first
onward first = later
onward later = later

-- a vertex attribute at its location: its buffer (none where the board has layouts), description and format
pub record Attribute : Type 0 where
  pub buffer : Option ℕ
  pub desc : VertexBufferDesc
  pub attribute : AttributeDesc

-- a vertex buffer at its slot
pub record VertexBuffer : Type 0 where
  pub binding : BufferBinding
  pub desc : VertexBufferDesc

-- vertex data
pub record Vertices : Type 0 where
  pub attribute : ℕ → Option Attribute
  pub buffer : ℕ → Option VertexBuffer

-- bindings
pub record Bindings : Type 0 where
  pub buffers : ℕ → ℕ → Option BufferRange
  pub textures : ℕ → Option TextureBinding
  pub images : ℕ → Option ImageBinding
  pub samplers : ℕ → Option ℕ
  pub index : Option ℕ

-- viewport, scissor and blend constants
pub record Screen : Type 0 where
  pub viewport : Option Viewport
  pub scissor : Option RectI32
  pub blend : ColorF32

-- the program and the settings of a pipeline
pub record Fixed : Type 0 where
  pub program : Option ℕ
  pub primitive : Option PrimitiveState
  pub bias : DepthBiasState
  pub alpha : Bool
  pub target : ℕ → ColorTargetDesc
  pub clip : ℕ → Bool
  pub aspects : Option ℕ
  pub depth : Option DepthState

-- the stencil functions and operations of both faces
pub record Faces : Type 0 where
  pub front : Option StencilFunc
  pub back : Option StencilFunc
  pub front_ops : Option FaceOps
  pub back_ops : Option FaceOps

-- all that a draw can find
pub record Gl : Type 0 where
  pub vertices : Vertices
  pub bindings : Bindings
  pub screen : Screen
  pub fixed : Fixed
  pub faces : Faces

-- a draw as it was carried out: its command, whether it is indexed, and what it found
pub record Shot : Type 0 where
  pub command : Command
  pub indexed : Bool
  pub gl : Gl

-- the machine counts render passes, and notes the draws of the first
pub record Machine : Type 0 where
  pub stage : Stage
  pub gl : Gl
  pub shots : List Shot

-- "nothing is bound, bias and blend constants are zero, colour targets are 15 without blend, alpha to coverage is off, and no clip distance is on"
abbrev pub fresh_gl : Gl
fresh_gl =
    record {
      vertices = record { attribute = λ l. None; buffer = λ i. None };
      bindings = record { buffers = λ t i. None; textures = λ i. None; images = λ i. None; samplers = λ u. None; index = None };
      screen =
          record {
            viewport = None;
            scissor = None;
            blend = record { r = of_bits binary32 0; g = of_bits binary32 0; b = of_bits binary32 0; a = of_bits binary32 0 };
          };
      fixed =
          record {
            program = None;
            primitive = None;
            bias = record { constant = pos 0; slope_scale = 0; clamp = 0 };
            alpha = false;
            target = λ i. record { mask = 15; blend = None };
            clip = λ i. false;
            aspects = None;
            depth = None;
          };
      faces = record { front = None; back = None; front_ops = None; back_ops = None };
    }

abbrev pub fresh : Machine
fresh = record { stage = before; gl = fresh_gl; shots = [] }

-- ---- one group of settings changed
abbrev pub with_vertices : Vertices → Machine → Machine
with_vertices v m = record { stage = m.stage; gl = record { vertices = v; bindings = m.gl.bindings; screen = m.gl.screen; fixed = m.gl.fixed; faces = m.gl.faces }; shots = m.shots }

abbrev pub with_bindings : Bindings → Machine → Machine
with_bindings b m = record { stage = m.stage; gl = record { vertices = m.gl.vertices; bindings = b; screen = m.gl.screen; fixed = m.gl.fixed; faces = m.gl.faces }; shots = m.shots }

abbrev pub with_screen : Screen → Machine → Machine
with_screen s m = record { stage = m.stage; gl = record { vertices = m.gl.vertices; bindings = m.gl.bindings; screen = s; fixed = m.gl.fixed; faces = m.gl.faces }; shots = m.shots }

abbrev pub with_fixed : Fixed → Machine → Machine
with_fixed f m = record { stage = m.stage; gl = record { vertices = m.gl.vertices; bindings = m.gl.bindings; screen = m.gl.screen; fixed = f; faces = m.gl.faces }; shots = m.shots }

abbrev pub with_faces : Faces → Machine → Machine
with_faces f m = record { stage = m.stage; gl = record { vertices = m.gl.vertices; bindings = m.gl.bindings; screen = m.gl.screen; fixed = m.gl.fixed; faces = f }; shots = m.shots }

-- ---- the settings
abbrev pub put_attribute : ℕ → Option Attribute → Vertices → Vertices
put_attribute l a v = record { attribute = upd v.attribute l a; buffer = v.buffer }

abbrev pub put_buffer : ℕ → VertexBuffer → Vertices → Vertices
put_buffer i b v = record { attribute = v.attribute; buffer = upd v.buffer i (Some b) }

abbrev pub put_range : ℕ → ℕ → BufferRange → Bindings → Bindings
put_range t i r b = record { buffers = upd b.buffers t (upd (b.buffers t) i (Some r)); textures = b.textures; images = b.images; samplers = b.samplers; index = b.index }

abbrev pub put_texture : ℕ → TextureBinding → Bindings → Bindings
put_texture i t b = record { buffers = b.buffers; textures = upd b.textures i (Some t); images = b.images; samplers = b.samplers; index = b.index }

abbrev pub put_image : ℕ → ImageBinding → Bindings → Bindings
put_image i x b = record { buffers = b.buffers; textures = b.textures; images = upd b.images i (Some x); samplers = b.samplers; index = b.index }

abbrev pub put_sampler : ℕ → Option ℕ → Bindings → Bindings
put_sampler u s b = record { buffers = b.buffers; textures = b.textures; images = b.images; samplers = upd b.samplers u s; index = b.index }

abbrev pub put_index : ℕ → Bindings → Bindings
put_index raw b = record { buffers = b.buffers; textures = b.textures; images = b.images; samplers = b.samplers; index = Some raw }

abbrev pub put_program : ℕ → Fixed → Fixed
put_program p f = record { program = Some p; primitive = f.primitive; bias = f.bias; alpha = f.alpha; target = f.target; clip = f.clip; aspects = f.aspects; depth = f.depth }

abbrev pub put_primitive : PrimitiveState → Fixed → Fixed
put_primitive p f = record { program = f.program; primitive = Some p; bias = f.bias; alpha = f.alpha; target = f.target; clip = f.clip; aspects = f.aspects; depth = f.depth }

abbrev pub put_bias : DepthBiasState → Fixed → Fixed
put_bias d f = record { program = f.program; primitive = f.primitive; bias = d; alpha = f.alpha; target = f.target; clip = f.clip; aspects = f.aspects; depth = f.depth }

abbrev pub put_alpha : Bool → Fixed → Fixed
put_alpha a f = record { program = f.program; primitive = f.primitive; bias = f.bias; alpha = a; target = f.target; clip = f.clip; aspects = f.aspects; depth = f.depth }

-- one target, or with no number all of them
abbrev pub put_target : Option ℕ → ColorTargetDesc → Fixed → Fixed
put_target None t f = record { program = f.program; primitive = f.primitive; bias = f.bias; alpha = f.alpha; target = λ i. t; clip = f.clip; aspects = f.aspects; depth = f.depth }
put_target (Some i) t f = record { program = f.program; primitive = f.primitive; bias = f.bias; alpha = f.alpha; target = upd f.target i t; clip = f.clip; aspects = f.aspects; depth = f.depth }

-- the clip distances [old, new) are turned on, [new, old) off, and others left
abbrev pub between : ℕ → ℕ → ℕ → Bool
between from to i = not (ltb i from) && ltb i to

abbrev pub switched : ℕ → ℕ → (ℕ → Bool) → ℕ → Bool
switched old new c i = cond (between old new i) true (cond (between new old i) false (c i))

abbrev pub put_clip : ℕ → ℕ → Fixed → Fixed
put_clip old n f = record { program = f.program; primitive = f.primitive; bias = f.bias; alpha = f.alpha; target = f.target; clip = switched old n f.clip; aspects = f.aspects; depth = f.depth }

abbrev pub put_aspects : ℕ → Fixed → Fixed
put_aspects a f = record { program = f.program; primitive = f.primitive; bias = f.bias; alpha = f.alpha; target = f.target; clip = f.clip; aspects = Some a; depth = f.depth }

abbrev pub put_depth : DepthState → Fixed → Fixed
put_depth d f = record { program = f.program; primitive = f.primitive; bias = f.bias; alpha = f.alpha; target = f.target; clip = f.clip; aspects = f.aspects; depth = Some d }

-- OpenGL ES 3.2, 15.1.2: GL_FRONT (1028) and GL_BACK (1029) name one face, GL_FRONT_AND_BACK (1032) both, and no other number names one
abbrev pub on_face : {A : Type 0} → ℕ → ℕ → A → Option A → Option A
on_face own face x old = cond (eqb face own || eqb face 1032) (Some x) old

abbrev pub put_func : ℕ → StencilFunc → Faces → Faces
put_func face x f = record { front = on_face 1028 face x f.front; back = on_face 1029 face x f.back; front_ops = f.front_ops; back_ops = f.back_ops }

abbrev pub put_ops : ℕ → FaceOps → Faces → Faces
put_ops face x f = record { front = f.front; back = f.back; front_ops = on_face 1028 face x f.front_ops; back_ops = on_face 1029 face x f.back_ops }

-- a draw is noted in the first render pass
abbrev pub noted : {A : Type 0} → Stage → A → List A → List A
noted before x l = l
noted first x l = l ++ (x ∷ [])
noted later x l = l

abbrev pub shoot : Bool → Command → Machine → Machine
shoot indexed c m = record { stage = m.stage; gl = m.gl; shots = noted m.stage (record { command = c; indexed = indexed; gl = m.gl }) m.shots }

-- ---- one command
abbrev pub exec : Machine → Command → Machine
exec m (Draw t fv vc fi ic l) = shoot false (Draw t fv vc fi ic l) m
exec m (DrawIndexed t ty n o bv fi ic l) = shoot true (DrawIndexed t ty n o bv fi ic l) m
exec m (DrawIndirect t raw o l) = shoot false (DrawIndirect t raw o l) m
exec m (DrawIndexedIndirect t ty raw o l) = shoot true (DrawIndexedIndirect t ty raw o l) m
exec m (Dispatch x y z) = m
exec m (DispatchIndirect raw o) = m
exec m (ClearBuffer raw t r) = m
exec m (CopyBufferToBuffer a b c d e) = m
exec m (SetIndexBuffer raw) = with_bindings (put_index raw m.gl.bindings) m
exec m (BeginQuery q t) = m
exec m (EndQuery t) = m
exec m (TimestampQuery q) = m
exec m (CopyQueryResults a b c d) = m
exec m (ResetFramebuffer d) = record { stage = onward m.stage; gl = m.gl; shots = m.shots }
exec m (BindAttachment a v d s) = m
exec m (ResolveAttachment a v s) = m
exec m (InvalidateAttachments s) = m
exec m (SetDrawColorBuffers n) = m
exec m (ClearColorF n c) = m
exec m (ClearColorU n c) = m
exec m (ClearColorI n c) = m
exec m (ClearDepth d) = m
exec m (ClearStencil s) = m
exec m (ClearDepthAndStencil d s) = m
exec m (BufferBarrier b u) = m
exec m (TextureBarrier u) = m
exec m (SetViewport r d) = with_screen (record { viewport = Some (record { rect = r; depth = d }); scissor = m.gl.screen.scissor; blend = m.gl.screen.blend }) m
exec m (SetScissor r) = with_screen (record { viewport = m.gl.screen.viewport; scissor = Some r; blend = m.gl.screen.blend }) m
exec m (SetStencilFunc face f r k) = with_faces (put_func face (record { function = f; reference = r; read = k }) m.gl.faces) m
exec m (SetStencilOps face w o) = with_faces (put_ops face (record { write = w; ops = o }) m.gl.faces) m
exec m (SetDepth d) = with_fixed (put_depth d m.gl.fixed) m
exec m (SetDepthBias d) = with_fixed (put_bias d m.gl.fixed) m
exec m (ConfigureDepthStencil a) = with_fixed (put_aspects a m.gl.fixed) m
exec m (SetAlphaToCoverage a) = with_fixed (put_alpha a m.gl.fixed) m
exec m (SetVertexAttribute b d a) = with_vertices (put_attribute a.location (Some (record { buffer = b; desc = d; attribute = a })) m.gl.vertices) m
exec m (UnsetVertexAttribute l) = with_vertices (put_attribute l None m.gl.vertices) m
exec m (SetVertexBuffer i b d) = with_vertices (put_buffer i (record { binding = b; desc = d }) m.gl.vertices) m
exec m (SetProgram p) = with_fixed (put_program p m.gl.fixed) m
exec m (SetPrimitive p) = with_fixed (put_primitive p m.gl.fixed) m
exec m (SetBlendConstant c) = with_screen (record { viewport = m.gl.screen.viewport; scissor = m.gl.screen.scissor; blend = c }) m
exec m (SetColorTarget i t) = with_fixed (put_target i t m.gl.fixed) m
exec m (BindBuffer t i b o s) = with_bindings (put_range t i (record { buffer = b; offset = o; size = s }) m.gl.bindings) m
exec m (BindSampler u s) = with_bindings (put_sampler u s m.gl.bindings) m
exec m (BindTexture i t ta a mips) = with_bindings (put_texture i (record { texture = t; target = ta; aspects = a; mips = mips }) m.gl.bindings) m
exec m (BindImage i x) = with_bindings (put_image i x m.gl.bindings) m
exec m (PushDebugGroup r) = m
exec m PopDebugGroup = m
exec m (SetImmediates d o) = m
exec m (SetClipDistances old n) = with_fixed (put_clip old n m.gl.fixed) m

abbrev pub play : Machine → List Command → Machine
play m [] = m
play m (c ∷ cs) = play (exec m c) cs
