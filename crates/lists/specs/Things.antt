-- The things of the machine, and which of them a command names: document 01, "A setting command overwrites the thing it names, other commands nothing".
-- (`Thing` of src/class.rt is what a command says that it sets; here each place of the machine is a thing.) Definitions only.
use Rattle.std.specs.Prelude.{ℕ, ◌≡◌, Bool, false, ◌&&◌, ◌||◌, List, eqb, None, Some}
use Rattle.records.specs.Check.{some?}
use Rattle.records.specs.declared.command.Command.{Command}
use Rattle.records.specs.declared.command.Command.TheVariants.{Draw, DrawIndexed, DrawIndirect, DrawIndexedIndirect, Dispatch, DispatchIndirect, ClearBuffer, CopyBufferToBuffer}
use Rattle.records.specs.declared.command.Command.TheVariants.{SetIndexBuffer, BeginQuery, EndQuery, TimestampQuery, CopyQueryResults, ResetFramebuffer, BindAttachment}
use Rattle.records.specs.declared.command.Command.TheVariants.{ResolveAttachment, InvalidateAttachments, SetDrawColorBuffers, ClearColorF, ClearColorU, ClearColorI, ClearDepth}
use Rattle.records.specs.declared.command.Command.TheVariants.{ClearStencil, ClearDepthAndStencil, BufferBarrier, TextureBarrier, SetViewport, SetScissor, SetStencilFunc}
use Rattle.records.specs.declared.command.Command.TheVariants.{SetStencilOps, SetDepth, SetDepthBias, ConfigureDepthStencil, SetAlphaToCoverage, SetVertexAttribute}
use Rattle.records.specs.declared.command.Command.TheVariants.{UnsetVertexAttribute, SetVertexBuffer, SetProgram, SetPrimitive, SetBlendConstant, SetColorTarget, BindBuffer}
use Rattle.records.specs.declared.command.Command.TheVariants.{BindSampler, BindTexture, BindImage, PushDebugGroup, PopDebugGroup, SetImmediates, SetClipDistances}
use Rattle.machine.specs.Machine.{between, Vertices, Bindings, Screen, Fixed, Faces, Gl}

-- by the groups of the machine: an attribute at its location, a vertex buffer at its slot
pub data VertexThing : Type 0 where
  attribute vertex_buffer : ℕ → VertexThing

-- a buffer by target and slot, a texture, an image, a sampler by slot, the index buffer
pub data BindingThing : Type 0 where
  buffer : ℕ → ℕ → BindingThing
  texture image sampler : ℕ → BindingThing
  index_buffer : BindingThing

pub data ScreenThing : Type 0 where
  viewport scissor blend_constants : ScreenThing

pub data FixedThing : Type 0 where
  program primitive depth_bias alpha_to_coverage depth_stencil depth : FixedThing
  target clip_distance : ℕ → FixedThing

pub data FaceThing : Type 0 where
  front_function back_function front_operations back_operations : FaceThing

pub data Thing : Type 0 where
  vertex : VertexThing → Thing
  binding : BindingThing → Thing
  screen : ScreenThing → Thing
  fixed : FixedThing → Thing
  face : FaceThing → Thing

-- ---- two machines hold the same there
abbrev pub SameVertex : VertexThing → Vertices → Vertices → Type 0
SameVertex (attribute l) g h = g.attribute l ≡ h.attribute l
SameVertex (vertex_buffer i) g h = g.buffer i ≡ h.buffer i

abbrev pub SameBinding : BindingThing → Bindings → Bindings → Type 0
SameBinding (buffer t i) g h = g.buffers t i ≡ h.buffers t i
SameBinding (texture i) g h = g.textures i ≡ h.textures i
SameBinding (image i) g h = g.images i ≡ h.images i
SameBinding (sampler u) g h = g.samplers u ≡ h.samplers u
SameBinding index_buffer g h = g.index ≡ h.index

abbrev pub SameScreen : ScreenThing → Screen → Screen → Type 0
SameScreen viewport g h = g.viewport ≡ h.viewport
SameScreen scissor g h = g.scissor ≡ h.scissor
SameScreen blend_constants g h = g.blend ≡ h.blend

abbrev pub SameFixed : FixedThing → Fixed → Fixed → Type 0
SameFixed program g h = g.program ≡ h.program
SameFixed primitive g h = g.primitive ≡ h.primitive
SameFixed depth_bias g h = g.bias ≡ h.bias
SameFixed alpha_to_coverage g h = g.alpha ≡ h.alpha
SameFixed depth_stencil g h = g.aspects ≡ h.aspects
SameFixed depth g h = g.depth ≡ h.depth
SameFixed (target i) g h = g.target i ≡ h.target i
SameFixed (clip_distance i) g h = g.clip i ≡ h.clip i

abbrev pub SameFace : FaceThing → Faces → Faces → Type 0
SameFace front_function g h = g.front ≡ h.front
SameFace back_function g h = g.back ≡ h.back
SameFace front_operations g h = g.front_ops ≡ h.front_ops
SameFace back_operations g h = g.back_ops ≡ h.back_ops

abbrev pub Same : Thing → Gl → Gl → Type 0
Same (vertex t) g h = SameVertex t g.vertices h.vertices
Same (binding t) g h = SameBinding t g.bindings h.bindings
Same (screen t) g h = SameScreen t g.screen h.screen
Same (fixed t) g h = SameFixed t g.fixed h.fixed
Same (face t) g h = SameFace t g.faces h.faces

-- ---- when two names name one thing
abbrev pub same_vertex : VertexThing → VertexThing → Bool
same_vertex (attribute l) (attribute k) = eqb l k
same_vertex (attribute l) (vertex_buffer k) = false
same_vertex (vertex_buffer i) (attribute k) = false
same_vertex (vertex_buffer i) (vertex_buffer k) = eqb i k

-- the kinds by number, and their places
abbrev pub binding_kind : BindingThing → ℕ
binding_kind (buffer t i) = 0
binding_kind (texture i) = 1
binding_kind (image i) = 2
binding_kind (sampler u) = 3
binding_kind index_buffer = 4

abbrev pub binding_place : BindingThing → ℕ
binding_place (buffer t i) = i
binding_place (texture i) = i
binding_place (image i) = i
binding_place (sampler u) = u
binding_place index_buffer = 0

abbrev pub binding_target : BindingThing → ℕ
binding_target (buffer t i) = t
binding_target (texture i) = 0
binding_target (image i) = 0
binding_target (sampler u) = 0
binding_target index_buffer = 0

abbrev pub same_binding : BindingThing → BindingThing → Bool
same_binding x y = eqb (binding_kind x) (binding_kind y) && (eqb (binding_target x) (binding_target y) && eqb (binding_place x) (binding_place y))

abbrev pub screen_kind : ScreenThing → ℕ
screen_kind viewport = 0
screen_kind scissor = 1
screen_kind blend_constants = 2

abbrev pub fixed_kind : FixedThing → ℕ
fixed_kind program = 0
fixed_kind primitive = 1
fixed_kind depth_bias = 2
fixed_kind alpha_to_coverage = 3
fixed_kind depth_stencil = 4
fixed_kind depth = 5
fixed_kind (target i) = 6
fixed_kind (clip_distance i) = 7

abbrev pub fixed_place : FixedThing → ℕ
fixed_place program = 0
fixed_place primitive = 0
fixed_place depth_bias = 0
fixed_place alpha_to_coverage = 0
fixed_place depth_stencil = 0
fixed_place depth = 0
fixed_place (target i) = i
fixed_place (clip_distance i) = i

abbrev pub same_fixed : FixedThing → FixedThing → Bool
same_fixed x y = eqb (fixed_kind x) (fixed_kind y) && eqb (fixed_place x) (fixed_place y)

abbrev pub face_kind : FaceThing → ℕ
face_kind front_function = 0
face_kind back_function = 1
face_kind front_operations = 2
face_kind back_operations = 3

-- each group's test, false across groups
abbrev pub is_vertex : VertexThing → Thing → Bool
is_vertex x (vertex y) = same_vertex y x
is_vertex x (binding y) = false
is_vertex x (screen y) = false
is_vertex x (fixed y) = false
is_vertex x (face y) = false

abbrev pub is_binding : BindingThing → Thing → Bool
is_binding x (vertex y) = false
is_binding x (binding y) = same_binding y x
is_binding x (screen y) = false
is_binding x (fixed y) = false
is_binding x (face y) = false

abbrev pub is_screen : ScreenThing → Thing → Bool
is_screen x (vertex y) = false
is_screen x (binding y) = false
is_screen x (screen y) = eqb (screen_kind y) (screen_kind x)
is_screen x (fixed y) = false
is_screen x (face y) = false

abbrev pub is_fixed : FixedThing → Thing → Bool
is_fixed x (vertex y) = false
is_fixed x (binding y) = false
is_fixed x (screen y) = false
is_fixed x (fixed y) = same_fixed y x
is_fixed x (face y) = false

abbrev pub is_face : FaceThing → Thing → Bool
is_face x (vertex y) = false
is_face x (binding y) = false
is_face x (screen y) = false
is_face x (fixed y) = false
is_face x (face y) = eqb (face_kind y) (face_kind x)

-- a colour target, whichever
abbrev pub is_target : Thing → Bool
is_target (vertex y) = false
is_target (binding y) = false
is_target (screen y) = false
is_target (fixed y) = eqb (fixed_kind y) 6
is_target (face y) = false

-- a clip distance that goes on, or off
abbrev pub is_clip : ℕ → ℕ → Thing → Bool
is_clip old n (vertex y) = false
is_clip old n (binding y) = false
is_clip old n (screen y) = false
is_clip old n (fixed y) = eqb (fixed_kind y) 7 && (between old n (fixed_place y) || between n old (fixed_place y))
is_clip old n (face y) = false

-- OpenGL ES 3.2, 15.1.2: GL_FRONT (1028), GL_BACK (1029), FRONT_AND_BACK (1032)
abbrev pub on_front : ℕ → Bool
on_front side = eqb side 1028 || eqb side 1032

abbrev pub on_back : ℕ → Bool
on_back side = eqb side 1029 || eqb side 1032

-- ---- the thing that a command names
abbrev pub names : Command → Thing → Bool
names (Draw t fv vc fi ic l) x = false
names (DrawIndexed t ty n o bv fi ic l) x = false
names (DrawIndirect t raw o l) x = false
names (DrawIndexedIndirect t ty raw o l) x = false
names (Dispatch a b c) x = false
names (DispatchIndirect raw o) x = false
names (ClearBuffer raw t r) x = false
names (CopyBufferToBuffer a b c d e) x = false
names (SetIndexBuffer raw) x = is_binding index_buffer x
names (BeginQuery q t) x = false
names (EndQuery t) x = false
names (TimestampQuery q) x = false
names (CopyQueryResults a b c d) x = false
names (ResetFramebuffer d) x = false
names (BindAttachment a v d s) x = false
names (ResolveAttachment a v s) x = false
names (InvalidateAttachments s) x = false
names (SetDrawColorBuffers n) x = false
names (ClearColorF n c) x = false
names (ClearColorU n c) x = false
names (ClearColorI n c) x = false
names (ClearDepth d) x = false
names (ClearStencil s) x = false
names (ClearDepthAndStencil d s) x = false
names (BufferBarrier b u) x = false
names (TextureBarrier u) x = false
names (SetViewport r d) x = is_screen viewport x
names (SetScissor r) x = is_screen scissor x
names (SetStencilFunc side f r k) x = (is_face front_function x && on_front side) || (is_face back_function x && on_back side)
names (SetStencilOps side w o) x = (is_face front_operations x && on_front side) || (is_face back_operations x && on_back side)
names (SetDepth d) x = is_fixed depth x
names (SetDepthBias d) x = is_fixed depth_bias x
names (ConfigureDepthStencil a) x = is_fixed depth_stencil x
names (SetAlphaToCoverage a) x = is_fixed alpha_to_coverage x
names (SetVertexAttribute b d a) x = is_vertex (attribute a.location) x
names (UnsetVertexAttribute l) x = is_vertex (attribute l) x
names (SetVertexBuffer i b d) x = is_vertex (vertex_buffer i) x
names (SetProgram p) x = is_fixed program x
names (SetPrimitive p) x = is_fixed primitive x
names (SetBlendConstant c) x = is_screen blend_constants x
names (SetColorTarget None t) x = is_target x
names (SetColorTarget (Some i) t) x = is_fixed (target i) x
names (BindBuffer t i b o s) x = is_binding (buffer t i) x
names (BindSampler u s) x = is_binding (sampler u) x
names (BindTexture i t ta a mips) x = is_binding (texture i) x
names (BindImage i y) x = is_binding (image i) x
names (PushDebugGroup r) x = false
names PopDebugGroup x = false
names (SetImmediates d o) x = false
names (SetClipDistances old n) x = is_clip old n x

-- some command of the list names it
abbrev pub named : List Command → Thing → Bool
named cs x = some? (λ (c : Command). names c x) cs
