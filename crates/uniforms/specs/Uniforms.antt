-- The machine of uniforms: OpenGL ES 3.2, 7.6 "Uniform Variables": a value belongs to its program object and stays until it is loaded again. Definitions only.
-- `SetProgram` makes a program current; `SetImmediates` loads the uniform at its descriptor's location of that program with the marker bytes from its place on. "Other commands nothing" (document 01).
use Rattle.std.specs.Prelude.{ℕ, List, [], ◌∷◌, take, drop, Option, None, Some}
use Rattle.tables.specs.Tabulate.{upd}
use Rattle.records.specs.declared.command.ImmediateDesc.{ImmediateDesc}
use Rattle.records.specs.declared.command.Command.{Command}
use Rattle.records.specs.declared.command.Command.TheVariants.{Draw, DrawIndexed, DrawIndirect, DrawIndexedIndirect, Dispatch, DispatchIndirect, ClearBuffer, CopyBufferToBuffer, SetIndexBuffer, BeginQuery, EndQuery, TimestampQuery, CopyQueryResults, ResetFramebuffer, BindAttachment, ResolveAttachment, InvalidateAttachments, SetDrawColorBuffers, ClearColorF, ClearColorU, ClearColorI, ClearDepth, ClearStencil, ClearDepthAndStencil, BufferBarrier, TextureBarrier, SetViewport, SetScissor, SetStencilFunc, SetStencilOps, SetDepth, SetDepthBias, ConfigureDepthStencil, SetAlphaToCoverage, SetVertexAttribute, UnsetVertexAttribute, SetVertexBuffer, SetProgram, SetPrimitive, SetBlendConstant, SetColorTarget, BindBuffer, BindSampler, BindTexture, BindImage, PushDebugGroup, PopDebugGroup, SetImmediates, SetClipDistances}

-- a uniform's value: its type and its bytes
pub record Value : Type 0 where
  pub ty : ℕ
  pub bytes : List ℕ

-- the values by program and location
abbrev pub Uniforms : Type 0
Uniforms = ℕ → ℕ → Option Value

pub record Machine : Type 0 where
  pub program : Option ℕ
  pub uniform : Uniforms

abbrev pub fresh : Machine
fresh = record { program = None; uniform = λ p l. None }

-- the uniform at location l of the current program
abbrev pub load : Option ℕ → ℕ → Value → Uniforms → Uniforms
load None l v u = u
load (Some p) l v u = upd u p (upd (u p) l (Some v))

-- what a command is to the uniforms: it makes a program current, loads a uniform, or neither
pub data Effect : Type 0 where
  uses : ℕ → Effect
  loads : ImmediateDesc → ℕ → Effect
  neither : Effect

abbrev pub effect : Command → Effect
effect (Draw t fv vc fi ic l) = neither
effect (DrawIndexed t ty n o bv fi ic l) = neither
effect (DrawIndirect t raw o l) = neither
effect (DrawIndexedIndirect t ty raw o l) = neither
effect (Dispatch x y z) = neither
effect (DispatchIndirect raw o) = neither
effect (ClearBuffer raw t r) = neither
effect (CopyBufferToBuffer a b c d e) = neither
effect (SetIndexBuffer raw) = neither
effect (BeginQuery q t) = neither
effect (EndQuery t) = neither
effect (TimestampQuery q) = neither
effect (CopyQueryResults a b c d) = neither
effect (ResetFramebuffer d) = neither
effect (BindAttachment a v d s) = neither
effect (ResolveAttachment a v s) = neither
effect (InvalidateAttachments s) = neither
effect (SetDrawColorBuffers n) = neither
effect (ClearColorF n c) = neither
effect (ClearColorU n c) = neither
effect (ClearColorI n c) = neither
effect (ClearDepth d) = neither
effect (ClearStencil s) = neither
effect (ClearDepthAndStencil d s) = neither
effect (BufferBarrier b u) = neither
effect (TextureBarrier u) = neither
effect (SetViewport r d) = neither
effect (SetScissor r) = neither
effect (SetStencilFunc face f r k) = neither
effect (SetStencilOps face w o) = neither
effect (SetDepth d) = neither
effect (SetDepthBias d) = neither
effect (ConfigureDepthStencil a) = neither
effect (SetAlphaToCoverage a) = neither
effect (SetVertexAttribute b d a) = neither
effect (UnsetVertexAttribute l) = neither
effect (SetVertexBuffer i b d) = neither
effect (SetProgram p) = uses p
effect (SetPrimitive p) = neither
effect (SetBlendConstant c) = neither
effect (SetColorTarget i t) = neither
effect (BindBuffer t i b o s) = neither
effect (BindSampler u s) = neither
effect (BindTexture i t ta a mips) = neither
effect (BindImage i x) = neither
effect (PushDebugGroup r) = neither
effect PopDebugGroup = neither
effect (SetImmediates d at) = loads d at
effect (SetClipDistances old n) = neither

-- one command, with the marker bytes of its list
abbrev pub exec : List ℕ → Machine → Effect → Machine
exec bytes m (uses p) = record { program = Some p; uniform = m.uniform }
exec bytes m (loads d at) =
    record { program = m.program; uniform = load m.program d.location (record { ty = d.ty; bytes = take d.size_bytes (drop at bytes) }) m.uniform }
exec bytes m neither = m

unfoldable pub play : List ℕ → Machine → List Command → Machine
play bytes m [] = m
play bytes m (c ∷ cs) = play bytes (exec bytes m (effect c)) cs

-- what the machine holds after a list and its bytes, from the fresh machine
abbrev pub held : List ℕ → List Command → Machine
held bytes cs = play bytes fresh cs
