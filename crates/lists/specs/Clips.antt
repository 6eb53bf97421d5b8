-- The counts of clip distances along a list: `Command::SetClipDistances` of gles/mod.rs has the count before and the new one. Definitions only.
use Rattle.std.specs.Prelude.{ℕ, Bool, true, ◌&&◌, List, [], ◌∷◌, eqb, Option, None, Some}
use Rattle.records.specs.declared.command.Command.{Command}
use Rattle.records.specs.declared.command.Command.TheVariants.{Draw, DrawIndexed, DrawIndirect, DrawIndexedIndirect, Dispatch, DispatchIndirect, ClearBuffer, CopyBufferToBuffer}
use Rattle.records.specs.declared.command.Command.TheVariants.{SetIndexBuffer, BeginQuery, EndQuery, TimestampQuery, CopyQueryResults, ResetFramebuffer, BindAttachment}
use Rattle.records.specs.declared.command.Command.TheVariants.{ResolveAttachment, InvalidateAttachments, SetDrawColorBuffers, ClearColorF, ClearColorU, ClearColorI, ClearDepth}
use Rattle.records.specs.declared.command.Command.TheVariants.{ClearStencil, ClearDepthAndStencil, BufferBarrier, TextureBarrier, SetViewport, SetScissor, SetStencilFunc}
use Rattle.records.specs.declared.command.Command.TheVariants.{SetStencilOps, SetDepth, SetDepthBias, ConfigureDepthStencil, SetAlphaToCoverage, SetVertexAttribute}
use Rattle.records.specs.declared.command.Command.TheVariants.{UnsetVertexAttribute, SetVertexBuffer, SetProgram, SetPrimitive, SetBlendConstant, SetColorTarget, BindBuffer}
use Rattle.records.specs.declared.command.Command.TheVariants.{BindSampler, BindTexture, BindImage, PushDebugGroup, PopDebugGroup, SetImmediates, SetClipDistances}

-- the old and the new count of `Command::SetClipDistances`
pub record Clips : Type 0 where
  pub old : ℕ
  pub new : ℕ

abbrev pub clip_of : Command → Option Clips
clip_of (Draw t fv vc fi ic l) = None
clip_of (DrawIndexed t ty n o bv fi ic l) = None
clip_of (DrawIndirect t raw o l) = None
clip_of (DrawIndexedIndirect t ty raw o l) = None
clip_of (Dispatch a b c) = None
clip_of (DispatchIndirect raw o) = None
clip_of (ClearBuffer raw t r) = None
clip_of (CopyBufferToBuffer a b c d e) = None
clip_of (SetIndexBuffer raw) = None
clip_of (BeginQuery q t) = None
clip_of (EndQuery t) = None
clip_of (TimestampQuery q) = None
clip_of (CopyQueryResults r dst t o) = None
clip_of (ResetFramebuffer d) = None
clip_of (BindAttachment a v d s) = None
clip_of (ResolveAttachment a v s) = None
clip_of (InvalidateAttachments s) = None
clip_of (SetDrawColorBuffers n) = None
clip_of (ClearColorF n c) = None
clip_of (ClearColorU n c) = None
clip_of (ClearColorI n c) = None
clip_of (ClearDepth d) = None
clip_of (ClearStencil s) = None
clip_of (ClearDepthAndStencil d s) = None
clip_of (BufferBarrier b u) = None
clip_of (TextureBarrier u) = None
clip_of (SetViewport r d) = None
clip_of (SetScissor r) = None
clip_of (SetStencilFunc at f r n) = None
clip_of (SetStencilOps at w o) = None
clip_of (SetDepth d) = None
clip_of (SetDepthBias d) = None
clip_of (ConfigureDepthStencil a) = None
clip_of (SetAlphaToCoverage a) = None
clip_of (SetVertexAttribute b d a) = None
clip_of (UnsetVertexAttribute l) = None
clip_of (SetVertexBuffer i b d) = None
clip_of (SetProgram p) = None
clip_of (SetPrimitive p) = None
clip_of (SetBlendConstant c) = None
clip_of (SetColorTarget i t) = None
clip_of (BindBuffer ta i b o s) = None
clip_of (BindSampler u s) = None
clip_of (BindTexture i te ta a mips) = None
clip_of (BindImage i x) = None
clip_of (PushDebugGroup r) = None
clip_of PopDebugGroup = None
clip_of (SetImmediates d o) = None
clip_of (SetClipDistances old n) = Some (record { old = old; new = n })

-- "the last count": the new count of the last such command, 0 without one
abbrev pub count_by : ℕ → Option Clips → ℕ
count_by n None = n
count_by n (Some c) = c.new

unfoldable pub count_from : ℕ → List Command → ℕ
count_from n [] = n
count_from n (c ∷ cs) = count_from (count_by n (clip_of c)) cs

abbrev pub last_count : List Command → ℕ
last_count cs = count_from 0 cs

-- each old count is the count before it, as the recorder's are
abbrev pub chains : ℕ → Option Clips → Bool
chains n None = true
chains n (Some c) = eqb c.old n

unfoldable pub chained : ℕ → List Command → Bool
chained n [] = true
chained n (c ∷ cs) = chains n (clip_of c) && chained (count_by n (clip_of c)) cs
