-- What a command is to who looks at a list. Definitions only.
use Rattle.std.specs.Prelude.{ℕ, suc, ◌+◌, Bool, true, false, cond, List, [], ◌∷◌, map, Option, None, Some}
use Rattle.records.specs.declared.command.Command.{Command}
use Rattle.records.specs.declared.command.Command.TheVariants.{Draw, DrawIndexed, DrawIndirect, DrawIndexedIndirect, Dispatch, DispatchIndirect, ClearBuffer, CopyBufferToBuffer}
use Rattle.records.specs.declared.command.Command.TheVariants.{SetIndexBuffer, BeginQuery, EndQuery, TimestampQuery, CopyQueryResults, ResetFramebuffer, BindAttachment}
use Rattle.records.specs.declared.command.Command.TheVariants.{ResolveAttachment, InvalidateAttachments, SetDrawColorBuffers, ClearColorF, ClearColorU, ClearColorI, ClearDepth}
use Rattle.records.specs.declared.command.Command.TheVariants.{ClearStencil, ClearDepthAndStencil, BufferBarrier, TextureBarrier, SetViewport, SetScissor, SetStencilFunc}
use Rattle.records.specs.declared.command.Command.TheVariants.{SetStencilOps, SetDepth, SetDepthBias, ConfigureDepthStencil, SetAlphaToCoverage, SetVertexAttribute}
use Rattle.records.specs.declared.command.Command.TheVariants.{UnsetVertexAttribute, SetVertexBuffer, SetProgram, SetPrimitive, SetBlendConstant, SetColorTarget, BindBuffer}
use Rattle.records.specs.declared.command.Command.TheVariants.{BindSampler, BindTexture, BindImage, PushDebugGroup, PopDebugGroup, SetImmediates, SetClipDistances}
use Rattle.records.specs.declared.command.Record.{Record}
use Rattle.lists.specs.declared.class.Class.{Class}
use Rattle.lists.specs.declared.class.Class.TheVariants as class
use Rattle.lists.specs.declared.class.Class.TheVariants.{Clear, Reset, Sets, Other}
use Rattle.lists.specs.declared.class.Thing.{Thing}
use Rattle.lists.specs.declared.class.Thing.TheVariants.{Attribute, VertexBuffer, IndexBuffer, Buffer, Texture, Image, Sampler, Viewport, Scissor, BlendConstants, Program}
use Rattle.lists.specs.declared.class.Thing.TheVariants.{Primitive, DepthBias, AlphaToCoverage, ClipDistances, DepthStencil, Depth, Target, Targets, StencilFunction, StencilOperations}

-- a colour target by its place, or all of them: `Command::SetColorTarget` of gles/mod.rs, whose place is optional
abbrev pub target_of : Option ℕ → Thing
target_of None = Targets
target_of (Some i) = Target i

-- document 01, "A setting command overwrites the thing it names, other commands nothing"; document 02 §7, "any draw, pass clear, dispatch or framebuffer reset".
-- Clearing a buffer is no pass clear.
abbrev pub class_of : Command → Class
class_of (Draw t fv vc fi ic l) = class.Draw
class_of (DrawIndexed t ty n o bv fi ic l) = class.Draw
class_of (DrawIndirect t raw o l) = class.Draw
class_of (DrawIndexedIndirect t ty raw o l) = class.Draw
class_of (Dispatch x y z) = class.Dispatch
class_of (DispatchIndirect raw o) = class.Dispatch
class_of (ClearBuffer raw t r) = Other
class_of (CopyBufferToBuffer a b c d e) = Other
class_of (SetIndexBuffer raw) = Sets IndexBuffer
class_of (BeginQuery q t) = Other
class_of (EndQuery t) = Other
class_of (TimestampQuery q) = Other
class_of (CopyQueryResults a b c d) = Other
class_of (ResetFramebuffer d) = Reset
class_of (BindAttachment a v d s) = Other
class_of (ResolveAttachment a v s) = Other
class_of (InvalidateAttachments s) = Other
class_of (SetDrawColorBuffers n) = Other
class_of (ClearColorF n c) = Clear
class_of (ClearColorU n c) = Clear
class_of (ClearColorI n c) = Clear
class_of (ClearDepth d) = Clear
class_of (ClearStencil s) = Clear
class_of (ClearDepthAndStencil d s) = Clear
class_of (BufferBarrier b u) = Other
class_of (TextureBarrier u) = Other
class_of (SetViewport r d) = Sets Viewport
class_of (SetScissor r) = Sets Scissor
class_of (SetStencilFunc face f r k) = Sets (StencilFunction face)
class_of (SetStencilOps face w o) = Sets (StencilOperations face)
class_of (SetDepth d) = Sets Depth
class_of (SetDepthBias d) = Sets DepthBias
class_of (ConfigureDepthStencil a) = Sets DepthStencil
class_of (SetAlphaToCoverage a) = Sets AlphaToCoverage
class_of (SetVertexAttribute b d a) = Sets (Attribute a.location)
class_of (UnsetVertexAttribute l) = Sets (Attribute l)
class_of (SetVertexBuffer i b d) = Sets (VertexBuffer i)
class_of (SetProgram p) = Sets Program
class_of (SetPrimitive p) = Sets Primitive
class_of (SetBlendConstant c) = Sets BlendConstants
class_of (SetColorTarget i t) = Sets (target_of i)
class_of (BindBuffer t i b o s) = Sets (Buffer t i)
class_of (BindSampler u s) = Sets (Sampler u)
class_of (BindTexture i t ta a mips) = Sets (Texture i)
class_of (BindImage i x) = Sets (Image i)
class_of (PushDebugGroup r) = Other
class_of PopDebugGroup = Other
class_of (SetImmediates d o) = Other
class_of (SetClipDistances old n) = Sets ClipDistances

-- a setting: document 01, "A setting command overwrites the thing it names"
abbrev pub sets : Class → Bool
sets class.Draw = false
sets Clear = false
sets class.Dispatch = false
sets Reset = false
sets (Sets t) = true
sets Other = false

-- a draw: document 02 §7, "any draw"
abbrev pub draws : Class → Bool
draws class.Draw = true
draws Clear = false
draws class.Dispatch = false
draws Reset = false
draws (Sets t) = false
draws Other = false

-- the commands of lent records (`Record`, records/src/command.rt)
abbrev pub commands_of : List Record → List Command
commands_of = map (λ (x : Record). x.command)

-- how many draws a list has: document 01, "The list's draws". A dispatch is none
unfoldable pub draw_count : List Command → ℕ
draw_count [] = 0
draw_count (c ∷ cs) = cond (draws (class_of c)) (suc (draw_count cs)) (draw_count cs)

-- the count after one more record, whatever its place: a step of `fold_at` (list_walks/specs/Fold.antt)
abbrev pub counted : ℕ → ℕ → Record → ℕ
counted n i x = cond (draws (class_of x.command)) (n + 1) n
