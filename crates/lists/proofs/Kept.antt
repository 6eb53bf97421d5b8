-- The classes are the machine's: what is no setting leaves its settings, and a draw, nothing else, is noted. Assumes nothing.
use mathlib.Core.Path.{◌≡◌, refl, ◌∙◌, ap}
use mathlib.Core.Bool.{Bool, true, false, cond, true≢false}
use mathlib.Core.List.{[], ◌∷◌, ◌++◌}
use Rattle.records.specs.declared.command.Command.{Command}
use Rattle.records.specs.declared.command.Command.TheVariants.{Draw, DrawIndexed, DrawIndirect, DrawIndexedIndirect, Dispatch, DispatchIndirect, ClearBuffer, CopyBufferToBuffer}
use Rattle.records.specs.declared.command.Command.TheVariants.{SetIndexBuffer, BeginQuery, EndQuery, TimestampQuery, CopyQueryResults, ResetFramebuffer, BindAttachment}
use Rattle.records.specs.declared.command.Command.TheVariants.{ResolveAttachment, InvalidateAttachments, SetDrawColorBuffers, ClearColorF, ClearColorU, ClearColorI, ClearDepth}
use Rattle.records.specs.declared.command.Command.TheVariants.{ClearStencil, ClearDepthAndStencil, BufferBarrier, TextureBarrier, SetViewport, SetScissor, SetStencilFunc}
use Rattle.records.specs.declared.command.Command.TheVariants.{SetStencilOps, SetDepth, SetDepthBias, ConfigureDepthStencil, SetAlphaToCoverage, SetVertexAttribute}
use Rattle.records.specs.declared.command.Command.TheVariants.{UnsetVertexAttribute, SetVertexBuffer, SetProgram, SetPrimitive, SetBlendConstant, SetColorTarget, BindBuffer}
use Rattle.records.specs.declared.command.Command.TheVariants.{BindSampler, BindTexture, BindImage, PushDebugGroup, PopDebugGroup, SetImmediates, SetClipDistances}
use Rattle.machine.specs.View.{first}
use Rattle.machine.specs.Machine.{Machine, Shot, noted, exec}
use Rattle.lists.specs.Class.{class_of, sets, draws}

pub keeps-settings : (c : Command) (m : Machine) → sets (class_of c) ≡ false → (exec m c).gl ≡ m.gl
keeps-settings (Draw t fv vc fi ic l) m h = refl
keeps-settings (DrawIndexed t ty n o bv fi ic l) m h = refl
keeps-settings (DrawIndirect t raw o l) m h = refl
keeps-settings (DrawIndexedIndirect t ty raw o l) m h = refl
keeps-settings (Dispatch x y z) m h = refl
keeps-settings (DispatchIndirect raw o) m h = refl
keeps-settings (ClearBuffer raw t r) m h = refl
keeps-settings (CopyBufferToBuffer a b c d e) m h = refl
keeps-settings (SetIndexBuffer raw) m h = absurd (true≢false h)
keeps-settings (BeginQuery q t) m h = refl
keeps-settings (EndQuery t) m h = refl
keeps-settings (TimestampQuery q) m h = refl
keeps-settings (CopyQueryResults a b c d) m h = refl
keeps-settings (ResetFramebuffer d) m h = refl
keeps-settings (BindAttachment a v d s) m h = refl
keeps-settings (ResolveAttachment a v s) m h = refl
keeps-settings (InvalidateAttachments s) m h = refl
keeps-settings (SetDrawColorBuffers n) m h = refl
keeps-settings (ClearColorF n c) m h = refl
keeps-settings (ClearColorU n c) m h = refl
keeps-settings (ClearColorI n c) m h = refl
keeps-settings (ClearDepth d) m h = refl
keeps-settings (ClearStencil s) m h = refl
keeps-settings (ClearDepthAndStencil d s) m h = refl
keeps-settings (BufferBarrier b u) m h = refl
keeps-settings (TextureBarrier u) m h = refl
keeps-settings (SetViewport r d) m h = absurd (true≢false h)
keeps-settings (SetScissor r) m h = absurd (true≢false h)
keeps-settings (SetStencilFunc face f r k) m h = absurd (true≢false h)
keeps-settings (SetStencilOps face w o) m h = absurd (true≢false h)
keeps-settings (SetDepth d) m h = absurd (true≢false h)
keeps-settings (SetDepthBias d) m h = absurd (true≢false h)
keeps-settings (ConfigureDepthStencil a) m h = absurd (true≢false h)
keeps-settings (SetAlphaToCoverage a) m h = absurd (true≢false h)
keeps-settings (SetVertexAttribute b d a) m h = absurd (true≢false h)
keeps-settings (UnsetVertexAttribute l) m h = absurd (true≢false h)
keeps-settings (SetVertexBuffer i b d) m h = absurd (true≢false h)
keeps-settings (SetProgram p) m h = absurd (true≢false h)
keeps-settings (SetPrimitive p) m h = absurd (true≢false h)
keeps-settings (SetBlendConstant c) m h = absurd (true≢false h)
keeps-settings (SetColorTarget i t) m h = absurd (true≢false h)
keeps-settings (BindBuffer t i b o s) m h = absurd (true≢false h)
keeps-settings (BindSampler u s) m h = absurd (true≢false h)
keeps-settings (BindTexture i t ta a mips) m h = absurd (true≢false h)
keeps-settings (BindImage i x) m h = absurd (true≢false h)
keeps-settings (PushDebugGroup r) m h = refl
keeps-settings PopDebugGroup m h = refl
keeps-settings (SetImmediates d o) m h = refl
keeps-settings (SetClipDistances old n) m h = absurd (true≢false h)

abbrev shot_of : Command → Bool → Machine → Shot
shot_of c indexed m = record { command = c; indexed = indexed; gl = m.gl }

notes-draws : (c : Command) (m : Machine) → (indexed : Bool) × ((exec m c).shots ≡ cond (draws (class_of c)) (noted m.stage (shot_of c indexed m) m.shots) m.shots)
notes-draws (Draw t fv vc fi ic l) m = (false, refl)
notes-draws (DrawIndexed t ty n o bv fi ic l) m = (true, refl)
notes-draws (DrawIndirect t raw o l) m = (false, refl)
notes-draws (DrawIndexedIndirect t ty raw o l) m = (true, refl)
notes-draws (Dispatch x y z) m = (false, refl)
notes-draws (DispatchIndirect raw o) m = (false, refl)
notes-draws (ClearBuffer raw t r) m = (false, refl)
notes-draws (CopyBufferToBuffer a b c d e) m = (false, refl)
notes-draws (SetIndexBuffer raw) m = (false, refl)
notes-draws (BeginQuery q t) m = (false, refl)
notes-draws (EndQuery t) m = (false, refl)
notes-draws (TimestampQuery q) m = (false, refl)
notes-draws (CopyQueryResults a b c d) m = (false, refl)
notes-draws (ResetFramebuffer d) m = (false, refl)
notes-draws (BindAttachment a v d s) m = (false, refl)
notes-draws (ResolveAttachment a v s) m = (false, refl)
notes-draws (InvalidateAttachments s) m = (false, refl)
notes-draws (SetDrawColorBuffers n) m = (false, refl)
notes-draws (ClearColorF n c) m = (false, refl)
notes-draws (ClearColorU n c) m = (false, refl)
notes-draws (ClearColorI n c) m = (false, refl)
notes-draws (ClearDepth d) m = (false, refl)
notes-draws (ClearStencil s) m = (false, refl)
notes-draws (ClearDepthAndStencil d s) m = (false, refl)
notes-draws (BufferBarrier b u) m = (false, refl)
notes-draws (TextureBarrier u) m = (false, refl)
notes-draws (SetViewport r d) m = (false, refl)
notes-draws (SetScissor r) m = (false, refl)
notes-draws (SetStencilFunc face f r k) m = (false, refl)
notes-draws (SetStencilOps face w o) m = (false, refl)
notes-draws (SetDepth d) m = (false, refl)
notes-draws (SetDepthBias d) m = (false, refl)
notes-draws (ConfigureDepthStencil a) m = (false, refl)
notes-draws (SetAlphaToCoverage a) m = (false, refl)
notes-draws (SetVertexAttribute b d a) m = (false, refl)
notes-draws (UnsetVertexAttribute l) m = (false, refl)
notes-draws (SetVertexBuffer i b d) m = (false, refl)
notes-draws (SetProgram p) m = (false, refl)
notes-draws (SetPrimitive p) m = (false, refl)
notes-draws (SetBlendConstant c) m = (false, refl)
notes-draws (SetColorTarget i t) m = (false, refl)
notes-draws (BindBuffer t i b o s) m = (false, refl)
notes-draws (BindSampler u s) m = (false, refl)
notes-draws (BindTexture i t ta a mips) m = (false, refl)
notes-draws (BindImage i x) m = (false, refl)
notes-draws (PushDebugGroup r) m = (false, refl)
notes-draws PopDebugGroup m = (false, refl)
notes-draws (SetImmediates d o) m = (false, refl)
notes-draws (SetClipDistances old n) m = (false, refl)

pub keeps-shots : (c : Command) (m : Machine) → draws (class_of c) ≡ false → (exec m c).shots ≡ m.shots
keeps-shots c m e =
    let s : Shot = shot_of c (notes-draws c m).0 m in
    (notes-draws c m).1 ∙ ap (λ (b : Bool). cond b (noted m.stage s m.shots) m.shots) e

-- a draw of the first render pass, with the settings that it finds
pub notes-draw : (c : Command) (m : Machine) → draws (class_of c) ≡ true → m.stage ≡ first
    → (s : Shot) × (s.command ≡ c) × (s.gl ≡ m.gl) × ((exec m c).shots ≡ m.shots ++ (s ∷ []))
notes-draw c m e f =
    let s : Shot = shot_of c (notes-draws c m).0 m in
    (s, refl, refl, (notes-draws c m).1 ∙ ap (λ (b : Bool). cond b (noted m.stage s m.shots) m.shots) e ∙ ap (λ t. noted t s m.shots) f)
