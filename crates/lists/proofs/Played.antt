-- A list played, command by command: the settings do not depend on the pass, in the first render pass each draw is noted, and the draws of a list that goes on. Assumes nothing.
use mathlib.Core.Path.{◌≡◌, refl, sym, ap, ◌∙◌}
use mathlib.Core.List.{List, [], ◌∷◌, ◌++◌, append_assoc, append-nil}
use Rattle.records.specs.declared.command.Command.{Command}
use Rattle.records.specs.declared.command.Command.TheVariants.{Draw, DrawIndexed, DrawIndirect, DrawIndexedIndirect, Dispatch, DispatchIndirect, ClearBuffer, CopyBufferToBuffer}
use Rattle.records.specs.declared.command.Command.TheVariants.{SetIndexBuffer, BeginQuery, EndQuery, TimestampQuery, CopyQueryResults, ResetFramebuffer, BindAttachment}
use Rattle.records.specs.declared.command.Command.TheVariants.{ResolveAttachment, InvalidateAttachments, SetDrawColorBuffers, ClearColorF, ClearColorU, ClearColorI, ClearDepth}
use Rattle.records.specs.declared.command.Command.TheVariants.{ClearStencil, ClearDepthAndStencil, BufferBarrier, TextureBarrier, SetViewport, SetScissor, SetStencilFunc}
use Rattle.records.specs.declared.command.Command.TheVariants.{SetStencilOps, SetDepth, SetDepthBias, ConfigureDepthStencil, SetAlphaToCoverage, SetVertexAttribute}
use Rattle.records.specs.declared.command.Command.TheVariants.{UnsetVertexAttribute, SetVertexBuffer, SetProgram, SetPrimitive, SetBlendConstant, SetColorTarget, BindBuffer}
use Rattle.records.specs.declared.command.Command.TheVariants.{BindSampler, BindTexture, BindImage, PushDebugGroup, PopDebugGroup, SetImmediates, SetClipDistances}
use Rattle.machine.specs.View.{first}
use Rattle.machine.specs.Machine.{Gl, Shot, Machine, exec, play}
use Rattle.lists.specs.Shots.{settings_after, shot_of, shots_from}

-- the settings do not depend on the pass
pub sets-alone : (c : Command) (m : Machine) → (exec m c).gl ≡ settings_after m.gl c
sets-alone (Draw t fv vc fi ic l) m = refl
sets-alone (DrawIndexed t ty n o bv fi ic l) m = refl
sets-alone (DrawIndirect t raw o l) m = refl
sets-alone (DrawIndexedIndirect t ty raw o l) m = refl
sets-alone (Dispatch x y z) m = refl
sets-alone (DispatchIndirect raw o) m = refl
sets-alone (ClearBuffer raw t r) m = refl
sets-alone (CopyBufferToBuffer a b c d e) m = refl
sets-alone (SetIndexBuffer raw) m = refl
sets-alone (BeginQuery q t) m = refl
sets-alone (EndQuery t) m = refl
sets-alone (TimestampQuery q) m = refl
sets-alone (CopyQueryResults a b c d) m = refl
sets-alone (ResetFramebuffer d) m = refl
sets-alone (BindAttachment a v d s) m = refl
sets-alone (ResolveAttachment a v s) m = refl
sets-alone (InvalidateAttachments s) m = refl
sets-alone (SetDrawColorBuffers n) m = refl
sets-alone (ClearColorF n c) m = refl
sets-alone (ClearColorU n c) m = refl
sets-alone (ClearColorI n c) m = refl
sets-alone (ClearDepth d) m = refl
sets-alone (ClearStencil s) m = refl
sets-alone (ClearDepthAndStencil d s) m = refl
sets-alone (BufferBarrier b u) m = refl
sets-alone (TextureBarrier u) m = refl
sets-alone (SetViewport r d) m = refl
sets-alone (SetScissor r) m = refl
sets-alone (SetStencilFunc face f r k) m = refl
sets-alone (SetStencilOps face w o) m = refl
sets-alone (SetDepth d) m = refl
sets-alone (SetDepthBias d) m = refl
sets-alone (ConfigureDepthStencil a) m = refl
sets-alone (SetAlphaToCoverage a) m = refl
sets-alone (SetVertexAttribute b d a) m = refl
sets-alone (UnsetVertexAttribute l) m = refl
sets-alone (SetVertexBuffer i b d) m = refl
sets-alone (SetProgram p) m = refl
sets-alone (SetPrimitive p) m = refl
sets-alone (SetBlendConstant c) m = refl
sets-alone (SetColorTarget i t) m = refl
sets-alone (BindBuffer t i b o s) m = refl
sets-alone (BindSampler u s) m = refl
sets-alone (BindTexture i t ta a mips) m = refl
sets-alone (BindImage i x) m = refl
sets-alone (PushDebugGroup r) m = refl
sets-alone PopDebugGroup m = refl
sets-alone (SetImmediates d o) m = refl
sets-alone (SetClipDistances old n) m = refl

-- in the first pass a draw is noted
pub notes-first : (c : Command) (g : Gl) (l : List Shot) → (exec (record { stage = first; gl = g; shots = l }) c).shots ≡ l ++ shot_of g c
notes-first (Draw t fv vc fi ic x) g l = refl
notes-first (DrawIndexed t ty n o bv fi ic x) g l = refl
notes-first (DrawIndirect t raw o x) g l = refl
notes-first (DrawIndexedIndirect t ty raw o x) g l = refl
notes-first (Dispatch x y z) g l = sym (append-nil l)
notes-first (DispatchIndirect raw o) g l = sym (append-nil l)
notes-first (ClearBuffer raw t r) g l = sym (append-nil l)
notes-first (CopyBufferToBuffer a b c d e) g l = sym (append-nil l)
notes-first (SetIndexBuffer raw) g l = sym (append-nil l)
notes-first (BeginQuery q t) g l = sym (append-nil l)
notes-first (EndQuery t) g l = sym (append-nil l)
notes-first (TimestampQuery q) g l = sym (append-nil l)
notes-first (CopyQueryResults a b c d) g l = sym (append-nil l)
notes-first (ResetFramebuffer d) g l = sym (append-nil l)
notes-first (BindAttachment a v d s) g l = sym (append-nil l)
notes-first (ResolveAttachment a v s) g l = sym (append-nil l)
notes-first (InvalidateAttachments s) g l = sym (append-nil l)
notes-first (SetDrawColorBuffers n) g l = sym (append-nil l)
notes-first (ClearColorF n c) g l = sym (append-nil l)
notes-first (ClearColorU n c) g l = sym (append-nil l)
notes-first (ClearColorI n c) g l = sym (append-nil l)
notes-first (ClearDepth d) g l = sym (append-nil l)
notes-first (ClearStencil s) g l = sym (append-nil l)
notes-first (ClearDepthAndStencil d s) g l = sym (append-nil l)
notes-first (BufferBarrier b u) g l = sym (append-nil l)
notes-first (TextureBarrier u) g l = sym (append-nil l)
notes-first (SetViewport r d) g l = sym (append-nil l)
notes-first (SetScissor r) g l = sym (append-nil l)
notes-first (SetStencilFunc face f r k) g l = sym (append-nil l)
notes-first (SetStencilOps face w o) g l = sym (append-nil l)
notes-first (SetDepth d) g l = sym (append-nil l)
notes-first (SetDepthBias d) g l = sym (append-nil l)
notes-first (ConfigureDepthStencil a) g l = sym (append-nil l)
notes-first (SetAlphaToCoverage a) g l = sym (append-nil l)
notes-first (SetVertexAttribute b d a) g l = sym (append-nil l)
notes-first (UnsetVertexAttribute x) g l = sym (append-nil l)
notes-first (SetVertexBuffer i b d) g l = sym (append-nil l)
notes-first (SetProgram p) g l = sym (append-nil l)
notes-first (SetPrimitive p) g l = sym (append-nil l)
notes-first (SetBlendConstant c) g l = sym (append-nil l)
notes-first (SetColorTarget i t) g l = sym (append-nil l)
notes-first (BindBuffer t i b o s) g l = sym (append-nil l)
notes-first (BindSampler u s) g l = sym (append-nil l)
notes-first (BindTexture i t ta a mips) g l = sym (append-nil l)
notes-first (BindImage i x) g l = sym (append-nil l)
notes-first (PushDebugGroup r) g l = sym (append-nil l)
notes-first PopDebugGroup g l = sym (append-nil l)
notes-first (SetImmediates d o) g l = sym (append-nil l)
notes-first (SetClipDistances old n) g l = sym (append-nil l)

-- the draws of a list that goes on
pub shots-append : (xs ys : List Command) (m : Machine) → shots_from m.gl (xs ++ ys) ≡ shots_from m.gl xs ++ shots_from (play m xs).gl ys
unfolding shots_from
shots-append [] ys m = refl
shots-append (x ∷ xs) ys m =
    ap (λ (l : List Shot). shot_of m.gl x ++ l)
    (ap (λ (g : Gl). shots_from g (xs ++ ys)) (sym (sets-alone x m))
    ∙ shots-append xs ys (exec m x)
    ∙ ap (λ (g : Gl). shots_from g xs ++ shots_from (play (exec m x) xs).gl ys) (sets-alone x m))
    ∙ sym (append_assoc (shot_of m.gl x) (shots_from (settings_after m.gl x) xs) (shots_from (play (exec m x) xs).gl ys))
