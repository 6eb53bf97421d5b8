-- The machine and a list's draws: what it notes in its first render pass are the draws of the list, where each is made there. Assumes nothing.
use mathlib.Core.Path.{◌≡◌, refl, sym, ap, ap₂, ◌∙◌, subst}
use mathlib.Core.Bool.{true≢false, false}
use mathlib.Core.List.{List, [], ◌∷◌, ◌++◌, append_assoc, append-nil}
use Rattle.records.specs.declared.command.Command.{Command}
use Rattle.records.specs.declared.command.Command.TheVariants.{Draw, DrawIndexed, DrawIndirect, DrawIndexedIndirect, Dispatch, DispatchIndirect, ClearBuffer, CopyBufferToBuffer}
use Rattle.records.specs.declared.command.Command.TheVariants.{SetIndexBuffer, BeginQuery, EndQuery, TimestampQuery, CopyQueryResults, ResetFramebuffer, BindAttachment}
use Rattle.records.specs.declared.command.Command.TheVariants.{ResolveAttachment, InvalidateAttachments, SetDrawColorBuffers, ClearColorF, ClearColorU, ClearColorI, ClearDepth}
use Rattle.records.specs.declared.command.Command.TheVariants.{ClearStencil, ClearDepthAndStencil, BufferBarrier, TextureBarrier, SetViewport, SetScissor, SetStencilFunc}
use Rattle.records.specs.declared.command.Command.TheVariants.{SetStencilOps, SetDepth, SetDepthBias, ConfigureDepthStencil, SetAlphaToCoverage, SetVertexAttribute}
use Rattle.records.specs.declared.command.Command.TheVariants.{UnsetVertexAttribute, SetVertexBuffer, SetProgram, SetPrimitive, SetBlendConstant, SetColorTarget, BindBuffer}
use Rattle.records.specs.declared.command.Command.TheVariants.{BindSampler, BindTexture, BindImage, PushDebugGroup, PopDebugGroup, SetImmediates, SetClipDistances}
use Rattle.machine.specs.Each.{Each}
use Rattle.machine.specs.View.{Stage, first}
use Rattle.machine.specs.Machine.{Gl, Shot, Machine, fresh_gl, fresh, exec, play}
use Rattle.machine.proofs.Sweep.{play-append}
use Rattle.lists.specs.Class.{class_of, draws}
use Rattle.lists.specs.Shots.{noting, settings_after, shot_of, shots_from}
use Rattle.lists.proofs.Kept.{keeps-shots}
use Rattle.lists.proofs.Played.{sets-alone, notes-first, shots-append}
use Rattle.recorded.proofs.Good.{resets}

-- ---- one command
-- only a reset begins a pass
keeps-stage : (c : Command) (m : Machine) → resets (class_of c) ≡ false → (exec m c).stage ≡ m.stage
keeps-stage (Draw t fv vc fi ic l) m h = refl
keeps-stage (DrawIndexed t ty n o bv fi ic l) m h = refl
keeps-stage (DrawIndirect t raw o l) m h = refl
keeps-stage (DrawIndexedIndirect t ty raw o l) m h = refl
keeps-stage (Dispatch x y z) m h = refl
keeps-stage (DispatchIndirect raw o) m h = refl
keeps-stage (ClearBuffer raw t r) m h = refl
keeps-stage (CopyBufferToBuffer a b c d e) m h = refl
keeps-stage (SetIndexBuffer raw) m h = refl
keeps-stage (BeginQuery q t) m h = refl
keeps-stage (EndQuery t) m h = refl
keeps-stage (TimestampQuery q) m h = refl
keeps-stage (CopyQueryResults a b c d) m h = refl
keeps-stage (ResetFramebuffer d) m h = absurd (true≢false h)
keeps-stage (BindAttachment a v d s) m h = refl
keeps-stage (ResolveAttachment a v s) m h = refl
keeps-stage (InvalidateAttachments s) m h = refl
keeps-stage (SetDrawColorBuffers n) m h = refl
keeps-stage (ClearColorF n c) m h = refl
keeps-stage (ClearColorU n c) m h = refl
keeps-stage (ClearColorI n c) m h = refl
keeps-stage (ClearDepth d) m h = refl
keeps-stage (ClearStencil s) m h = refl
keeps-stage (ClearDepthAndStencil d s) m h = refl
keeps-stage (BufferBarrier b u) m h = refl
keeps-stage (TextureBarrier u) m h = refl
keeps-stage (SetViewport r d) m h = refl
keeps-stage (SetScissor r) m h = refl
keeps-stage (SetStencilFunc face f r k) m h = refl
keeps-stage (SetStencilOps face w o) m h = refl
keeps-stage (SetDepth d) m h = refl
keeps-stage (SetDepthBias d) m h = refl
keeps-stage (ConfigureDepthStencil a) m h = refl
keeps-stage (SetAlphaToCoverage a) m h = refl
keeps-stage (SetVertexAttribute b d a) m h = refl
keeps-stage (UnsetVertexAttribute l) m h = refl
keeps-stage (SetVertexBuffer i b d) m h = refl
keeps-stage (SetProgram p) m h = refl
keeps-stage (SetPrimitive p) m h = refl
keeps-stage (SetBlendConstant c) m h = refl
keeps-stage (SetColorTarget i t) m h = refl
keeps-stage (BindBuffer t i b o s) m h = refl
keeps-stage (BindSampler u s) m h = refl
keeps-stage (BindTexture i t ta a mips) m h = refl
keeps-stage (BindImage i x) m h = refl
keeps-stage (PushDebugGroup r) m h = refl
keeps-stage PopDebugGroup m h = refl
keeps-stage (SetImmediates d o) m h = refl
keeps-stage (SetClipDistances old n) m h = refl

-- ---- a list
abbrev pub Calm : Command → Type 0
Calm c = draws (class_of c) ≡ false

abbrev pub Stays : Command → Type 0
Stays c = resets (class_of c) ≡ false

-- where no command draws there is no draw, and none is noted
calm-shots : (cs : List Command) (g : Gl) → Each Calm cs → shots_from g cs ≡ []
unfolding shots_from
calm-shots [] g h = refl
calm-shots (c ∷ cs) g h = ap₂ (λ (a b : List Shot). a ++ b) (keeps-shots c (noting g) h.0) (calm-shots cs (settings_after g c) h.1)

calm-played : (cs : List Command) (m : Machine) → Each Calm cs → (play m cs).shots ≡ m.shots
calm-played [] m h = refl
calm-played (c ∷ cs) m h = calm-played cs (exec m c) h.1 ∙ keeps-shots c m h.0

-- where the list stays in the first pass all its draws are noted
first-played : (cs : List Command) (m : Machine) → m.stage ≡ first → Each Stays cs → (play m cs).shots ≡ m.shots ++ shots_from m.gl cs
unfolding shots_from
first-played [] m e h = sym (append-nil m.shots)
first-played (c ∷ cs) m e h =
    first-played cs (exec m c) (keeps-stage c m h.0 ∙ e) h.1
    ∙ ap₂ (λ (l : List Shot) (g : Gl). l ++ shots_from g cs) noted (sets-alone c m)
    ∙ append_assoc m.shots (shot_of m.gl c) (shots_from (settings_after m.gl c) cs)
  where
    noted : (exec m c).shots ≡ m.shots ++ shot_of m.gl c
    noted =
        subst (λ (s : Stage). (exec (record { stage = s; gl = m.gl; shots = m.shots }) c).shots ≡ m.shots ++ shot_of m.gl c) (sym e)
        (notes-first c m.gl m.shots)

-- ---- a list from its beginning: all its draws are noted
abbrev pub AllNoted : List Command → Type 0
AllNoted l = shots_from fresh_gl l ≡ (play fresh l).shots

pub noted-empty : AllNoted []
unfolding shots_from
noted-empty = refl

pub noted-calm : (l cs : List Command) → AllNoted l → Each Calm cs → AllNoted (l ++ cs)
noted-calm l cs w h =
    shots-append l cs fresh
    ∙ ap (λ (x : List Shot). shots_from fresh_gl l ++ x) (calm-shots cs (play fresh l).gl h)
    ∙ append-nil (shots_from fresh_gl l)
    ∙ w
    ∙ sym (ap (λ (m : Machine). m.shots) (play-append fresh l cs) ∙ calm-played cs (play fresh l) h)

pub noted-first : (l cs : List Command) → AllNoted l → (play fresh l).stage ≡ first → Each Stays cs → AllNoted (l ++ cs)
noted-first l cs w e h =
    shots-append l cs fresh
    ∙ ap (λ (x : List Shot). x ++ shots_from (play fresh l).gl cs) w
    ∙ sym (ap (λ (m : Machine). m.shots) (play-append fresh l cs) ∙ first-played cs (play fresh l) e h)
