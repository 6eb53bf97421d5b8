-- The blend constants that the code keeps are those of the machine, and values of their type. Assumes nothing.
use Prim.Native.Nat.{ℕ, suc, min}
use mathlib.Core.Path.{◌≡◌, refl, sym, ap, ◌∙◌, subst}
use mathlib.Core.List.{List, [], ◌∷◌}
use lib.ListN.{length, take, drop, length-take, take-append-drop}
use lib.Seq.{take-append_seam}
use Rattle.records.specs.declared.command.ColorF32.{ColorF32}
use Rattle.records.specs.declared.command.Command.{Command}
use Rattle.records.specs.declared.command.Command.TheVariants.{Draw, DrawIndexed, DrawIndirect, DrawIndexedIndirect, Dispatch, DispatchIndirect, ClearBuffer, CopyBufferToBuffer}
use Rattle.records.specs.declared.command.Command.TheVariants.{SetIndexBuffer, BeginQuery, EndQuery, TimestampQuery, CopyQueryResults, ResetFramebuffer, BindAttachment}
use Rattle.records.specs.declared.command.Command.TheVariants.{ResolveAttachment, InvalidateAttachments, SetDrawColorBuffers, ClearColorF, ClearColorU, ClearColorI, ClearDepth}
use Rattle.records.specs.declared.command.Command.TheVariants.{ClearStencil, ClearDepthAndStencil, BufferBarrier, TextureBarrier, SetViewport, SetScissor, SetStencilFunc}
use Rattle.records.specs.declared.command.Command.TheVariants.{SetStencilOps, SetDepth, SetDepthBias, ConfigureDepthStencil, SetAlphaToCoverage, SetVertexAttribute}
use Rattle.records.specs.declared.command.Command.TheVariants.{UnsetVertexAttribute, SetVertexBuffer, SetProgram, SetPrimitive, SetBlendConstant, SetColorTarget, BindBuffer}
use Rattle.records.specs.declared.command.Command.TheVariants.{BindSampler, BindTexture, BindImage, PushDebugGroup, PopDebugGroup, SetImmediates, SetClipDistances}
use Rattle.std.specs.Prelude.{None, Some}
use Rattle.records.specs.declared.command.Record.{Record}
use Rattle.machine.specs.Machine.{Gl, fresh_gl}
use Rattle.list_walks.specs.Fold.{fold_at}
use Rattle.lists.specs.Class.{commands_of}
use Rattle.lists.specs.Shots.{settings_after, settings}
use Rattle.joining.specs.declared.ending.Ending.{Ending}
use Rattle.joining.specs.declared.plan.Asked.{Asked}
use Rattle.joining.specs.declared.plan.Looked.{Looked}
use Rattle.joining.specs.Joined.{end_of, Floats}
use Rattle.joining.specs.Ending.{ending_after}
use Rattle.joining.specs.Plan.{look_record, first_look, to_first, looked_of}

blend-step : (c : Command) (e : Ending) (g : Gl) → e.blend ≡ g.screen.blend → (ending_after e c).blend ≡ (settings_after g c).screen.blend
blend-step (Draw t fv vc fi ic l) e g h = h
blend-step (DrawIndexed t ty n o bv fi ic l) e g h = h
blend-step (DrawIndirect t raw o l) e g h = h
blend-step (DrawIndexedIndirect t ty raw o l) e g h = h
blend-step (Dispatch a b c) e g h = h
blend-step (DispatchIndirect raw o) e g h = h
blend-step (ClearBuffer raw t r) e g h = h
blend-step (CopyBufferToBuffer a b c d o) e g h = h
blend-step (SetIndexBuffer raw) e g h = h
blend-step (BeginQuery q t) e g h = h
blend-step (EndQuery t) e g h = h
blend-step (TimestampQuery q) e g h = h
blend-step (CopyQueryResults r dst t o) e g h = h
blend-step (ResetFramebuffer d) e g h = h
blend-step (BindAttachment a v d s) e g h = h
blend-step (ResolveAttachment a v s) e g h = h
blend-step (InvalidateAttachments s) e g h = h
blend-step (SetDrawColorBuffers n) e g h = h
blend-step (ClearColorF n c) e g h = h
blend-step (ClearColorU n c) e g h = h
blend-step (ClearColorI n c) e g h = h
blend-step (ClearDepth d) e g h = h
blend-step (ClearStencil s) e g h = h
blend-step (ClearDepthAndStencil d s) e g h = h
blend-step (BufferBarrier b u) e g h = h
blend-step (TextureBarrier u) e g h = h
blend-step (SetViewport r d) e g h = h
blend-step (SetScissor r) e g h = h
blend-step (SetStencilFunc at f r n) e g h = h
blend-step (SetStencilOps at x o) e g h = h
blend-step (SetDepth d) e g h = h
blend-step (SetDepthBias d) e g h = h
blend-step (ConfigureDepthStencil a) e g h = h
blend-step (SetAlphaToCoverage a) e g h = h
blend-step (SetVertexAttribute b d a) e g h = h
blend-step (UnsetVertexAttribute l) e g h = h
blend-step (SetVertexBuffer i b d) e g h = h
blend-step (SetProgram p) e g h = h
blend-step (SetPrimitive p) e g h = h
blend-step (SetBlendConstant c) e g h = refl
blend-step (SetColorTarget None t) e g h = h
blend-step (SetColorTarget (Some i) t) e g h = h
blend-step (BindBuffer ta i b o s) e g h = h
blend-step (BindSampler u s) e g h = h
blend-step (BindTexture i te ta a mips) e g h = h
blend-step (BindImage i x) e g h = h
blend-step (PushDebugGroup r) e g h = h
blend-step PopDebugGroup e g h = h
blend-step (SetImmediates d o) e g h = h
blend-step (SetClipDistances old n) e g h = h

blend-along : (xs : List Record) (i : ℕ) (l : Looked) (g : Gl) → l.ending.blend ≡ g.screen.blend → (fold_at look_record l i xs).ending.blend ≡ (settings g (commands_of xs)).screen.blend
unfolding fold_at settings
blend-along [] i l g h = h
blend-along (x ∷ xs) i l g h = blend-along xs (suc i) (look_record l i x) (settings_after g x.command) (blend-step x.command l.ending g h)

pub taken : (n : ℕ) (l : List Record) → take (min n (length l)) l ≡ take n l
taken n l = ap (λ (m : ℕ). take m l) (sym (length-take n l)) ∙ ap (take (length (take n l))) (sym (take-append-drop n l)) ∙ take-append_seam (take n l) (drop n l)

-- at the first list's end
pub floats-lent : (l : List Record) (x : Asked) → Floats (looked_of l x).ending.blend → Floats (end_of (commands_of (take x.used.commands l))).screen.blend
floats-lent l x f =
    subst (λ (c : ColorF32). Floats c)
    (blend-along (take (to_first x (length l)) l) 0 (first_look x (length l)) fresh_gl refl ∙ ap (λ (k : List Record). (end_of (commands_of k)).screen.blend) (taken x.used.commands l)) f
