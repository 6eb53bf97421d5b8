-- A list played whole: its settings do not depend on the pass, a machine that stays in its first pass notes all draws; and the draws that a list has more than the one
-- that it began with. Assumes nothing.
use Prim.Native.Nat.{ℕ, ◌+◌, ◌-◌}
use mathlib.Core.Path.{◌≡◌, refl, sym, ap, ap₂, ◌∙◌, subst}
use mathlib.Core.List.{List, [], ◌∷◌, ◌++◌, append_assoc, append-nil}
use mathlib.Core.Logic.{◌⊎◌, inl, inr}
use native.Mathlib.Omega.{arith}
use lib.ListN.{length, take, drop, length-append}
use lib.Seq.{take-append_seam, drop-append_seam}
use Rattle.records.specs.declared.command.Command.{Command}
use Rattle.records.specs.declared.command.Command.TheVariants.{Draw, DrawIndexed, DrawIndirect, DrawIndexedIndirect, Dispatch, DispatchIndirect, ClearBuffer, CopyBufferToBuffer}
use Rattle.records.specs.declared.command.Command.TheVariants.{SetIndexBuffer, BeginQuery, EndQuery, TimestampQuery, CopyQueryResults, ResetFramebuffer, BindAttachment}
use Rattle.records.specs.declared.command.Command.TheVariants.{ResolveAttachment, InvalidateAttachments, SetDrawColorBuffers, ClearColorF, ClearColorU, ClearColorI, ClearDepth}
use Rattle.records.specs.declared.command.Command.TheVariants.{ClearStencil, ClearDepthAndStencil, BufferBarrier, TextureBarrier, SetViewport, SetScissor, SetStencilFunc}
use Rattle.records.specs.declared.command.Command.TheVariants.{SetStencilOps, SetDepth, SetDepthBias, ConfigureDepthStencil, SetAlphaToCoverage, SetVertexAttribute}
use Rattle.records.specs.declared.command.Command.TheVariants.{UnsetVertexAttribute, SetVertexBuffer, SetProgram, SetPrimitive, SetBlendConstant, SetColorTarget, BindBuffer}
use Rattle.records.specs.declared.command.Command.TheVariants.{BindSampler, BindTexture, BindImage, PushDebugGroup, PopDebugGroup, SetImmediates, SetClipDistances}
use Rattle.machine.specs.View.{Stage, first, later}
use Rattle.machine.specs.Machine.{Gl, Shot, Machine, fresh, onward, exec, play}
use Rattle.lists.specs.Shots.{settings_after, shot_of, shots_from}
use Rattle.lists.proofs.Played.{sets-alone, notes-first, shots-append}
use Rattle.later_passes.specs.Claim.{draws_of, added}
use Rattle.later_passes.proofs.Grows.{not_first}

-- ---- the pass that a machine is in
stage-steps : (c : Command) (m : Machine) → ((exec m c).stage ≡ m.stage) ⊎ ((exec m c).stage ≡ onward m.stage)
stage-steps (Draw t fv vc fi ic l) m = inl refl
stage-steps (DrawIndexed t ty n o bv fi ic l) m = inl refl
stage-steps (DrawIndirect t raw o l) m = inl refl
stage-steps (DrawIndexedIndirect t ty raw o l) m = inl refl
stage-steps (Dispatch x y z) m = inl refl
stage-steps (DispatchIndirect raw o) m = inl refl
stage-steps (ClearBuffer raw t r) m = inl refl
stage-steps (CopyBufferToBuffer a b c d e) m = inl refl
stage-steps (SetIndexBuffer raw) m = inl refl
stage-steps (BeginQuery q t) m = inl refl
stage-steps (EndQuery t) m = inl refl
stage-steps (TimestampQuery q) m = inl refl
stage-steps (CopyQueryResults a b c d) m = inl refl
stage-steps (ResetFramebuffer d) m = inr refl
stage-steps (BindAttachment a v d s) m = inl refl
stage-steps (ResolveAttachment a v s) m = inl refl
stage-steps (InvalidateAttachments s) m = inl refl
stage-steps (SetDrawColorBuffers n) m = inl refl
stage-steps (ClearColorF n c) m = inl refl
stage-steps (ClearColorU n c) m = inl refl
stage-steps (ClearColorI n c) m = inl refl
stage-steps (ClearDepth d) m = inl refl
stage-steps (ClearStencil s) m = inl refl
stage-steps (ClearDepthAndStencil d s) m = inl refl
stage-steps (BufferBarrier b u) m = inl refl
stage-steps (TextureBarrier u) m = inl refl
stage-steps (SetViewport r d) m = inl refl
stage-steps (SetScissor r) m = inl refl
stage-steps (SetStencilFunc face f r k) m = inl refl
stage-steps (SetStencilOps face w o) m = inl refl
stage-steps (SetDepth d) m = inl refl
stage-steps (SetDepthBias d) m = inl refl
stage-steps (ConfigureDepthStencil a) m = inl refl
stage-steps (SetAlphaToCoverage a) m = inl refl
stage-steps (SetVertexAttribute b d a) m = inl refl
stage-steps (UnsetVertexAttribute l) m = inl refl
stage-steps (SetVertexBuffer i b d) m = inl refl
stage-steps (SetProgram p) m = inl refl
stage-steps (SetPrimitive p) m = inl refl
stage-steps (SetBlendConstant c) m = inl refl
stage-steps (SetColorTarget i t) m = inl refl
stage-steps (BindBuffer t i b o s) m = inl refl
stage-steps (BindSampler u s) m = inl refl
stage-steps (BindTexture i t ta a mips) m = inl refl
stage-steps (BindImage i x) m = inl refl
stage-steps (PushDebugGroup r) m = inl refl
stage-steps PopDebugGroup m = inl refl
stage-steps (SetImmediates d o) m = inl refl
stage-steps (SetClipDistances old n) m = inl refl

later-stays : (cs : List Command) (m : Machine) → m.stage ≡ later → (play m cs).stage ≡ later
later-stays [] m e = e
later-stays (c ∷ cs) m e = later-stays cs (exec m c) (go (stage-steps c m))
  where
    go : ((exec m c).stage ≡ m.stage) ⊎ ((exec m c).stage ≡ onward m.stage) → (exec m c).stage ≡ later
    go (inl q) = q ∙ e
    go (inr q) = q ∙ ap onward e

-- a machine that is in its first pass before and after has noted all draws
pub first-noted : (cs : List Command) (m : Machine) → m.stage ≡ first → (play m cs).stage ≡ first → (play m cs).shots ≡ m.shots ++ shots_from m.gl cs
unfolding shots_from
first-noted [] m e f = sym (append-nil m.shots)
first-noted (c ∷ cs) m e f = go (λ q. first-noted cs (exec m c) (q ∙ e) f) (stage-steps c m)
  where
    noted : (exec m c).shots ≡ m.shots ++ shot_of m.gl c
    noted =
        subst (λ (s : Stage). (exec (record { stage = s; gl = m.gl; shots = m.shots }) c).shots ≡ m.shots ++ shot_of m.gl c) (sym e)
        (notes-first c m.gl m.shots)

    go : ((exec m c).stage ≡ m.stage → (play (exec m c) cs).shots ≡ (exec m c).shots ++ shots_from (exec m c).gl cs) → ((exec m c).stage ≡ m.stage) ⊎ ((exec m c).stage ≡ onward m.stage)
        → (play (exec m c) cs).shots ≡ m.shots ++ (shot_of m.gl c ++ shots_from (settings_after m.gl c) cs)
    go k (inl q) =
        k q
        ∙ ap₂ (λ (l : List Shot) (g : Gl). l ++ shots_from g cs) noted (sets-alone c m)
        ∙ append_assoc m.shots (shot_of m.gl c) (shots_from (settings_after m.gl c) cs)
    go k (inr q) = absurd (not_first (sym (later-stays cs (exec m c) (q ∙ ap onward e)) ∙ f))

-- ---- its settings
pub settings-same : (cs : List Command) (m n : Machine) → m.gl ≡ n.gl → (play m cs).gl ≡ (play n cs).gl
settings-same [] m n e = e
settings-same (c ∷ cs) m n e = settings-same cs (exec m c) (exec n c) (sets-alone c m ∙ ap (λ (g : Gl). settings_after g c) e ∙ sym (sets-alone c n))

-- ---- draws that were added
between : {A : Type 0} (d x y : List A) → take (length (d ++ x) - length d) (drop (length d) ((d ++ x) ++ y)) ≡ x
between {A} d x y =
    ap₂ (λ (n : ℕ) (l : List A). take n l) (ap (λ (k : ℕ). k - length d) (length-append d x) ∙ less (length d) (length x)) (ap (drop (length d)) (append_assoc d x y) ∙ drop-append_seam d (x ++ y))
    ∙ take-append_seam x y
  where
    less : (a b : ℕ) → a + b - a ≡ b
    less a b = omega arith

-- the list from has xs more at to, and the whole list ys more: "each list played whole", the draws of xs find what they find there
module _ (from to whole xs ys : List Command) (e : to ≡ from ++ xs) (f : whole ≡ to ++ ys) where
  grew : draws_of to ≡ draws_of from ++ shots_from (play fresh from).gl xs
  grew = ap draws_of e ∙ shots-append from xs fresh

  all : draws_of whole ≡ draws_of from ++ shots_from (play fresh from).gl xs ++ shots_from (play fresh to).gl ys
  all = ap draws_of f ∙ shots-append to ys fresh ∙ ap (λ (l : List Shot). l ++ shots_from (play fresh to).gl ys) grew

  pub added_is : added from to whole ≡ shots_from (play fresh from).gl xs
  added_is =
      ap₂ (λ (a b : List Shot). take (length a - length (draws_of from)) (drop (length (draws_of from)) b)) grew all
      ∙ between (draws_of from) (shots_from (play fresh from).gl xs) (shots_from (play fresh to).gl ys)

  pub added-stands : draws_of whole ≡ draws_of from ++ added from to whole ++ shots_from (play fresh to).gl ys
  added-stands = all ∙ ap (λ (l : List Shot). draws_of from ++ l ++ shots_from (play fresh to).gl ys) (sym added_is)
