-- Each draw of a lent run finds blend constants that are `f32`s: the fresh machine's are, and a record holds no others. Assumes nothing.
use mathlib.Core.Path.{◌≡◌, refl, sym, subst}
use mathlib.Core.Bool.{Bool, true, false}
use mathlib.Core.List.{List, [], ◌∷◌}
use lib.Ieee.{fits, of_bits}
use lib.ListN.{take}
use Prim.Native.Nat.{ℕ, zero, suc}
use denote.Floats.{passes}
use Rattle.walks.proofs.Args.{of_struct}
use Rattle.list_walks.proofs.Elements.{Element, Good, Goods}
use Rattle.records.specs.declared.command.ColorF32.{ColorF32}
use Rattle.records.specs.contracts.command.Record as R
use Rattle.records.proofs.command.Record.TheLaws as R'
use Rattle.records.specs.declared.command.Command.{Command}
use Rattle.records.specs.declared.command.Command.TheVariants.{Draw, DrawIndexed, DrawIndirect, DrawIndexedIndirect, Dispatch, DispatchIndirect, ClearBuffer, CopyBufferToBuffer}
use Rattle.records.specs.declared.command.Command.TheVariants.{SetIndexBuffer, BeginQuery, EndQuery, TimestampQuery, CopyQueryResults, ResetFramebuffer, BindAttachment}
use Rattle.records.specs.declared.command.Command.TheVariants.{ResolveAttachment, InvalidateAttachments, SetDrawColorBuffers, ClearColorF, ClearColorU, ClearColorI, ClearDepth}
use Rattle.records.specs.declared.command.Command.TheVariants.{ClearStencil, ClearDepthAndStencil, BufferBarrier, TextureBarrier, SetViewport, SetScissor, SetStencilFunc}
use Rattle.records.specs.declared.command.Command.TheVariants.{SetStencilOps, SetDepth, SetDepthBias, ConfigureDepthStencil, SetAlphaToCoverage, SetVertexAttribute}
use Rattle.records.specs.declared.command.Command.TheVariants.{UnsetVertexAttribute, SetVertexBuffer, SetProgram, SetPrimitive, SetBlendConstant, SetColorTarget, BindBuffer}
use Rattle.records.specs.declared.command.Command.TheVariants.{BindSampler, BindTexture, BindImage, PushDebugGroup, PopDebugGroup, SetImmediates, SetClipDistances}
use Rattle.records.specs.declared.command.Record.{Record}
use Rattle.machine.specs.Each.{Each}
use Rattle.machine.specs.Machine.{Gl, fresh_gl}
use Rattle.lists.specs.declared.limits.Used.{Used}
use Rattle.lists.specs.Class.{class_of, draws, commands_of}
use Rattle.lists.specs.Floats.{SetsF32, AreF32}
use Rattle.lists.specs.Limits.{handed}
use Rattle.lists.specs.Shots.{settings_after, shots_from}
use Rattle.boards.specs.Remains.{IsF32, OfEach, OfConstants, FindsF32}
use Rattle.boards.proofs.Drawn.{at-draw, at_other}

abbrev Fits : Gl → Type 0
Fits g = OfEach IsF32 g.screen.blend

fresh-fits : Fits fresh_gl
unfolding fits of_bits
fresh-fits = (tt, tt, tt, tt)

after-fits : (c : Command) (g : Gl) → SetsF32 c → Fits g → Fits (settings_after g c)
after-fits (Draw t fv vc fi ic l) g e f = f
after-fits (DrawIndexed t ty n o bv fi ic l) g e f = f
after-fits (DrawIndirect t raw o l) g e f = f
after-fits (DrawIndexedIndirect t ty raw o l) g e f = f
after-fits (Dispatch x y z) g e f = f
after-fits (DispatchIndirect raw o) g e f = f
after-fits (ClearBuffer raw t r) g e f = f
after-fits (CopyBufferToBuffer a b d z n) g e f = f
after-fits (SetIndexBuffer raw) g e f = f
after-fits (BeginQuery q t) g e f = f
after-fits (EndQuery t) g e f = f
after-fits (TimestampQuery q) g e f = f
after-fits (CopyQueryResults r d t o) g e f = f
after-fits (ResetFramebuffer d) g e f = f
after-fits (BindAttachment a v d n) g e f = f
after-fits (ResolveAttachment a v n) g e f = f
after-fits (InvalidateAttachments n) g e f = f
after-fits (SetDrawColorBuffers n) g e f = f
after-fits (ClearColorF n x) g e f = f
after-fits (ClearColorU n x) g e f = f
after-fits (ClearColorI n x) g e f = f
after-fits (ClearDepth d) g e f = f
after-fits (ClearStencil n) g e f = f
after-fits (ClearDepthAndStencil d n) g e f = f
after-fits (BufferBarrier b k) g e f = f
after-fits (TextureBarrier k) g e f = f
after-fits (SetViewport r d) g e f = f
after-fits (SetScissor r) g e f = f
after-fits (SetStencilFunc face func r k) g e f = f
after-fits (SetStencilOps face w o) g e f = f
after-fits (SetDepth d) g e f = f
after-fits (SetDepthBias d) g e f = f
after-fits (ConfigureDepthStencil a) g e f = f
after-fits (SetAlphaToCoverage a) g e f = f
after-fits (SetVertexAttribute b d a) g e f = f
after-fits (UnsetVertexAttribute l) g e f = f
after-fits (SetVertexBuffer i b d) g e f = f
after-fits (SetProgram p) g e f = f
after-fits (SetPrimitive p) g e f = f
after-fits (SetBlendConstant x) g e f = e x refl
after-fits (SetColorTarget i t) g e f = f
after-fits (BindBuffer t i b o n) g e f = f
after-fits (BindSampler i x) g e f = f
after-fits (BindTexture i t ta a mips) g e f = f
after-fits (BindImage i x) g e f = f
after-fits (PushDebugGroup r) g e f = f
after-fits PopDebugGroup g e f = f
after-fits (SetImmediates d o) g e f = f
after-fits (SetClipDistances old n) g e f = f

draws-fit : (cs : List Command) (g : Gl) → Each SetsF32 cs → Fits g → OfConstants IsF32 (shots_from g cs)
unfolding shots_from
draws-fit [] g e f = tt
draws-fit (c ∷ cs) g e f = go (draws (class_of c)) refl (draws-fit cs (settings_after g c) e.1 (after-fits c g e.0 f))
  where
    go : (t : Bool) → draws (class_of c) ≡ t → OfConstants IsF32 (shots_from (settings_after g c) cs) → OfConstants IsF32 (shots_from g (c ∷ cs))
    go true h rest =
        let a = at-draw g c cs h in
        subst (OfConstants IsF32) (sym a.2) (subst Fits (sym a.1) f, rest)
    go false h rest = subst (OfConstants IsF32) (sym (at_other g c cs h)) rest

-- where the commands set no others
pub sets-find-f32 : (l : List Record) (u : Used) → Each SetsF32 (handed l u).commands → FindsF32 (handed l u)
sets-find-f32 l u e = draws-fit (handed l u).commands fresh_gl e fresh-fits

-- ---- a list in memory, each record of its type, sets no others
-- a record and its size in bytes
abbrev pub element : Element
element = record { R = of_struct R.the_type R'.the_laws R'.the_plain R'.the_copy R'.mir refl; bytes = 56; bytes_is = refl; bytes_fit = tt }

-- what a record with blend constants is made of: its command, the variant's one field, and the four floats of that
color-fits : (x : ColorF32) → Good element.R (record { command = SetBlendConstant x }) → AreF32 x
color-fits x e =
    let color = e.1.1.0.1.1.1.1.0.1.1 in
    (passes _ color.0.1, passes _ color.1.0.1, passes _ color.1.1.0.1, passes _ color.1.1.1.0.1)

good-sets : (x : Record) → Good element.R x → SetsF32 x.command
good-sets x e y is = color-fits y (subst (λ (c : Command). Good element.R (record { command = c })) is e)

goods-set : (n : ℕ) (l : List Record) → Goods element.R l → Each SetsF32 (commands_of (take n l))
goods-set zero l e = tt
goods-set (suc n) [] e = tt
goods-set (suc n) (x ∷ l) e = (good-sets x e.0, goods-set n l e.1)

pub finds-f32 : (l : List Record) (u : Used) → Goods element.R l → FindsF32 (handed l u)
finds-f32 l u e = sets-find-f32 l u (goods-set u.commands l e)
