-- Of a command that is in range: its slot or unit has a place in a mask, and it is no blank. Assumes nothing.
use Prim.Native.Nat.{ℕ, ◌+◌, ◌<◌}
use native.Mathlib.Omega.{arith}
use mathlib.Core.Path.{◌≡◌, refl, ◌∙◌, ap}
use mathlib.Core.Bool.{true, false, not, ◌||◌}
use mathlib.Core.List.{List, [], ◌∷◌}
use lib.Dec.{leb, ltb, lit<}
use borrow.Author.Tests.{leb-false}
use Rattle.records.specs.Check.{some?}
use Rattle.records.specs.declared.command.Command.{Command}
use Rattle.records.specs.declared.command.Command.TheVariants.{Draw, DrawIndexed, DrawIndirect, DrawIndexedIndirect, Dispatch, DispatchIndirect, ClearBuffer, CopyBufferToBuffer}
use Rattle.records.specs.declared.command.Command.TheVariants.{SetIndexBuffer, BeginQuery, EndQuery, TimestampQuery, CopyQueryResults, ResetFramebuffer, BindAttachment}
use Rattle.records.specs.declared.command.Command.TheVariants.{ResolveAttachment, InvalidateAttachments, SetDrawColorBuffers, ClearColorF, ClearColorU, ClearColorI, ClearDepth}
use Rattle.records.specs.declared.command.Command.TheVariants.{ClearStencil, ClearDepthAndStencil, BufferBarrier, TextureBarrier, SetViewport, SetScissor, SetStencilFunc}
use Rattle.records.specs.declared.command.Command.TheVariants.{SetStencilOps, SetDepth, SetDepthBias, ConfigureDepthStencil, SetAlphaToCoverage, SetVertexAttribute}
use Rattle.records.specs.declared.command.Command.TheVariants.{UnsetVertexAttribute, SetVertexBuffer, SetProgram, SetPrimitive, SetBlendConstant, SetColorTarget, BindBuffer}
use Rattle.records.specs.declared.command.Command.TheVariants.{BindSampler, BindTexture, BindImage, PushDebugGroup, PopDebugGroup, SetImmediates, SetClipDistances}
use Rattle.std.specs.Prelude.{None, Some}
use Rattle.machine.specs.Each.{Each}
use Rattle.machine.proofs.Lists.{or_left, or_right}
use Rattle.lists.specs.declared.limits.Used.{Used}
use Rattle.lists.specs.Class.{class_of}
use Rattle.lists.specs.Limits.{reversed, breaks}
use Rattle.superseding.specs.declared.seen.Mark.{Mark}
use Rattle.superseding.specs.declared.seen.Mark.TheVariants.{VertexBuffer, Sampler, Single, Nothing}
use Rattle.superseding.specs.Seen.{mark_of, stays_of}
use Rattle.superseding.specs.Treated.{record_of}

abbrev pub Low : Mark → Type 0
Low (VertexBuffer i) = i < 32
Low (Sampler u) = u < 32
Low (Single k) = k < 32
Low Nothing = Unit {0}

below : (i : ℕ) → leb 16 i ≡ false → i < 32
below i h = omega (arith, leb-false 16 i h)

low_of : (u : Used) (c : Command) → (breaks u c).range ≡ false → Low (mark_of (class_of c))
low_of u (Draw t fv vc fi ic l) h = tt
low_of u (DrawIndexed t ty n o bv fi ic l) h = tt
low_of u (DrawIndirect t raw o l) h = tt
low_of u (DrawIndexedIndirect t ty raw o l) h = tt
low_of u (Dispatch x y z) h = tt
low_of u (DispatchIndirect raw o) h = tt
low_of u (ClearBuffer raw t r) h = tt
low_of u (CopyBufferToBuffer a b c d e) h = tt
low_of u (SetIndexBuffer raw) h = lit< tt
low_of u (BeginQuery q t) h = tt
low_of u (EndQuery t) h = tt
low_of u (TimestampQuery q) h = tt
low_of u (CopyQueryResults r d t o) h = tt
low_of u (ResetFramebuffer d) h = tt
low_of u (BindAttachment a v d n) h = tt
low_of u (ResolveAttachment a v n) h = tt
low_of u (InvalidateAttachments n) h = tt
low_of u (SetDrawColorBuffers n) h = tt
low_of u (ClearColorF n c) h = tt
low_of u (ClearColorU n c) h = tt
low_of u (ClearColorI n c) h = tt
low_of u (ClearDepth d) h = tt
low_of u (ClearStencil n) h = tt
low_of u (ClearDepthAndStencil d n) h = tt
low_of u (BufferBarrier b k) h = tt
low_of u (TextureBarrier k) h = tt
low_of u (SetViewport r d) h = lit< tt
low_of u (SetScissor r) h = lit< tt
low_of u (SetStencilFunc face f r k) h = tt
low_of u (SetStencilOps face w o) h = tt
low_of u (SetDepth d) h = tt
low_of u (SetDepthBias d) h = lit< tt
low_of u (ConfigureDepthStencil a) h = tt
low_of u (SetAlphaToCoverage a) h = tt
low_of u (SetVertexAttribute b d a) h = tt
low_of u (UnsetVertexAttribute l) h = tt
low_of u (SetVertexBuffer i b d) h = below i h
low_of u (SetProgram p) h = tt
low_of u (SetPrimitive p) h = tt
low_of u (SetBlendConstant c) h = lit< tt
low_of u (SetColorTarget None t) h = tt
low_of u (SetColorTarget (Some i) t) h = tt
low_of u (BindBuffer t i b o n) h = tt
low_of u (BindSampler i x) h = below i h
low_of u (BindTexture i t ta a mips) h = tt
low_of u (BindImage i x) h = tt
low_of u (PushDebugGroup r) h = tt
low_of u PopDebugGroup h = tt
low_of u (SetImmediates d o) h = tt
low_of u (SetClipDistances old n) h = tt

-- how much is used matters to the room alone, and there the commands do not
pub by-use : (p q : Used) (c : Command)
    → ((breaks p c).many ≡ (breaks q c).many) × ((breaks p c).range ≡ (breaks q c).range) × (p.bytes ≡ q.bytes → p.queries ≡ q.queries → (breaks p c).room ≡ (breaks q c).room)
by-use p q (Draw t fv vc fi ic l) = (refl, refl, λ e f. refl)
by-use p q (DrawIndexed t ty n o bv fi ic l) = (refl, refl, λ e f. refl)
by-use p q (DrawIndirect t raw o l) = (refl, refl, λ e f. refl)
by-use p q (DrawIndexedIndirect t ty raw o l) = (refl, refl, λ e f. refl)
by-use p q (Dispatch x y z) = (refl, refl, λ e f. refl)
by-use p q (DispatchIndirect raw o) = (refl, refl, λ e f. refl)
by-use p q (ClearBuffer raw t r) = (refl, refl, λ e f. refl)
by-use p q (CopyBufferToBuffer a b c d e) = (refl, refl, λ e f. refl)
by-use p q (SetIndexBuffer raw) = (refl, refl, λ e f. refl)
by-use p q (BeginQuery n t) = (refl, refl, λ e f. refl)
by-use p q (EndQuery t) = (refl, refl, λ e f. refl)
by-use p q (TimestampQuery n) = (refl, refl, λ e f. refl)
by-use p q (CopyQueryResults r d t o) = (refl, refl, λ e f. ap (λ (k : ℕ). ltb k r.end) f)
by-use p q (ResetFramebuffer d) = (refl, refl, λ e f. refl)
by-use p q (BindAttachment a v d n) = (refl, refl, λ e f. refl)
by-use p q (ResolveAttachment a v n) = (refl, refl, λ e f. refl)
by-use p q (InvalidateAttachments n) = (refl, refl, λ e f. refl)
by-use p q (SetDrawColorBuffers n) = (refl, refl, λ e f. refl)
by-use p q (ClearColorF n c) = (refl, refl, λ e f. refl)
by-use p q (ClearColorU n c) = (refl, refl, λ e f. refl)
by-use p q (ClearColorI n c) = (refl, refl, λ e f. refl)
by-use p q (ClearDepth d) = (refl, refl, λ e f. refl)
by-use p q (ClearStencil n) = (refl, refl, λ e f. refl)
by-use p q (ClearDepthAndStencil d n) = (refl, refl, λ e f. refl)
by-use p q (BufferBarrier b k) = (refl, refl, λ e f. refl)
by-use p q (TextureBarrier k) = (refl, refl, λ e f. refl)
by-use p q (SetViewport r d) = (refl, refl, λ e f. refl)
by-use p q (SetScissor r) = (refl, refl, λ e f. refl)
by-use p q (SetStencilFunc face f r k) = (refl, refl, λ e f. refl)
by-use p q (SetStencilOps face w o) = (refl, refl, λ e f. refl)
by-use p q (SetDepth d) = (refl, refl, λ e f. refl)
by-use p q (SetDepthBias d) = (refl, refl, λ e f. refl)
by-use p q (ConfigureDepthStencil a) = (refl, refl, λ e f. refl)
by-use p q (SetAlphaToCoverage a) = (refl, refl, λ e f. refl)
by-use p q (SetVertexAttribute b d a) = (refl, refl, λ e f. refl)
by-use p q (UnsetVertexAttribute l) = (refl, refl, λ e f. refl)
by-use p q (SetVertexBuffer i b d) = (refl, refl, λ e f. refl)
by-use p q (SetProgram n) = (refl, refl, λ e f. refl)
by-use p q (SetPrimitive n) = (refl, refl, λ e f. refl)
by-use p q (SetBlendConstant c) = (refl, refl, λ e f. refl)
by-use p q (SetColorTarget i t) = (refl, refl, λ e f. refl)
by-use p q (BindBuffer t i b o n) = (refl, refl, λ e f. refl)
by-use p q (BindSampler i x) = (refl, refl, λ e f. refl)
by-use p q (BindTexture i t ta a mips) = (refl, refl, λ e f. refl)
by-use p q (BindImage i x) = (refl, refl, λ e f. refl)
by-use p q (PushDebugGroup r) = (refl, refl, λ e f. ap (λ (k : ℕ). reversed r || ltb k r.end) e)
by-use p q PopDebugGroup = (refl, refl, λ e f. refl)
by-use p q (SetImmediates d o) = (refl, refl, λ e f. ap (λ (k : ℕ). ltb k (o + d.size_bytes)) e)
by-use p q (SetClipDistances old n) = (refl, refl, λ e f. refl)

-- what is known of each command of a list that is judged
abbrev pub Kept : Command → Type 0
Kept c = Low (mark_of (class_of c)) × (stays_of (record_of c) ≡ true)

pub kept-all : (u : Used) (cs : List Command) → some? (λ c. (breaks u c).range) cs ≡ false → Each Kept cs
unfolding some?
kept-all u [] e = tt
kept-all u (c ∷ cs) e =
    let h = or_left (breaks u c).range (some? (λ c. (breaks u c).range) cs) e in
    ((low_of u c h, ap not ((by-use (record { commands = 0; bytes = 0; queries = 0 }) u c).1 ∙ h)), kept-all u cs (or_right (breaks u c).range (some? (λ c. (breaks u c).range) cs) e))
