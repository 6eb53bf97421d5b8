-- A command that breaks no limit breaks none when more bytes and queries are used, and a list without such a command breaks none. Assumes nothing.
use Prim.Native.Nat.{ℕ, ◌+◌, ◌≤◌}
use mathlib.Core.Path.{◌≡◌, refl, ap, ◌∙◌}
use mathlib.Core.Bool.{Bool, false}
use native.Mathlib.Omega.{arith}
use lib.Dec.{ltb}
use borrow.Author.Tests.{ltb-false, le-ltb}
use Rattle.records.specs.declared.command.Command.{Command}
use Rattle.records.specs.declared.command.Command.TheVariants.{Draw, DrawIndexed, DrawIndirect, DrawIndexedIndirect, Dispatch, DispatchIndirect, ClearBuffer, CopyBufferToBuffer}
use Rattle.records.specs.declared.command.Command.TheVariants.{SetIndexBuffer, BeginQuery, EndQuery, TimestampQuery, CopyQueryResults, ResetFramebuffer, BindAttachment}
use Rattle.records.specs.declared.command.Command.TheVariants.{ResolveAttachment, InvalidateAttachments, SetDrawColorBuffers, ClearColorF, ClearColorU, ClearColorI, ClearDepth}
use Rattle.records.specs.declared.command.Command.TheVariants.{ClearStencil, ClearDepthAndStencil, BufferBarrier, TextureBarrier, SetViewport, SetScissor, SetStencilFunc}
use Rattle.records.specs.declared.command.Command.TheVariants.{SetStencilOps, SetDepth, SetDepthBias, ConfigureDepthStencil, SetAlphaToCoverage, SetVertexAttribute}
use Rattle.records.specs.declared.command.Command.TheVariants.{UnsetVertexAttribute, SetVertexBuffer, SetProgram, SetPrimitive, SetBlendConstant, SetColorTarget, BindBuffer}
use Rattle.records.specs.declared.command.Command.TheVariants.{BindSampler, BindTexture, BindImage, PushDebugGroup, PopDebugGroup, SetImmediates, SetClipDistances}
use Rattle.machine.specs.Each.{Each}
use Rattle.machine.proofs.Lists.{or_left, or_right}
use Rattle.lists.specs.declared.limits.Breaks.{Breaks}
use Rattle.lists.specs.declared.limits.Used.{Used}
use Rattle.lists.specs.Limits.{keeps, beyond_run, reversed, breaks, over_counts, Handed, broken_by}
use Rattle.recorded.proofs.Shapes.{neither, each-so, none_has}

-- an end within a count is within a larger one
further : (n m end : ℕ) → n ≤ m → ltb n end ≡ false → ltb m end ≡ false
further n m end h e = le-ltb m end (omega (arith, h, ltb-false n end e))

pub grows : (u v : Used) (k : Command) → u.bytes ≤ v.bytes → u.queries ≤ v.queries → breaks u k ≡ keeps → breaks v k ≡ keeps
grows u v (Draw t fv vc fi ic l) b q e = e
grows u v (DrawIndexed t ty n o bv fi ic l) b q e = e
grows u v (DrawIndirect t raw o l) b q e = e
grows u v (DrawIndexedIndirect t ty raw o l) b q e = e
grows u v (Dispatch x y z) b q e = e
grows u v (DispatchIndirect raw o) b q e = e
grows u v (ClearBuffer raw t r) b q e = e
grows u v (CopyBufferToBuffer x y z t r) b q e = e
grows u v (SetIndexBuffer raw) b q e = e
grows u v (BeginQuery i t) b q e = e
grows u v (EndQuery t) b q e = e
grows u v (TimestampQuery i) b q e = e
grows u v (CopyQueryResults r dst t o) b q e =
    let x = ap (λ (y : Breaks). y.range) e in
    let z = further u.queries v.queries r.end q (ap (λ (y : Breaks). y.room) e) in
    λ j. record { many = false; range = x j; room = z j }
grows u v (ResetFramebuffer d) b q e = e
grows u v (BindAttachment a i d s) b q e = e
grows u v (ResolveAttachment a i s) b q e = e
grows u v (InvalidateAttachments s) b q e = e
grows u v (SetDrawColorBuffers n) b q e = e
grows u v (ClearColorF n c) b q e = e
grows u v (ClearColorU n c) b q e = e
grows u v (ClearColorI n c) b q e = e
grows u v (ClearDepth d) b q e = e
grows u v (ClearStencil s) b q e = e
grows u v (ClearDepthAndStencil d s) b q e = e
grows u v (BufferBarrier x k) b q e = e
grows u v (TextureBarrier k) b q e = e
grows u v (SetViewport r d) b q e = e
grows u v (SetScissor r) b q e = e
grows u v (SetStencilFunc face f r k) b q e = e
grows u v (SetStencilOps face w o) b q e = e
grows u v (SetDepth d) b q e = e
grows u v (SetDepthBias d) b q e = e
grows u v (ConfigureDepthStencil a) b q e = e
grows u v (SetAlphaToCoverage a) b q e = e
grows u v (SetVertexAttribute x d a) b q e = e
grows u v (UnsetVertexAttribute l) b q e = e
grows u v (SetVertexBuffer i x d) b q e = e
grows u v (SetProgram p) b q e = e
grows u v (SetPrimitive p) b q e = e
grows u v (SetBlendConstant c) b q e = e
grows u v (SetColorTarget i t) b q e = e
grows u v (BindBuffer t i x o s) b q e = e
grows u v (BindSampler i s) b q e = e
grows u v (BindTexture i t ta a mips) b q e = e
grows u v (BindImage i x) b q e = e
grows u v (PushDebugGroup r) b q e =
    let x = ap (λ (y : Breaks). y.room) e in
    ap beyond_run (neither (or_left (reversed r) (ltb u.bytes r.end) x) (further u.bytes v.bytes r.end b (or_right (reversed r) (ltb u.bytes r.end) x)))
grows u v PopDebugGroup b q e = e
grows u v (SetImmediates d o) b q e =
    let x = ap (λ (y : Breaks). y.range) e in
    let z = further u.bytes v.bytes (o + d.size_bytes) b (ap (λ (y : Breaks). y.room) e) in
    λ j. record { many = false; range = x j; room = z j }
grows u v (SetClipDistances old n) b q e = e

-- a list whose counts are within, and whose commands are
pub unbroken : (l : Handed) → over_counts l.room l.used ≡ false → Each (λ (k : Command). breaks l.used k ≡ keeps) l.commands → broken_by l ≡ keeps
unbroken l o h =
    let many = none_has (λ c. (breaks l.used c).many) l.commands (each (λ (b : Breaks). b.many) refl) in
    let range = none_has (λ c. (breaks l.used c).range) l.commands (each (λ (b : Breaks). b.range) refl) in
    let room = neither o (none_has (λ c. (breaks l.used c).room) l.commands (each (λ (b : Breaks). b.room) refl)) in
    λ j. record { many = many j; range = range j; room = room j }
  where
    each : (f : Breaks → Bool) → f keeps ≡ false → Each (λ (k : Command). f (breaks l.used k) ≡ false) l.commands
    each f z = each-so (λ (k : Command). breaks l.used k ≡ keeps) (λ (k : Command). f (breaks l.used k) ≡ false) l.commands (λ k e. ap f e ∙ z) h
