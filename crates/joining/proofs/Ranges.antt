-- Each label, immediate and copy of queries reads in the joined list what it read before. Assumes nothing.
use Prim.Native.Nat.{ℕ, ◌+◌, ◌-◌, ◌≤◌}
use mathlib.Core.Path.{◌≡◌, refl, sym, ap, ap₂, ◌∙◌}
use mathlib.Core.Bool.{Bool, true, false}
use mathlib.Core.List.{List, [], ◌∷◌, ◌++◌, map, append_assoc}
use native.Mathlib.Nat.{add_assoc}
use native.Mathlib.Omega.{arith}
use lib.Dec.{ltb}
use lib.ListN.{length, take, drop, length-drop}
use lib.Seq.{take-append-le, drop-append-le, drop-append-add}
use borrow.Author.Tests.{ltb-false, ltb-true}
use Rattle.list_walks.specs.Fold.{part}
use Rattle.records.specs.declared.command.Command.{Command}
use Rattle.records.specs.declared.command.Command.TheVariants.{Draw, DrawIndexed, DrawIndirect, DrawIndexedIndirect, Dispatch, DispatchIndirect, ClearBuffer, CopyBufferToBuffer}
use Rattle.records.specs.declared.command.Command.TheVariants.{SetIndexBuffer, BeginQuery, EndQuery, TimestampQuery, CopyQueryResults, ResetFramebuffer, BindAttachment}
use Rattle.records.specs.declared.command.Command.TheVariants.{ResolveAttachment, InvalidateAttachments, SetDrawColorBuffers, ClearColorF, ClearColorU, ClearColorI, ClearDepth}
use Rattle.records.specs.declared.command.Command.TheVariants.{ClearStencil, ClearDepthAndStencil, BufferBarrier, TextureBarrier, SetViewport, SetScissor, SetStencilFunc}
use Rattle.records.specs.declared.command.Command.TheVariants.{SetStencilOps, SetDepth, SetDepthBias, ConfigureDepthStencil, SetAlphaToCoverage, SetVertexAttribute}
use Rattle.records.specs.declared.command.Command.TheVariants.{UnsetVertexAttribute, SetVertexBuffer, SetProgram, SetPrimitive, SetBlendConstant, SetColorTarget, BindBuffer}
use Rattle.records.specs.declared.command.Command.TheVariants.{BindSampler, BindTexture, BindImage, PushDebugGroup, PopDebugGroup, SetImmediates, SetClipDistances}
use Rattle.machine.specs.Each.{Each}
use Rattle.machine.specs.Machine.{Gl}
use Rattle.machine.proofs.Lists.{or_right}
use Rattle.lists.specs.Limits.{reversed}
use Rattle.joining.specs.Joined.{Listed, moved, resets, end_of, bound_of, put_in, joined}
use Rattle.joining.specs.Joins.{size_of}
use Rattle.joining.specs.Claim.{read_by, reads, reads_of}
use Rattle.joining.proofs.Fits.{Keeps}
use Rattle.joining.proofs.Resets.{resets-by}

-- ---- parts of two lists, one behind the other
part-first : (xs ys : List ℕ) (from to : ℕ) → to ≤ length xs → part (xs ++ ys) from to ≡ part xs from to
part-first xs ys from to h = go (ltb to from) refl
  where
    go : (t : Bool) → ltb to from ≡ t → part (xs ++ ys) from to ≡ part xs from to
    go true e =
        let none : to - from ≡ 0 = (let l = ltb-true to from e in omega (arith, l)) in
        ap (λ (k : ℕ). take k (drop from (xs ++ ys))) none ∙ sym (ap (λ (k : ℕ). take k (drop from xs)) none)
    go false e =
        let l = ltb-false to from e in
        ap (take (to - from)) (drop-append-le from xs ys (omega (arith, l))) ∙ take-append-le (to - from) (drop from xs) ys (omega (arith, l, length-drop from xs))

part-second : (xs ys : List ℕ) (from to : ℕ) → part (xs ++ ys) (length xs + from) (length xs + to) ≡ part ys from to
part-second xs ys from to =
    let e : (length xs + to) - (length xs + from) ≡ to - from = omega arith in
    ap₂ (λ (k : ℕ) (l : List ℕ). take k l) e (drop-append-add xs ys from)

-- ---- a command
first_reads : (a b : Listed) (c : Command) → Keeps (size_of a) c → read_by (joined a b) c ≡ read_by a c
first_reads a b (Draw x0 x1 x2 x3 x4 x5) h = refl
first_reads a b (DrawIndexed x0 x1 x2 x3 x4 x5 x6 x7) h = refl
first_reads a b (DrawIndirect x0 x1 x2 x3) h = refl
first_reads a b (DrawIndexedIndirect x0 x1 x2 x3 x4) h = refl
first_reads a b (Dispatch x0 x1 x2) h = refl
first_reads a b (DispatchIndirect x0 x1) h = refl
first_reads a b (ClearBuffer x0 x1 x2) h = refl
first_reads a b (CopyBufferToBuffer x0 x1 x2 x3 x4) h = refl
first_reads a b (SetIndexBuffer x0) h = refl
first_reads a b (BeginQuery x0 x1) h = refl
first_reads a b (EndQuery x0) h = refl
first_reads a b (TimestampQuery x0) h = refl
first_reads a b (CopyQueryResults r x1 x2 x3) h = ap (λ (z : List ℕ). z ∷ []) (part-first a.queries b.queries r.start r.end (ltb-false (length a.queries) r.end h.2))
first_reads a b (ResetFramebuffer x0) h = refl
first_reads a b (BindAttachment x0 x1 x2 x3) h = refl
first_reads a b (ResolveAttachment x0 x1 x2) h = refl
first_reads a b (InvalidateAttachments x0) h = refl
first_reads a b (SetDrawColorBuffers x0) h = refl
first_reads a b (ClearColorF x0 x1) h = refl
first_reads a b (ClearColorU x0 x1) h = refl
first_reads a b (ClearColorI x0 x1) h = refl
first_reads a b (ClearDepth x0) h = refl
first_reads a b (ClearStencil x0) h = refl
first_reads a b (ClearDepthAndStencil x0 x1) h = refl
first_reads a b (BufferBarrier x0 x1) h = refl
first_reads a b (TextureBarrier x0) h = refl
first_reads a b (SetViewport x0 x1) h = refl
first_reads a b (SetScissor x0) h = refl
first_reads a b (SetStencilFunc x0 x1 x2 x3) h = refl
first_reads a b (SetStencilOps x0 x1 x2) h = refl
first_reads a b (SetDepth x0) h = refl
first_reads a b (SetDepthBias x0) h = refl
first_reads a b (ConfigureDepthStencil x0) h = refl
first_reads a b (SetAlphaToCoverage x0) h = refl
first_reads a b (SetVertexAttribute x0 x1 x2) h = refl
first_reads a b (UnsetVertexAttribute x0) h = refl
first_reads a b (SetVertexBuffer x0 x1 x2) h = refl
first_reads a b (SetProgram x0) h = refl
first_reads a b (SetPrimitive x0) h = refl
first_reads a b (SetBlendConstant x0) h = refl
first_reads a b (SetColorTarget x0 x1) h = refl
first_reads a b (BindBuffer x0 x1 x2 x3 x4) h = refl
first_reads a b (BindSampler x0 x1) h = refl
first_reads a b (BindTexture x0 x1 x2 x3 x4) h = refl
first_reads a b (BindImage x0 x1) h = refl
first_reads a b (PushDebugGroup r) h = ap (λ (z : List ℕ). z ∷ []) (part-first a.bytes b.bytes r.start r.end (ltb-false (length a.bytes) r.end (or_right (reversed r) (ltb (length a.bytes) r.end) h.2)))
first_reads a b PopDebugGroup h = refl
first_reads a b (SetImmediates d o) h = ap (λ (z : List ℕ). z ∷ []) (part-first a.bytes b.bytes o (o + d.size_bytes) (ltb-false (length a.bytes) (o + d.size_bytes) h.2))
first_reads a b (SetClipDistances x0 x1) h = refl

second_reads : (a b : Listed) (c : Command) → read_by (joined a b) (moved (length a.bytes) (length a.queries) c) ≡ read_by b c
second_reads a b (Draw x0 x1 x2 x3 x4 x5) = refl
second_reads a b (DrawIndexed x0 x1 x2 x3 x4 x5 x6 x7) = refl
second_reads a b (DrawIndirect x0 x1 x2 x3) = refl
second_reads a b (DrawIndexedIndirect x0 x1 x2 x3 x4) = refl
second_reads a b (Dispatch x0 x1 x2) = refl
second_reads a b (DispatchIndirect x0 x1) = refl
second_reads a b (ClearBuffer x0 x1 x2) = refl
second_reads a b (CopyBufferToBuffer x0 x1 x2 x3 x4) = refl
second_reads a b (SetIndexBuffer x0) = refl
second_reads a b (BeginQuery x0 x1) = refl
second_reads a b (EndQuery x0) = refl
second_reads a b (TimestampQuery x0) = refl
second_reads a b (CopyQueryResults r x1 x2 x3) = ap (λ (z : List ℕ). z ∷ []) (part-second a.queries b.queries r.start r.end)
second_reads a b (ResetFramebuffer x0) = refl
second_reads a b (BindAttachment x0 x1 x2 x3) = refl
second_reads a b (ResolveAttachment x0 x1 x2) = refl
second_reads a b (InvalidateAttachments x0) = refl
second_reads a b (SetDrawColorBuffers x0) = refl
second_reads a b (ClearColorF x0 x1) = refl
second_reads a b (ClearColorU x0 x1) = refl
second_reads a b (ClearColorI x0 x1) = refl
second_reads a b (ClearDepth x0) = refl
second_reads a b (ClearStencil x0) = refl
second_reads a b (ClearDepthAndStencil x0 x1) = refl
second_reads a b (BufferBarrier x0 x1) = refl
second_reads a b (TextureBarrier x0) = refl
second_reads a b (SetViewport x0 x1) = refl
second_reads a b (SetScissor x0) = refl
second_reads a b (SetStencilFunc x0 x1 x2 x3) = refl
second_reads a b (SetStencilOps x0 x1 x2) = refl
second_reads a b (SetDepth x0) = refl
second_reads a b (SetDepthBias x0) = refl
second_reads a b (ConfigureDepthStencil x0) = refl
second_reads a b (SetAlphaToCoverage x0) = refl
second_reads a b (SetVertexAttribute x0 x1 x2) = refl
second_reads a b (UnsetVertexAttribute x0) = refl
second_reads a b (SetVertexBuffer x0 x1 x2) = refl
second_reads a b (SetProgram x0) = refl
second_reads a b (SetPrimitive x0) = refl
second_reads a b (SetBlendConstant x0) = refl
second_reads a b (SetColorTarget x0 x1) = refl
second_reads a b (BindBuffer x0 x1 x2 x3 x4) = refl
second_reads a b (BindSampler x0 x1) = refl
second_reads a b (BindTexture x0 x1 x2 x3 x4) = refl
second_reads a b (BindImage x0 x1) = refl
second_reads a b (PushDebugGroup r) = ap (λ (z : List ℕ). z ∷ []) (part-second a.bytes b.bytes r.start r.end)
second_reads a b PopDebugGroup = refl
second_reads a b (SetImmediates d o) =
    ap (λ (n : ℕ). part (a.bytes ++ b.bytes) (length a.bytes + o) n ∷ []) (add_assoc (length a.bytes) o d.size_bytes) ∙ ap (λ (z : List ℕ). z ∷ []) (part-second a.bytes b.bytes o (o + d.size_bytes))
second_reads a b (SetClipDistances x0 x1) = refl

-- ---- lists
reads-append : (l : Listed) (xs ys : List Command) → reads l (xs ++ ys) ≡ reads l xs ++ reads l ys
unfolding reads
reads-append l [] ys = refl
reads-append l (x ∷ xs) ys = ap (λ (z : List (List ℕ)). read_by l x ++ z) (reads-append l xs ys) ∙ sym (append_assoc (read_by l x) (reads l xs) (reads l ys))

reads-resets : (l : Listed) (g : Gl) (n : ℕ) → reads l (resets g n) ≡ []
unfolding reads
reads-resets l = resets-by (λ xs. reads l xs ≡ []) refl (λ xs ys e f. reads-append l xs ys ∙ ap₂ (λ (x y : List (List ℕ)). x ++ y) e f) (λ u h. refl) refl refl refl (λ n. refl)

of-first : (a b : Listed) (cs : List Command) → Each (Keeps (size_of a)) cs → reads (joined a b) cs ≡ reads a cs
unfolding reads
of-first a b [] h = refl
of-first a b (c ∷ cs) h = ap₂ (λ (x y : List (List ℕ)). x ++ y) (first_reads a b c h.0) (of-first a b cs h.1)

of-second : (a b : Listed) (cs : List Command) → reads (joined a b) (map (moved (length a.bytes) (length a.queries)) cs) ≡ reads b cs
unfolding reads
of-second a b [] = refl
of-second a b (c ∷ cs) = ap₂ (λ (x y : List (List ℕ)). x ++ y) (second_reads a b c) (of-second a b cs)

-- the first's commands break no limit: their ranges are within its own bytes and queries
pub joined-reads : (a b : Listed) → Each (Keeps (size_of a)) a.commands → reads_of (joined a b) ≡ reads_of a ++ reads_of b
joined-reads a b h =
    let mb : List Command = map (moved (length a.bytes) (length a.queries)) b.commands in
    reads-append (joined a b) a.commands (put_in a.commands ++ mb)
    ∙ ap₂ (λ (x y : List (List ℕ)). x ++ y) (of-first a b a.commands h)
    (reads-append (joined a b) (put_in a.commands) mb ∙ ap₂ (λ (x y : List (List ℕ)). x ++ y) (reads-resets (joined a b) (end_of a.commands) (bound_of a.commands)) (of-second a b b.commands))
