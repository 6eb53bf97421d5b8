-- Lists within the limits give a joined list within them, so that it can be handed in again. Assumes nothing.
use Prim.Native.Nat.{ℕ, ◌+◌, ◌≤◌}
use mathlib.Core.Path.{◌≡◌, refl, ap₂}
use mathlib.Core.Bool.{Bool, false, ◌||◌}
use mathlib.Core.List.{List, [], ◌∷◌, ◌++◌, map}
use native.Mathlib.Omega.{arith}
use lib.Dec.{ltb}
use lib.ListN.{length, length-append, length-map}
use borrow.Author.Tests.{ltb-false, le-ltb, lt-leb}
use Rattle.machine.proofs.Lists.{or_left, or_right}
use Rattle.machine.specs.Each.{Each}
use Rattle.records.specs.declared.command.Command.{Command}
use Rattle.records.specs.declared.command.Command.TheVariants.{Draw, DrawIndexed, DrawIndirect, DrawIndexedIndirect, Dispatch, DispatchIndirect, ClearBuffer, CopyBufferToBuffer}
use Rattle.records.specs.declared.command.Command.TheVariants.{SetIndexBuffer, BeginQuery, EndQuery, TimestampQuery, CopyQueryResults, ResetFramebuffer, BindAttachment}
use Rattle.records.specs.declared.command.Command.TheVariants.{ResolveAttachment, InvalidateAttachments, SetDrawColorBuffers, ClearColorF, ClearColorU, ClearColorI, ClearDepth}
use Rattle.records.specs.declared.command.Command.TheVariants.{ClearStencil, ClearDepthAndStencil, BufferBarrier, TextureBarrier, SetViewport, SetScissor, SetStencilFunc}
use Rattle.records.specs.declared.command.Command.TheVariants.{SetStencilOps, SetDepth, SetDepthBias, ConfigureDepthStencil, SetAlphaToCoverage, SetVertexAttribute}
use Rattle.records.specs.declared.command.Command.TheVariants.{UnsetVertexAttribute, SetVertexBuffer, SetProgram, SetPrimitive, SetBlendConstant, SetColorTarget, BindBuffer}
use Rattle.records.specs.declared.command.Command.TheVariants.{BindSampler, BindTexture, BindImage, PushDebugGroup, PopDebugGroup, SetImmediates, SetClipDistances}
use Rattle.lists.specs.declared.limits.Used.{Used}
use Rattle.lists.specs.Limits.{breaks, reversed}
use Rattle.machine.specs.Machine.{Gl}
use Rattle.joining.proofs.Resets.{resets-by}
use Rattle.joining.specs.Joins.{size_of}
use Rattle.joining.specs.Joined.{Listed, moved, resets, end_of, bound_of, put_in, joined}

-- a command breaks no limit
abbrev pub Keeps : Used → Command → Type 0
Keeps u c = ((breaks u c).many ≡ false) × ((breaks u c).range ≡ false) × ((breaks u c).room ≡ false)

-- with more bytes and queries
grows : (u w : Used) (c : Command) → u.bytes ≤ w.bytes → u.queries ≤ w.queries → Keeps u c → Keeps w c
grows u w (Draw x0 x1 x2 x3 x4 x5) hb hq h = h
grows u w (DrawIndexed x0 x1 x2 x3 x4 x5 x6 x7) hb hq h = h
grows u w (DrawIndirect x0 x1 x2 x3) hb hq h = h
grows u w (DrawIndexedIndirect x0 x1 x2 x3 x4) hb hq h = h
grows u w (Dispatch x0 x1 x2) hb hq h = h
grows u w (DispatchIndirect x0 x1) hb hq h = h
grows u w (ClearBuffer x0 x1 x2) hb hq h = h
grows u w (CopyBufferToBuffer x0 x1 x2 x3 x4) hb hq h = h
grows u w (SetIndexBuffer x0) hb hq h = h
grows u w (BeginQuery x0 x1) hb hq h = h
grows u w (EndQuery x0) hb hq h = h
grows u w (TimestampQuery x0) hb hq h = h
grows u w (CopyQueryResults r d t o) hb hq h = (h.0, h.1, le-ltb w.queries r.end (let k = ltb-false u.queries r.end h.2 in omega (arith, k)))
grows u w (ResetFramebuffer x0) hb hq h = h
grows u w (BindAttachment x0 x1 x2 x3) hb hq h = h
grows u w (ResolveAttachment x0 x1 x2) hb hq h = h
grows u w (InvalidateAttachments x0) hb hq h = h
grows u w (SetDrawColorBuffers x0) hb hq h = h
grows u w (ClearColorF x0 x1) hb hq h = h
grows u w (ClearColorU x0 x1) hb hq h = h
grows u w (ClearColorI x0 x1) hb hq h = h
grows u w (ClearDepth x0) hb hq h = h
grows u w (ClearStencil x0) hb hq h = h
grows u w (ClearDepthAndStencil x0 x1) hb hq h = h
grows u w (BufferBarrier x0 x1) hb hq h = h
grows u w (TextureBarrier x0) hb hq h = h
grows u w (SetViewport x0 x1) hb hq h = h
grows u w (SetScissor x0) hb hq h = h
grows u w (SetStencilFunc x0 x1 x2 x3) hb hq h = h
grows u w (SetStencilOps x0 x1 x2) hb hq h = h
grows u w (SetDepth x0) hb hq h = h
grows u w (SetDepthBias x0) hb hq h = h
grows u w (ConfigureDepthStencil x0) hb hq h = h
grows u w (SetAlphaToCoverage x0) hb hq h = h
grows u w (SetVertexAttribute x0 x1 x2) hb hq h = h
grows u w (UnsetVertexAttribute x0) hb hq h = h
grows u w (SetVertexBuffer x0 x1 x2) hb hq h = h
grows u w (SetProgram x0) hb hq h = h
grows u w (SetPrimitive x0) hb hq h = h
grows u w (SetBlendConstant x0) hb hq h = h
grows u w (SetColorTarget x0 x1) hb hq h = h
grows u w (BindBuffer x0 x1 x2 x3 x4) hb hq h = h
grows u w (BindSampler x0 x1) hb hq h = h
grows u w (BindTexture x0 x1 x2 x3 x4) hb hq h = h
grows u w (BindImage x0 x1) hb hq h = h
grows u w (PushDebugGroup r) hb hq h = (h.0, h.1, ap₂ (λ (s t : Bool). s || t) (or_left (reversed r) (ltb u.bytes r.end) h.2) (le-ltb w.bytes r.end (let k = ltb-false u.bytes r.end (or_right (reversed r) (ltb u.bytes r.end) h.2) in omega (arith, k))))
grows u w PopDebugGroup hb hq h = h
grows u w (SetImmediates d o) hb hq h = (h.0, h.1, le-ltb w.bytes (o + d.size_bytes) (let k = ltb-false u.bytes (o + d.size_bytes) h.2 in omega (arith, k)))
grows u w (SetClipDistances x0 x1) hb hq h = h

-- moved behind m bytes and k queries
abbrev behind : Used → ℕ → ℕ → Used
behind v m k = record { commands = 0; bytes = m + v.bytes; queries = k + v.queries }

shifts : (v : Used) (m k : ℕ) (c : Command) → Keeps v c → Keeps (behind v m k) (moved m k c)
shifts v m k (Draw x0 x1 x2 x3 x4 x5) h = h
shifts v m k (DrawIndexed x0 x1 x2 x3 x4 x5 x6 x7) h = h
shifts v m k (DrawIndirect x0 x1 x2 x3) h = h
shifts v m k (DrawIndexedIndirect x0 x1 x2 x3 x4) h = h
shifts v m k (Dispatch x0 x1 x2) h = h
shifts v m k (DispatchIndirect x0 x1) h = h
shifts v m k (ClearBuffer x0 x1 x2) h = h
shifts v m k (CopyBufferToBuffer x0 x1 x2 x3 x4) h = h
shifts v m k (SetIndexBuffer x0) h = h
shifts v m k (BeginQuery x0 x1) h = h
shifts v m k (EndQuery x0) h = h
shifts v m k (TimestampQuery x0) h = h
shifts v m k (CopyQueryResults r d t o) h = (h.0, le-ltb (k + r.end) (k + r.start) (let l = ltb-false r.end r.start h.1 in omega (arith, l)), le-ltb (k + v.queries) (k + r.end) (let l = ltb-false v.queries r.end h.2 in omega (arith, l)))
shifts v m k (ResetFramebuffer x0) h = h
shifts v m k (BindAttachment x0 x1 x2 x3) h = h
shifts v m k (ResolveAttachment x0 x1 x2) h = h
shifts v m k (InvalidateAttachments x0) h = h
shifts v m k (SetDrawColorBuffers x0) h = h
shifts v m k (ClearColorF x0 x1) h = h
shifts v m k (ClearColorU x0 x1) h = h
shifts v m k (ClearColorI x0 x1) h = h
shifts v m k (ClearDepth x0) h = h
shifts v m k (ClearStencil x0) h = h
shifts v m k (ClearDepthAndStencil x0 x1) h = h
shifts v m k (BufferBarrier x0 x1) h = h
shifts v m k (TextureBarrier x0) h = h
shifts v m k (SetViewport x0 x1) h = h
shifts v m k (SetScissor x0) h = h
shifts v m k (SetStencilFunc x0 x1 x2 x3) h = h
shifts v m k (SetStencilOps x0 x1 x2) h = h
shifts v m k (SetDepth x0) h = h
shifts v m k (SetDepthBias x0) h = h
shifts v m k (ConfigureDepthStencil x0) h = h
shifts v m k (SetAlphaToCoverage x0) h = h
shifts v m k (SetVertexAttribute x0 x1 x2) h = h
shifts v m k (UnsetVertexAttribute x0) h = h
shifts v m k (SetVertexBuffer x0 x1 x2) h = h
shifts v m k (SetProgram x0) h = h
shifts v m k (SetPrimitive x0) h = h
shifts v m k (SetBlendConstant x0) h = h
shifts v m k (SetColorTarget x0 x1) h = h
shifts v m k (BindBuffer x0 x1 x2 x3 x4) h = h
shifts v m k (BindSampler x0 x1) h = h
shifts v m k (BindTexture x0 x1 x2 x3 x4) h = h
shifts v m k (BindImage x0 x1) h = h
shifts v m k (PushDebugGroup r) h = (h.0, h.1, ap₂ (λ (s t : Bool). s || t) (le-ltb (m + r.end) (m + r.start) (let l = ltb-false r.end r.start (or_left (reversed r) (ltb v.bytes r.end) h.2) in omega (arith, l))) (le-ltb (m + v.bytes) (m + r.end) (let l = ltb-false v.bytes r.end (or_right (reversed r) (ltb v.bytes r.end) h.2) in omega (arith, l))))
shifts v m k PopDebugGroup h = h
shifts v m k (SetImmediates d o) h = (h.0, h.1, le-ltb (m + v.bytes) (m + o + d.size_bytes) (let l = ltb-false v.bytes (o + d.size_bytes) h.2 in omega (arith, l)))
shifts v m k (SetClipDistances x0 x1) h = h

-- ---- lists
each_append : {X : Type 0} (Q : X → Type 0) (xs ys : List X) → Each Q xs → Each Q ys → Each Q (xs ++ ys)
each_append Q [] ys h k = k
each_append Q (x ∷ xs) ys h k = (h.0, each_append Q xs ys h.1 k)

each-grows : (u w : Used) (cs : List Command) → u.bytes ≤ w.bytes → u.queries ≤ w.queries → Each (Keeps u) cs → Each (Keeps w) cs
each-grows u w [] hb hq h = tt
each-grows u w (c ∷ cs) hb hq h = (grows u w c hb hq h.0, each-grows u w cs hb hq h.1)

each-shifts : (v : Used) (m k : ℕ) (cs : List Command) → Each (Keeps v) cs → Each (Keeps (behind v m k)) (map (moved m k) cs)
each-shifts v m k [] h = tt
each-shifts v m k (c ∷ cs) h = (shifts v m k c h.0, each-shifts v m k cs h.1)

pub each-resets : (w : Used) (g : Gl) (n : ℕ) → Each (Keeps w) (resets g n)
each-resets w = resets-by (Each (Keeps w)) tt (each_append (Keeps w)) (λ u l. ((refl, lt-leb 16 u (omega arith), refl), tt)) ((refl, refl, refl), tt) ((refl, refl, refl), tt) ((refl, refl, refl), tt) (λ n. ((refl, refl, refl), tt))

-- lists within the limits give a list within them
pub joined-fits : (a b : Listed) → Each (Keeps (size_of a)) a.commands → Each (Keeps (size_of b)) b.commands → Each (Keeps (size_of (joined a b))) (joined a b).commands
joined-fits a b h k =
    each_append (Keeps w) a.commands (put_in a.commands ++ mb) (each-grows (size_of a) w a.commands (omega (arith, eb)) (omega (arith, eq)) h)
    (each_append (Keeps w) (put_in a.commands) mb (each-resets w (end_of a.commands) (bound_of a.commands))
    (each-grows (behind (size_of b) (length a.bytes) (length a.queries)) w mb (omega (arith, eb)) (omega (arith, eq)) (each-shifts (size_of b) (length a.bytes) (length a.queries) b.commands k)))
  where
    w : Used
    w = size_of (joined a b)

    mb : List Command
    mb = map (moved (length a.bytes) (length a.queries)) b.commands

    eb : length (a.bytes ++ b.bytes) ≡ length a.bytes + length b.bytes
    eb = length-append a.bytes b.bytes

    eq : length (a.queries ++ b.queries) ≡ length a.queries + length b.queries
    eq = length-append a.queries b.queries

-- a part is no longer than the whole: where three lists are joined within the limits one way, each of the two joins of the other way is
pub first-shorter : (a b : Listed) → length a.commands ≤ length (joined a b).commands
first-shorter a b = let e = length-append a.commands (put_in a.commands ++ map (moved (length a.bytes) (length a.queries)) b.commands) in omega (arith, e)

pub second-shorter : (a b : Listed) → length b.commands ≤ length (joined a b).commands
second-shorter a b =
    let mb : List Command = map (moved (length a.bytes) (length a.queries)) b.commands in
    let e = length-append a.commands (put_in a.commands ++ mb) in
    let f = length-append (put_in a.commands) mb in
    let g = length-map b.commands (moved (length a.bytes) (length a.queries)) in
    omega (arith, e, f, g)
