-- No clip distance from the bound on is on at a list's end. Where each old count is the count before, the bound is the last count, and exactly the distances below it are on. Assumes nothing.
use Prim.Native.Nat.{ℕ, ◌≤◌, ◌<◌}
use mathlib.Core.Path.{◌≡◌, refl, sym, ap, ◌∙◌}
use mathlib.Core.Bool.{Bool, true, false, cond, not, ◌&&◌}
use mathlib.Core.List.{List, [], ◌∷◌}
use Rattle.std.specs.Prelude.{Option, None, Some}
use native.Mathlib.Omega.{arith}
use lib.Dec.{ltb}
use borrow.Author.Tests.{eqb-true, ltb-true, ltb-false, lt-ltb, le-ltb}
use Rattle.machine.proofs.Lists.{and_left, and_right}
use Rattle.machine.specs.Machine.{Gl, fresh_gl, switched}
use Rattle.records.specs.declared.command.Command.{Command}
use Rattle.records.specs.declared.command.Command.TheVariants.{Draw, DrawIndexed, DrawIndirect, DrawIndexedIndirect, Dispatch, DispatchIndirect, ClearBuffer, CopyBufferToBuffer}
use Rattle.records.specs.declared.command.Command.TheVariants.{SetIndexBuffer, BeginQuery, EndQuery, TimestampQuery, CopyQueryResults, ResetFramebuffer, BindAttachment}
use Rattle.records.specs.declared.command.Command.TheVariants.{ResolveAttachment, InvalidateAttachments, SetDrawColorBuffers, ClearColorF, ClearColorU, ClearColorI, ClearDepth}
use Rattle.records.specs.declared.command.Command.TheVariants.{ClearStencil, ClearDepthAndStencil, BufferBarrier, TextureBarrier, SetViewport, SetScissor, SetStencilFunc}
use Rattle.records.specs.declared.command.Command.TheVariants.{SetStencilOps, SetDepth, SetDepthBias, ConfigureDepthStencil, SetAlphaToCoverage, SetVertexAttribute}
use Rattle.records.specs.declared.command.Command.TheVariants.{UnsetVertexAttribute, SetVertexBuffer, SetProgram, SetPrimitive, SetBlendConstant, SetColorTarget, BindBuffer}
use Rattle.records.specs.declared.command.Command.TheVariants.{BindSampler, BindTexture, BindImage, PushDebugGroup, PopDebugGroup, SetImmediates, SetClipDistances}
use Rattle.lists.specs.Shots.{settings_after, settings}
use Rattle.lists.specs.Clips.{Clips, clip_of, count_by, count_from, last_count, chains, chained}
use Rattle.joining.specs.Joined.{bound_after, bound_by, bound_from, end_of, bound_of}

abbrev clip_after : Option Clips → (ℕ → Bool) → ℕ → Bool
clip_after None f = f
clip_after (Some c) f = switched c.old c.new f

clip-law : (c : Command) (g : Gl) → (settings_after g c).fixed.clip ≡ clip_after (clip_of c) g.fixed.clip
clip-law (Draw t fv vc fi ic l) g = refl
clip-law (DrawIndexed t ty n o bv fi ic l) g = refl
clip-law (DrawIndirect t raw o l) g = refl
clip-law (DrawIndexedIndirect t ty raw o l) g = refl
clip-law (Dispatch a b c) g = refl
clip-law (DispatchIndirect raw o) g = refl
clip-law (ClearBuffer raw t r) g = refl
clip-law (CopyBufferToBuffer a b c d e) g = refl
clip-law (SetIndexBuffer raw) g = refl
clip-law (BeginQuery q t) g = refl
clip-law (EndQuery t) g = refl
clip-law (TimestampQuery q) g = refl
clip-law (CopyQueryResults r dst t o) g = refl
clip-law (ResetFramebuffer d) g = refl
clip-law (BindAttachment a v d s) g = refl
clip-law (ResolveAttachment a v s) g = refl
clip-law (InvalidateAttachments s) g = refl
clip-law (SetDrawColorBuffers n) g = refl
clip-law (ClearColorF n c) g = refl
clip-law (ClearColorU n c) g = refl
clip-law (ClearColorI n c) g = refl
clip-law (ClearDepth d) g = refl
clip-law (ClearStencil s) g = refl
clip-law (ClearDepthAndStencil d s) g = refl
clip-law (BufferBarrier b u) g = refl
clip-law (TextureBarrier u) g = refl
clip-law (SetViewport r d) g = refl
clip-law (SetScissor r) g = refl
clip-law (SetStencilFunc at f r n) g = refl
clip-law (SetStencilOps at w o) g = refl
clip-law (SetDepth d) g = refl
clip-law (SetDepthBias d) g = refl
clip-law (ConfigureDepthStencil a) g = refl
clip-law (SetAlphaToCoverage a) g = refl
clip-law (SetVertexAttribute b d a) g = refl
clip-law (UnsetVertexAttribute l) g = refl
clip-law (SetVertexBuffer i b d) g = refl
clip-law (SetProgram p) g = refl
clip-law (SetPrimitive p) g = refl
clip-law (SetBlendConstant c) g = refl
clip-law (SetColorTarget None t) g = refl
clip-law (SetColorTarget (Some i) t) g = refl
clip-law (BindBuffer ta i b o s) g = refl
clip-law (BindSampler u s) g = refl
clip-law (BindTexture i te ta a mips) g = refl
clip-law (BindImage i x) g = refl
clip-law (PushDebugGroup r) g = refl
clip-law PopDebugGroup g = refl
clip-law (SetImmediates d o) g = refl
clip-law (SetClipDistances old n) g = refl

-- ---- the bound
abbrev Tells : ℕ → ℕ → ℕ → ℕ → Type 0
Tells b old new i = (i < new → i < old) × (old ≤ i → b ≤ i) × (i < new → b ≤ i)

bound-tells : (b old new i : ℕ) → bound_after b old new ≤ i → Tells b old new i
bound-tells b old new i = go (ltb old new) refl (ltb b new) refl (ltb old b) refl
  where
    go : (t : Bool) → ltb old new ≡ t → (u : Bool) → ltb b new ≡ u → (v : Bool) → ltb old b ≡ v → cond t (cond u new b) (cond v b (cond u b new)) ≤ i → Tells b old new i
    go true p true q v r l = let k = ltb-true b new q in ((λ h. omega (arith, l, h)), (λ h. omega (arith, l, k)), (λ h. omega (arith, l, k)))
    go true p false q v r l = let k = ltb-false b new q in ((λ h. omega (arith, l, k, h)), (λ h. l), (λ h. l))
    go false p u q true r l = let k = ltb-true old b r in let m = ltb-false old new p in ((λ h. omega (arith, l, k, m, h)), (λ h. l), (λ h. l))
    go false p true q false r l = let m = ltb-false old new p in ((λ h. omega (arith, m, h)), (λ h. l), (λ h. l))
    go false p false q false r l = let k = ltb-false old b r in ((λ h. omega (arith, l, h)), (λ h. omega (arith, k, h)), (λ h. omega (arith, l, h)))

off_at : (old new i : ℕ) (f : ℕ → Bool) → (i < new → i < old) → (old ≤ i → f i ≡ false) → (i < new → f i ≡ false) → switched old new f i ≡ false
off_at old new i f x y z = go (ltb i old) refl (ltb i new) refl
  where
    go : (a : Bool) → ltb i old ≡ a → (b : Bool) → ltb i new ≡ b → cond (not a && b) true (cond (not b && a) false (f i)) ≡ false
    go true p true q = z (ltb-true i new q)
    go true p false q = refl
    go false p true q = absurd (let k = x (ltb-true i new q) in let m = ltb-false i old p in omega (arith, k, m))
    go false p false q = y (ltb-false i old p)

one_more : (b : ℕ) (o : Option Clips) (f : ℕ → Bool) → ((i : ℕ) → b ≤ i → f i ≡ false) → (i : ℕ) → bound_by b o ≤ i → clip_after o f i ≡ false
one_more b None f h i l = h i l
one_more b (Some c) f h i l = let t = bound-tells b c.old c.new i l in off_at c.old c.new i f t.0 (λ k. h i (t.1 k)) (λ k. h i (t.2 k))

along : (cs : List Command) (b : ℕ) (g : Gl) → ((i : ℕ) → b ≤ i → g.fixed.clip i ≡ false) → (i : ℕ) → bound_from b cs ≤ i → (settings g cs).fixed.clip i ≡ false
unfolding settings bound_from
along [] b g h i l = h i l
along (c ∷ cs) b g h i l =
    along cs (bound_by b (clip_of c)) (settings_after g c) (λ j k. ap (λ (f : ℕ → Bool). f j) (clip-law c g) ∙ one_more b (clip_of c) g.fixed.clip h j k) i l

pub bounded : (cs : List Command) (i : ℕ) → bound_of cs ≤ i → (end_of cs).fixed.clip i ≡ false
bounded cs i l = along cs 0 fresh_gl (λ j k. refl) i l

-- what the code returns
pub up-new : (b old new : ℕ) → old < new → b < new → new ≡ bound_after b old new
up-new b old new h k =
    sym (ap (λ (t : Bool). cond t (cond (ltb b new) new b) (cond (ltb old b) b (cond (ltb b new) b new))) (lt-ltb old new h) ∙ ap (λ (t : Bool). cond t new b) (lt-ltb b new k))

pub up-old : (b old new : ℕ) → old < new → new ≤ b → b ≡ bound_after b old new
up-old b old new h k =
    sym (ap (λ (t : Bool). cond t (cond (ltb b new) new b) (cond (ltb old b) b (cond (ltb b new) b new))) (lt-ltb old new h) ∙ ap (λ (t : Bool). cond t new b) (le-ltb b new k))

down : (b old new : ℕ) → new ≤ old → bound_after b old new ≡ cond (ltb old b) b (cond (ltb b new) b new)
down b old new h = ap (λ (t : Bool). cond t (cond (ltb b new) new b) (cond (ltb old b) b (cond (ltb b new) b new))) (le-ltb old new h)

pub down-above : (b old new : ℕ) → new ≤ old → old < b → b ≡ bound_after b old new
down-above b old new h k = sym (down b old new h ∙ ap (λ (t : Bool). cond t b (cond (ltb b new) b new)) (lt-ltb old b k))

pub down-old : (b old new : ℕ) → new ≤ old → b ≤ old → b < new → b ≡ bound_after b old new
down-old b old new h k m =
    sym (down b old new h ∙ ap (λ (t : Bool). cond t b (cond (ltb b new) b new)) (le-ltb old b k) ∙ ap (λ (t : Bool). cond t b new) (lt-ltb b new m))

pub down-new : (b old new : ℕ) → new ≤ old → b ≤ old → new ≤ b → new ≡ bound_after b old new
down-new b old new h k m =
    sym (down b old new h ∙ ap (λ (t : Bool). cond t b (cond (ltb b new) b new)) (le-ltb old b k) ∙ ap (λ (t : Bool). cond t b new) (le-ltb b new m))

-- ---- where each old count is the count before
pub from-count : (n m : ℕ) → bound_after n n m ≡ m
from-count n m = go (ltb n m)
  where
    go : (t : Bool) → cond t (cond t m n) (cond (ltb n n) n (cond t n m)) ≡ m
    go true = refl
    go false = ap (λ (t : Bool). cond t n m) (le-ltb n n (omega arith))

bound-chain : (n : ℕ) (o : Option Clips) → chains n o ≡ true → bound_by n o ≡ count_by n o
bound-chain n None e = refl
bound-chain n (Some c) e = ap (λ (k : ℕ). bound_after n k c.new) (eqb-true c.old n e) ∙ from-count n c.new

bounds : (cs : List Command) (n : ℕ) → chained n cs ≡ true → bound_from n cs ≡ count_from n cs
unfolding bound_from count_from chained
bounds [] n e = refl
bounds (c ∷ cs) n e =
    ap (λ (k : ℕ). bound_from k cs) (bound-chain n (clip_of c) (and_left (chains n (clip_of c)) (chained (count_by n (clip_of c)) cs) e))
    ∙ bounds cs (count_by n (clip_of c)) (and_right (chains n (clip_of c)) (chained (count_by n (clip_of c)) cs) e)

-- "from the last count"
pub chained-bound : (cs : List Command) → chained 0 cs ≡ true → bound_of cs ≡ last_count cs
chained-bound cs e = bounds cs 0 e

on_chain : (n : ℕ) (o : Option Clips) (f : ℕ → Bool) → chains n o ≡ true → ((i : ℕ) → f i ≡ ltb i n) → (i : ℕ) → clip_after o f i ≡ ltb i (count_by n o)
on_chain n None f e h i = h i
on_chain n (Some c) f e h i =
    ap (λ (k : ℕ). switched k c.new f i) (eqb-true c.old n e)
    ∙ ap (λ (t : Bool). cond (not (ltb i n) && ltb i c.new) true (cond (not (ltb i c.new) && ltb i n) false t)) (h i)
    ∙ table (ltb i n) (ltb i c.new)
  where
    table : (a b : Bool) → cond (not a && b) true (cond (not b && a) false a) ≡ b
    table true true = refl
    table true false = refl
    table false true = refl
    table false false = refl

ons : (cs : List Command) (n : ℕ) (g : Gl) → chained n cs ≡ true → ((i : ℕ) → g.fixed.clip i ≡ ltb i n) → (i : ℕ) → (settings g cs).fixed.clip i ≡ ltb i (count_from n cs)
unfolding settings count_from chained
ons [] n g e h i = h i
ons (c ∷ cs) n g e h i =
    ons cs (count_by n (clip_of c)) (settings_after g c) (and_right (chains n (clip_of c)) (chained (count_by n (clip_of c)) cs) e)
    (λ j. ap (λ (f : ℕ → Bool). f j) (clip-law c g) ∙ on_chain n (clip_of c) g.fixed.clip (and_left (chains n (clip_of c)) (chained (count_by n (clip_of c)) cs) e) h j) i

pub chained-on : (cs : List Command) → chained 0 cs ≡ true → (i : ℕ) → (end_of cs).fixed.clip i ≡ ltb i (last_count cs)
chained-on cs e i = ons cs 0 fresh_gl e (λ j. sym (le-ltb j 0 (omega arith))) i
