-- The masks tell the things of the machine apart: a mark is one thing, and a command sets that mark where it names that thing. Assumes nothing.
use Prim.Native.Nat.{zero, suc}
use mathlib.Core.Path.{◌≡◌, refl, sym, ap, ◌∙◌, subst}
use mathlib.Core.Bool.{Bool, true, false}
use mathlib.Core.Logic.{◌⊎◌, inl, inr}
use Rattle.std.specs.Prelude.{Option, None, Some}
use lib.Dec.{eqb}
use borrow.Author.Tests.{eqb-true, eq-eqb}
use Rattle.records.specs.declared.command.Command.{Command}
use Rattle.machine.proofs.Lists.{false-true}
use Rattle.lists.specs.declared.class.Class.{Class}
use Rattle.lists.specs.declared.class.Class.TheVariants.{Draw, Clear, Dispatch, Reset, Sets, Other}
use Rattle.lists.specs.declared.class.Thing as class
use Rattle.lists.specs.declared.class.Thing.TheVariants as thing
use Rattle.lists.specs.declared.class.Thing.TheVariants.{Attribute, IndexBuffer, Buffer, Texture, Image, Viewport, Scissor, BlendConstants, Program}
use Rattle.lists.specs.declared.class.Thing.TheVariants.{Primitive, DepthBias, AlphaToCoverage, ClipDistances, DepthStencil, Depth, Target, Targets, StencilFunction, StencilOperations}
use Rattle.lists.specs.Class.{class_of}
use Rattle.lists.specs.Things.{Thing, vertex, binding, screen, fixed, face, attribute, vertex_buffer, buffer, texture, image, sampler, index_buffer, viewport, scissor, blend_constants}
use Rattle.lists.specs.Things.{program, primitive, depth_bias, alpha_to_coverage, depth_stencil, depth, target, clip_distance, names}
use Rattle.superseding.specs.declared.seen.Mark.{Mark}
use Rattle.superseding.specs.declared.seen.Mark.TheVariants.{VertexBuffer, Sampler, Single, Nothing}
use Rattle.superseding.specs.Superseded.{setting_of}
use Rattle.superseding.specs.Seen.{mark_of}
use Rattle.superseding.proofs.Beside.{is, one, is-self, of_seven, Fact, fact}

-- the same mark
abbrev pub same : Mark → Mark → Bool
same (VertexBuffer i) (VertexBuffer j) = eqb i j
same (VertexBuffer i) (Sampler v) = false
same (VertexBuffer i) (Single m) = false
same (VertexBuffer i) Nothing = false
same (Sampler u) (VertexBuffer j) = false
same (Sampler u) (Sampler v) = eqb u v
same (Sampler u) (Single m) = false
same (Sampler u) Nothing = false
same (Single k) (VertexBuffer j) = false
same (Single k) (Sampler v) = false
same (Single k) (Single m) = eqb k m
same (Single k) Nothing = false
same Nothing t = false

one-mark : (s t : Mark) → same s t ≡ true → s ≡ t
one-mark (VertexBuffer i) (VertexBuffer j) e = ap VertexBuffer (eqb-true i j e)
one-mark (VertexBuffer i) (Sampler v) e = false-true e
one-mark (VertexBuffer i) (Single m) e = false-true e
one-mark (VertexBuffer i) Nothing e = false-true e
one-mark (Sampler u) (VertexBuffer j) e = false-true e
one-mark (Sampler u) (Sampler v) e = ap Sampler (eqb-true u v e)
one-mark (Sampler u) (Single m) e = false-true e
one-mark (Sampler u) Nothing e = false-true e
one-mark (Single k) (VertexBuffer j) e = false-true e
one-mark (Single k) (Sampler v) e = false-true e
one-mark (Single k) (Single m) e = ap Single (eqb-true k m e)
one-mark (Single k) Nothing e = false-true e
one-mark Nothing t e = false-true e

same_none : (s : Mark) → same s Nothing ≡ false
same_none (VertexBuffer i) = refl
same_none (Sampler u) = refl
same_none (Single k) = refl
same_none Nothing = refl

-- ---- the thing of a mark, and the mark of a thing
abbrev pub thing_at : Mark → Option Thing
thing_at (VertexBuffer i) = Some (vertex (vertex_buffer i))
thing_at (Sampler u) = Some (binding (sampler u))
thing_at (Single zero) = Some (screen blend_constants)
thing_at (Single (suc zero)) = Some (screen viewport)
thing_at (Single (suc (suc zero))) = Some (screen scissor)
thing_at (Single (suc (suc (suc zero)))) = Some (binding index_buffer)
thing_at (Single (suc (suc (suc (suc zero))))) = Some (fixed depth_bias)
thing_at (Single (suc (suc (suc (suc (suc n)))))) = None
thing_at Nothing = None

mark_at : Thing → Mark
mark_at (vertex (attribute l)) = Nothing
mark_at (vertex (vertex_buffer i)) = VertexBuffer i
mark_at (binding (buffer t i)) = Nothing
mark_at (binding (texture i)) = Nothing
mark_at (binding (image i)) = Nothing
mark_at (binding (sampler u)) = Sampler u
mark_at (binding index_buffer) = Single 3
mark_at (screen viewport) = Single 1
mark_at (screen scissor) = Single 2
mark_at (screen blend_constants) = Single 0
mark_at (fixed program) = Nothing
mark_at (fixed primitive) = Nothing
mark_at (fixed depth_bias) = Single 4
mark_at (fixed alpha_to_coverage) = Nothing
mark_at (fixed depth_stencil) = Nothing
mark_at (fixed depth) = Nothing
mark_at (fixed (target i)) = Nothing
mark_at (fixed (clip_distance i)) = Nothing
mark_at (face y) = Nothing

abbrev pub is_some : Option Thing → Bool
is_some None = false
is_some (Some x) = true

-- a mark that has a thing: it is the thing's mark, it is the same as itself, and the thing is one of the seven kinds
abbrev from_some : Thing → Option Thing → Thing
from_some d None = d
from_some d (Some x) = x

abbrev Marks : Mark → Thing → Type 0
Marks s x = (mark_at x ≡ s) × (same s s ≡ true) × (of_seven x ≡ true)

marks : (s : Mark) (x : Thing) → thing_at s ≡ Some x → Marks s x
unfolding mark_at
marks s x e = go s e
  where
    at : (s : Mark) (y : Thing) → Some y ≡ Some x → Marks s y → Marks s x
    at s y e m = subst (Marks s) (ap (from_some x) e) m

    go : (s : Mark) → thing_at s ≡ Some x → Marks s x
    go (VertexBuffer i) e = at (VertexBuffer i) (vertex (vertex_buffer i)) e (refl, eq-eqb i i refl, refl)
    go (Sampler u) e = at (Sampler u) (binding (sampler u)) e (refl, eq-eqb u u refl, refl)
    go (Single zero) e = at (Single 0) (screen blend_constants) e (refl, refl, refl)
    go (Single (suc zero)) e = at (Single 1) (screen viewport) e (refl, refl, refl)
    go (Single (suc (suc zero))) e = at (Single 2) (screen scissor) e (refl, refl, refl)
    go (Single (suc (suc (suc zero)))) e = at (Single 3) (binding index_buffer) e (refl, refl, refl)
    go (Single (suc (suc (suc (suc zero))))) e = at (Single 4) (fixed depth_bias) e (refl, refl, refl)
    go (Single (suc (suc (suc (suc (suc n)))))) e = false-true (ap is_some e)
    go Nothing e = false-true (ap is_some e)

-- two marks are the same where their things are
same-thing : (s t : Mark) (x y : Thing) → thing_at s ≡ Some x → thing_at t ≡ Some y → same s t ≡ is x y
same-thing s t x y p q = go (same s t) refl (is x y) refl
  where
    go : (a : Bool) → same s t ≡ a → (b : Bool) → is x y ≡ b → a ≡ b
    go true e true f = refl
    go true e false f =
        let st : s ≡ t = one-mark s t e in
        let xy : x ≡ y = ap (from_some x) (sym p ∙ ap thing_at st ∙ q) in
        sym (ap (λ (z : Thing). is z y) xy ∙ is-self y) ∙ f
    go false e true f =
        let xy : x ≡ y = one y x f in
        let st : s ≡ t = sym (marks s x p).0 ∙ ap mark_at xy ∙ (marks t y q).0 in
        sym e ∙ sym (ap (same s) st) ∙ (marks s x p).1
    go false e false f = refl

-- ---- by the class of a command: its mark has the thing that it sets, or it has none
abbrev pub Known : Class → Type 0
Known k = ((mark_of k ≡ Nothing) × (setting_of k ≡ None)) ⊎ ((x : Thing) × (thing_at (mark_of k) ≡ Some x) × (setting_of k ≡ Some x))

by-thing : (t : class.Thing) → Known (Sets t)
by-thing (Attribute l) = inl (refl, refl)
by-thing (thing.VertexBuffer i) = inr (vertex (vertex_buffer i), refl, refl)
by-thing IndexBuffer = inr (binding index_buffer, refl, refl)
by-thing (Buffer t i) = inl (refl, refl)
by-thing (Texture i) = inl (refl, refl)
by-thing (Image i) = inl (refl, refl)
by-thing (thing.Sampler u) = inr (binding (sampler u), refl, refl)
by-thing Viewport = inr (screen viewport, refl, refl)
by-thing Scissor = inr (screen scissor, refl, refl)
by-thing BlendConstants = inr (screen blend_constants, refl, refl)
by-thing Program = inl (refl, refl)
by-thing Primitive = inl (refl, refl)
by-thing DepthBias = inr (fixed depth_bias, refl, refl)
by-thing AlphaToCoverage = inl (refl, refl)
by-thing ClipDistances = inl (refl, refl)
by-thing DepthStencil = inl (refl, refl)
by-thing Depth = inl (refl, refl)
by-thing (Target i) = inl (refl, refl)
by-thing Targets = inl (refl, refl)
by-thing (StencilFunction side) = inl (refl, refl)
by-thing (StencilOperations side) = inl (refl, refl)

pub known : (k : Class) → Known k
known Draw = inl (refl, refl)
known Clear = inl (refl, refl)
known Dispatch = inl (refl, refl)
known Reset = inl (refl, refl)
known (Sets t) = by-thing t
known Other = inl (refl, refl)

-- a command sets the mark of x where it names x
pub same_names : (s : Mark) (x : Thing) → thing_at s ≡ Some x → (c : Command) → same s (mark_of (class_of c)) ≡ names c x
same_names s x p c = go (known (class_of c))
  where
    go : Known (class_of c) → same s (mark_of (class_of c)) ≡ names c x
    go (inl k) = ap (same s) k.0 ∙ same_none s ∙ sym (subst (Fact c) k.1 (fact c) x (marks s x p).2)
    go (inr k) = same-thing s (mark_of (class_of c)) x k.0 p k.1 ∙ sym ((subst (Fact c) k.2 (fact c)).0.0 x)
