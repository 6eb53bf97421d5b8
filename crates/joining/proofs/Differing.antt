-- Of the five exactly those are put in that are not as on a fresh machine. Assumes nothing.
use Prim.Native.Nat.{ℕ, zero, suc, ◌+◌, ◌≤◌, ◌<◌}
use mathlib.Core.Path.{◌≡◌, refl, sym, ap, ap₂, ◌∙◌}
use mathlib.Core.Bool.{Bool, true, false, not, ◌&&◌, ◌||◌}
use mathlib.Core.List.{List, [], ◌∷◌, ◌++◌}
use native.Mathlib.Omega.{arith}
use lib.Dec.{eqb, ltb}
use lib.Ieee.{binary32, of_bits}
use borrow.Author.Tests.{eqb-true, eqb-false, ne_eqb, ltb-true, ltb-false, le-ltb}
use Rattle.numbers.specs.Convert.{bits32}
use Rattle.records.specs.Check.{some?}
use Rattle.records.specs.Start.{start_depth_bias}
use Rattle.records.specs.Same.{same_depth_bias, depth_bias as depth-equal}
use Rattle.records.specs.declared.command.Command.{Command}
use Rattle.records.specs.declared.command.Command.TheVariants.{SetDepthBias, SetAlphaToCoverage, SetBlendConstant, BindSampler, SetClipDistances}
use Rattle.std.specs.Prelude.{Option, None, Some}
use Rattle.machine.specs.Machine.{Gl, fresh_gl}
use Rattle.machine.proofs.Lists.{false-true, true-false, and-true, and-false, not-true, not-false}
use Rattle.lists.specs.Clips.{chained}
use Rattle.lists.specs.Things.{buffer, texture, image, sampler, index_buffer, viewport, scissor, blend_constants, program, primitive, depth_bias, alpha_to_coverage, depth_stencil, depth, target, clip_distance}
use Rattle.lists.specs.Things.{Thing, vertex, binding, screen, fixed, face, Same, names, named}
use Rattle.joining.specs.Joined.{off, samplers_off, no_color, zero_color, only, resets, end_of, bound_of, Floats}
use Rattle.joining.specs.Claim.{five, is_clip, OnlyDiffering}
use Rattle.joining.proofs.Alone.{color-zero, no_bits}
use Rattle.joining.proofs.Bounded.{bounded, chained-bound, chained-on}

-- ---- what a list names
named-append : (xs ys : List Command) (t : Thing) → named (xs ++ ys) t ≡ named xs t || named ys t
unfolding some?
named-append [] ys t = refl
named-append (x ∷ xs) ys t = ap (λ (b : Bool). names x t || b) (named-append xs ys t) ∙ regroup (names x t)
  where
    regroup : (a : Bool) → a || (named xs t || named ys t) ≡ (a || named xs t) || named ys t
    regroup true = refl
    regroup false = refl

or-false : (a : Bool) → a || false ≡ a
or-false true = refl
or-false false = refl

-- a command that is put in where the test says so
unnamed-only : (b : Bool) (c : Command) (t : Thing) → names c t ≡ false → named (only b c) t ≡ false
unfolding some?
unnamed-only true c t e = ap (λ (a : Bool). a || false) e
unnamed-only false c t e = refl

named-only : (b : Bool) (c : Command) (t : Thing) → names c t ≡ true → named (only b c) t ≡ b
unfolding some?
named-only true c t e = ap (λ (a : Bool). a || false) e
named-only false c t e = refl

-- the samplers
abbrev on : Option ℕ → Bool
on None = false
on (Some s) = true

unnamed-off : (n u : ℕ) (s : ℕ → Option ℕ) (t : Thing) → ((i : ℕ) → names (BindSampler i None) t ≡ false) → named (samplers_off n u s) t ≡ false
unfolding some? samplers_off
unnamed-off zero u s t h = refl
unnamed-off (suc n) u s t h = named-append (off u (s u)) (samplers_off n (suc u) s) t ∙ ap₂ (λ (a b : Bool). a || b) (unit (s u)) (unnamed-off n (suc u) s t h)
  where
    unit : (o : Option ℕ) → named (off u o) t ≡ false
    unit None = refl
    unit (Some x) = ap (λ (a : Bool). a || false) (h u)

-- below the units that are gone through, and among them
below-off : (n u : ℕ) (s : ℕ → Option ℕ) (k : ℕ) → k < u → named (samplers_off n u s) (binding (sampler k)) ≡ false
unfolding some? samplers_off
below-off zero u s k l = refl
below-off (suc n) u s k l = named-append (off u (s u)) (samplers_off n (suc u) s) (binding (sampler k)) ∙ ap₂ (λ (a b : Bool). a || b) (unit (s u)) (below-off n (suc u) s k (omega arith))
  where
    apart : eqb k u ≡ false
    apart = ne_eqb k u (λ e. omega (arith, e))

    unit : (o : Option ℕ) → named (off u o) (binding (sampler k)) ≡ false
    unit None = refl
    unit (Some x) = ap (λ (a : Bool). a || false) apart

named-off : (n u : ℕ) (s : ℕ → Option ℕ) (k : ℕ) → u ≤ k → k < u + n → named (samplers_off n u s) (binding (sampler k)) ≡ on (s k)
unfolding some? samplers_off
named-off zero u s k l h = absurd (omega arith)
named-off (suc n) u s k l h = named-append (off u (s u)) (samplers_off n (suc u) s) (binding (sampler k)) ∙ go (eqb k u) refl (λ p. named-off n (suc u) s k p (omega arith))
  where
    unit : (o : Option ℕ) → named (off u o) (binding (sampler k)) ≡ on o && eqb k u
    unit None = refl
    unit (Some x) = or-false (eqb k u)

    go : (t : Bool) → eqb k u ≡ t → (suc u ≤ k → named (samplers_off n (suc u) s) (binding (sampler k)) ≡ on (s k))
        → named (off u (s u)) (binding (sampler k)) || named (samplers_off n (suc u) s) (binding (sampler k)) ≡ on (s k)
    go true e ih =
        let z : k ≡ u = eqb-true k u e in
        ap₂ (λ (a b : Bool). a || b) (unit (s u) ∙ ap (λ (t : Bool). on (s u) && t) e) (below-off n (suc u) s k (omega (arith, z)))
        ∙ or-false (on (s u) && true) ∙ and-true (on (s u)) ∙ ap (λ (i : ℕ). on (s i)) (sym z)
    go false e ih =
        let z : (k ≡ u → ⊥) = eqb-false k u e in
        ap₂ (λ (a b : Bool). a || b) (unit (s u) ∙ ap (λ (t : Bool). on (s u) && t) e ∙ and-false (on (s u))) (ih (past z))
      where
        past : (k ≡ u → ⊥) → suc u ≤ k
        past z = omega (arith, z)

-- ---- what is put in names one of the five where that is not as on a fresh machine
abbrev differs : Gl → ℕ → Thing → Bool
differs g n (vertex x) = false
differs g n (binding (buffer t i)) = false
differs g n (binding (texture i)) = false
differs g n (binding (image i)) = false
differs g n (binding (sampler u)) = on (g.bindings.samplers u)
differs g n (binding index_buffer) = false
differs g n (screen viewport) = false
differs g n (screen scissor) = false
differs g n (screen blend_constants) = not (zero_color g.screen.blend)
differs g n (fixed program) = false
differs g n (fixed primitive) = false
differs g n (fixed depth_bias) = not (same_depth_bias g.fixed.bias start_depth_bias)
differs g n (fixed alpha_to_coverage) = g.fixed.alpha
differs g n (fixed depth_stencil) = false
differs g n (fixed depth) = false
differs g n (fixed (target i)) = false
differs g n (fixed (clip_distance i)) = ltb i n
differs g n (face x) = false

module _ (g : Gl) (n : ℕ) where
  abbrev samplers : List Command
  samplers = samplers_off 16 0 g.bindings.samplers

  abbrev bias : List Command
  bias = only (not (same_depth_bias g.fixed.bias start_depth_bias)) (SetDepthBias start_depth_bias)

  abbrev blend : List Command
  blend = only (not (zero_color g.screen.blend)) (SetBlendConstant no_color)

  abbrev alpha : List Command
  alpha = only g.fixed.alpha (SetAlphaToCoverage false)

  abbrev clip : List Command
  clip = only (not (eqb n 0)) (SetClipDistances n 0)

  -- by its five parts, each with its own answer
  parts : (t : Thing) (p q r s w : Bool) → named samplers t ≡ p → named bias t ≡ q → named blend t ≡ r → named alpha t ≡ s → named clip t ≡ w → named (resets g n) t ≡ p || (q || (r || (s || w)))
  parts t p q r s w e₁ e₂ e₃ e₄ e₅ =
      named-append samplers (bias ++ (blend ++ (alpha ++ clip))) t
      ∙ ap (λ (b : Bool). named samplers t || b) (named-append bias (blend ++ (alpha ++ clip)) t
      ∙ ap (λ (b : Bool). named bias t || b) (named-append blend (alpha ++ clip) t
      ∙ ap (λ (b : Bool). named blend t || b) (named-append alpha clip t)))
      ∙ (λ j. e₁ j || (e₂ j || (e₃ j || (e₄ j || e₅ j))))

  no-bias : (t : Thing) → names (SetDepthBias start_depth_bias) t ≡ false → named bias t ≡ false
  no-bias t e = unnamed-only (not (same_depth_bias g.fixed.bias start_depth_bias)) (SetDepthBias start_depth_bias) t e

  no-blend : (t : Thing) → names (SetBlendConstant no_color) t ≡ false → named blend t ≡ false
  no-blend t e = unnamed-only (not (zero_color g.screen.blend)) (SetBlendConstant no_color) t e

  no-alpha : (t : Thing) → names (SetAlphaToCoverage false) t ≡ false → named alpha t ≡ false
  no-alpha t e = unnamed-only g.fixed.alpha (SetAlphaToCoverage false) t e

  no-clip : (t : Thing) → names (SetClipDistances n 0) t ≡ false → named clip t ≡ false
  no-clip t e = unnamed-only (not (eqb n 0)) (SetClipDistances n 0) t e

  -- the distances below the count
  clip-named : (i : ℕ) → named clip (fixed (clip_distance i)) ≡ ltb i n
  unfolding some?
  clip-named i = go (eqb n 0) refl
    where
      low : names (SetClipDistances n 0) (fixed (clip_distance i)) ≡ ltb i n
      low = ap (λ (t : Bool). (not (ltb i n) && t) || (not t && ltb i n)) (le-ltb i 0 (omega arith)) ∙ ap (λ (t : Bool). t || ltb i n) (and-false (not (ltb i n)))

      go : (t : Bool) → eqb n 0 ≡ t → named (only (not t) (SetClipDistances n 0)) (fixed (clip_distance i)) ≡ ltb i n
      go true e = sym (le-ltb i n (let z : n ≡ 0 = eqb-true n 0 e in omega (arith, z)))
      go false e = or-false (names (SetClipDistances n 0) (fixed (clip_distance i))) ∙ low

  five-named : (t : Thing) → five t ≡ true → named (resets g n) t ≡ differs g n t
  five-named (vertex x) e = false-true e
  five-named (binding (buffer ta i)) e = false-true e
  five-named (binding (texture i)) e = false-true e
  five-named (binding (image i)) e = false-true e
  five-named (binding (sampler u)) e =
      let t = binding (sampler u) in
      parts t (on (g.bindings.samplers u)) false false false false (named-off 16 0 g.bindings.samplers u (omega arith) (let l = ltb-true u 16 e in omega (arith, l)))
      (no-bias t refl) (no-blend t refl) (no-alpha t refl) (no-clip t refl)
      ∙ or-false (on (g.bindings.samplers u))
  five-named (binding index_buffer) e = false-true e
  five-named (screen viewport) e = false-true e
  five-named (screen scissor) e = false-true e
  five-named (screen blend_constants) e =
      let t = screen blend_constants in
      parts t false false (not (zero_color g.screen.blend)) false false (unnamed-off 16 0 g.bindings.samplers t (λ i. refl)) (no-bias t refl)
      (named-only (not (zero_color g.screen.blend)) (SetBlendConstant no_color) t refl) (no-alpha t refl) (no-clip t refl)
      ∙ or-false (not (zero_color g.screen.blend))
  five-named (fixed program) e = false-true e
  five-named (fixed primitive) e = false-true e
  five-named (fixed depth_bias) e =
      let t = fixed depth_bias in
      parts t false (not (same_depth_bias g.fixed.bias start_depth_bias)) false false false (unnamed-off 16 0 g.bindings.samplers t (λ i. refl))
      (named-only (not (same_depth_bias g.fixed.bias start_depth_bias)) (SetDepthBias start_depth_bias) t refl) (no-blend t refl) (no-alpha t refl) (no-clip t refl)
      ∙ or-false (not (same_depth_bias g.fixed.bias start_depth_bias))
  five-named (fixed alpha_to_coverage) e =
      let t = fixed alpha_to_coverage in
      parts t false false false g.fixed.alpha false (unnamed-off 16 0 g.bindings.samplers t (λ i. refl)) (no-bias t refl) (no-blend t refl)
      (named-only g.fixed.alpha (SetAlphaToCoverage false) t refl) (no-clip t refl)
      ∙ or-false g.fixed.alpha
  five-named (fixed depth_stencil) e = false-true e
  five-named (fixed depth) e = false-true e
  five-named (fixed (target i)) e = false-true e
  five-named (fixed (clip_distance i)) e =
      let t = fixed (clip_distance i) in
      parts t false false false false (ltb i n) (unnamed-off 16 0 g.bindings.samplers t (λ i. refl)) (no-bias t refl) (no-blend t refl) (no-alpha t refl) (clip-named i)
  five-named (face x) e = false-true e

-- ---- of a list's end
off-is : (o : Option ℕ) → on o ≡ false → o ≡ None
off-is None e = refl
off-is (Some s) e = true-false e

zero_is : zero_color no_color ≡ true
zero_is = let z : eqb (bits32 (of_bits binary32 0)) 0 ≡ true = ap (λ (k : ℕ). eqb k 0) no_bits in λ j. z j && (z j && (z j && z j))

no_longer : {X : Type 0} (b : Bool) → not b ≡ true → b ≡ true → X
no_longer b e f = true-false (sym f ∙ not-true b e)

pub only-differing : (cs : List Command) → Floats (end_of cs).screen.blend → OnlyDiffering cs
only-differing cs F = record { every = λ t e k. all t e (sym (five-named g n t e) ∙ k); only = λ t e c k. none t e c (sym (five-named g n t e) ∙ k) }
  where
    g : Gl
    g = end_of cs

    n : ℕ
    n = bound_of cs

    all : (t : Thing) → five t ≡ true → differs g n t ≡ false → Same t g fresh_gl
    all (vertex x) e k = false-true e
    all (binding (buffer ta i)) e k = false-true e
    all (binding (texture i)) e k = false-true e
    all (binding (image i)) e k = false-true e
    all (binding (sampler u)) e k = off-is (g.bindings.samplers u) k
    all (binding index_buffer) e k = false-true e
    all (screen viewport) e k = false-true e
    all (screen scissor) e k = false-true e
    all (screen blend_constants) e k = color-zero g.screen.blend F (not-false (zero_color g.screen.blend) k)
    all (fixed program) e k = false-true e
    all (fixed primitive) e k = false-true e
    all (fixed depth_bias) e k = depth-equal.equal g.fixed.bias start_depth_bias (not-false (same_depth_bias g.fixed.bias start_depth_bias) k)
    all (fixed alpha_to_coverage) e k = k
    all (fixed depth_stencil) e k = false-true e
    all (fixed depth) e k = false-true e
    all (fixed (target i)) e k = false-true e
    all (fixed (clip_distance i)) e k = bounded cs i (ltb-false i n k)
    all (face x) e k = false-true e

    none : (t : Thing) → five t ≡ true → (is_clip t ≡ true → chained 0 cs ≡ true) → differs g n t ≡ true → Same t g fresh_gl → ⊥
    none (vertex x) e c k s = false-true e
    none (binding (buffer ta i)) e c k s = false-true e
    none (binding (texture i)) e c k s = false-true e
    none (binding (image i)) e c k s = false-true e
    none (binding (sampler u)) e c k s = false-true (sym (ap on s) ∙ k)
    none (binding index_buffer) e c k s = false-true e
    none (screen viewport) e c k s = false-true e
    none (screen scissor) e c k s = false-true e
    none (screen blend_constants) e c k s = no_longer (zero_color g.screen.blend) k (ap zero_color s ∙ zero_is)
    none (fixed program) e c k s = false-true e
    none (fixed primitive) e c k s = false-true e
    none (fixed depth_bias) e c k s = no_longer (same_depth_bias g.fixed.bias start_depth_bias) k (depth-equal.found g.fixed.bias start_depth_bias s)
    none (fixed alpha_to_coverage) e c k s = false-true (sym s ∙ k)
    none (fixed depth_stencil) e c k s = false-true e
    none (fixed depth) e c k s = false-true e
    none (fixed (target i)) e c k s = false-true e
    none (fixed (clip_distance i)) e c k s = false-true (sym s ∙ chained-on cs (c refl) i ∙ ap (ltb i) (sym (chained-bound cs (c refl))) ∙ k)
    none (face x) e c k s = false-true e
