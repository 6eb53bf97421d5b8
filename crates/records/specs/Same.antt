-- When two of the values that the recorder compares are the same: document 01, "recorded only on change", and gles/command.rs. Assumes nothing.
-- Each test is equality (`Equality`, at the end), but for `same_stencil_func`, which is equality of what `stencil_func` takes of a side.
use Rattle.std.specs.Prelude.{ℕ, ◌≡◌, refl, Bool, true, false, ◌&&◌, eqb, ℤ, pos, negsuc, Option, None, Some}
use Rattle.std.proofs.Common.{sym, ap, ap₂, ◌∙◌, subst, arith, eqb-true, eq-eqb}
use Rattle.names.specs.declared.gl.BlendComponent.{BlendComponent}
use Rattle.names.specs.declared.gl.BlendDesc.{BlendDesc}
use Rattle.names.specs.declared.gl.PrimitiveState.{PrimitiveState}
use Rattle.names.specs.declared.gl.StencilOps.{StencilOps}
use Rattle.names.specs.declared.gl.StencilSide.{StencilSide}
use Rattle.records.specs.declared.command.ColorTargetDesc.{ColorTargetDesc}
use Rattle.records.specs.declared.command.DepthBiasState.{DepthBiasState}

-- both set or both not
abbrev pub same_bool : Bool → Bool → Bool
same_bool true true = true
same_bool true false = false
same_bool false true = false
same_bool false false = true

-- an `i32`: both not negative or both negative, and the same number
abbrev pub same_int : ℤ → ℤ → Bool
same_int (pos m) (pos n) = eqb m n
same_int (pos m) (negsuc n) = false
same_int (negsuc m) (pos n) = false
same_int (negsuc m) (negsuc n) = eqb m n

-- both none, or both some and the same number
abbrev pub same_option_u32 : Option ℕ → Option ℕ → Bool
same_option_u32 None None = true
same_option_u32 None (Some n) = false
same_option_u32 (Some m) None = false
same_option_u32 (Some m) (Some n) = eqb m n

-- source, destination and equation of a blend component
abbrev pub same_component : BlendComponent → BlendComponent → Bool
same_component a b = eqb a.src b.src && (eqb a.dst b.dst && eqb a.equation b.equation)

-- alpha and colour
abbrev pub same_blend : BlendDesc → BlendDesc → Bool
same_blend a b = same_component a.alpha b.alpha && same_component a.color b.color

-- both none, or both some and the same blend
abbrev pub same_option_blend : Option BlendDesc → Option BlendDesc → Bool
same_option_blend None None = true
same_option_blend None (Some y) = false
same_option_blend (Some x) None = false
same_option_blend (Some x) (Some y) = same_blend x y

-- mask and blend
abbrev pub same_color_target : ColorTargetDesc → ColorTargetDesc → Bool
same_color_target a b = eqb a.mask b.mask && same_option_blend a.blend b.blend

-- the three operations
abbrev pub same_stencil_ops : StencilOps → StencilOps → Bool
same_stencil_ops a b = eqb a.pass b.pass && (eqb a.fail b.fail && eqb a.depth_fail b.depth_fail)

-- what `SetStencilFunc` takes of a side: the function, the read mask and the reference
abbrev pub stencil_func : StencilSide → ℕ × (ℕ × ℕ)
stencil_func a = (a.function, (a.mask_read, a.reference))

-- those three of two sides: `rebind_stencil_func`
abbrev pub same_stencil_func : StencilSide → StencilSide → Bool
same_stencil_func a b = eqb a.function b.function && (eqb a.mask_read b.mask_read && eqb a.reference b.reference)

-- the constant, and the bits of slope scale and clamp
abbrev pub same_depth_bias : DepthBiasState → DepthBiasState → Bool
same_depth_bias a b = same_int a.constant b.constant && (eqb a.slope_scale b.slope_scale && eqb a.clamp b.clamp)

-- the three numbers and the flag
abbrev pub same_primitive : PrimitiveState → PrimitiveState → Bool
same_primitive a b =
    eqb a.front_face b.front_face
    && (eqb a.cull_face b.cull_face
    && (same_bool a.unclipped_depth b.unclipped_depth && eqb a.polygon_mode b.polygon_mode))

-- the test says whether the two values are equal in what `part` takes of them
pub record EqualityOf {A K : Type 0} (part : A → K) (same : A → A → Bool) : Type 0 where
  pub equal : (a b : A) → same a b ≡ true → part a ≡ part b
  pub found : (a b : A) → part a ≡ part b → same a b ≡ true

-- the test is equality
abbrev pub Equality : {A : Type 0} → (A → A → Bool) → Type 0
Equality {A} same = EqualityOf (λ (a : A). a) same

pub itself : {A : Type 0} {same : A → A → Bool} → Equality same → (a : A) → same a a ≡ true
itself E a = E.found a a refl

equality : {A : Type 0} {same : A → A → Bool} → ((a b : A) → same a b ≡ true → a ≡ b) → ((a : A) → same a a ≡ true) → Equality same
equality {A} {same} equal self = record { equal = equal; found = λ a b e. subst (λ (x : A). same a x ≡ true) e (self a) }

never : {X : Type 0} → false ≡ true → X
never e = let z : ◌≡◌ {A = ℕ} 0 1 = cc in absurd (omega arith)

halves : (s t : Bool) → s && t ≡ true → (s ≡ true) × (t ≡ true)
halves true t e = (refl, e)
halves false t e = never e

both : {A B : Type 0} {f : A → A → Bool} {g : B → B → Bool} → Equality f → Equality g
    → Equality (λ (p q : A × B). f p.0 q.0 && g p.1 q.1)
both {A} {B} {f} {g} F G = equality equal (λ p. rw (itself F p.0) (itself G p.1))
  where
    equal : (p q : A × B) → f p.0 q.0 && g p.1 q.1 ≡ true → p ≡ q
    equal p q e =
        let h = halves (f p.0 q.0) (g p.1 q.1) e in
        ap₂ (λ (a : A) (b : B). (a, b)) (F.equal p.0 q.0 h.0) (G.equal p.1 q.1 h.1)

-- a test of a part, and of the whole where the part makes it again
by_part : {A K : Type 0} (part : A → K) {f : K → K → Bool} → Equality f → EqualityOf part (λ (a b : A). f (part a) (part b))
by_part part F = record { equal = λ a b. F.equal (part a) (part b); found = λ a b. F.found (part a) (part b) }

by-fields : {A K : Type 0} (part : A → K) (make : K → A) → ((a : A) → make (part a) ≡ a) → {f : K → K → Bool} → Equality f
    → Equality (λ (a b : A). f (part a) (part b))
by-fields part make back F =
    equality (λ a b e. sym (back a) ∙ ap make (F.equal (part a) (part b) e) ∙ back b) (λ a. itself F (part a))

pub number : Equality eqb
number = record { equal = eqb-true; found = eq-eqb }

pub flag : Equality same_bool
flag = equality equal self
  where
    equal : (a b : Bool) → same_bool a b ≡ true → a ≡ b
    equal true true e = refl
    equal true false e = never e
    equal false true e = never e
    equal false false e = refl

    self : (a : Bool) → same_bool a a ≡ true
    self true = refl
    self false = refl

pub integer : Equality same_int
integer = equality equal self
  where
    equal : (a b : ℤ) → same_int a b ≡ true → a ≡ b
    equal (pos m) (pos n) e = ap pos (eqb-true m n e)
    equal (pos m) (negsuc n) e = never e
    equal (negsuc m) (pos n) e = never e
    equal (negsuc m) (negsuc n) e = ap negsuc (eqb-true m n e)

    self : (a : ℤ) → same_int a a ≡ true
    self (pos m) = eq-eqb m m refl
    self (negsuc m) = eq-eqb m m refl

pub option-u32 : Equality same_option_u32
option-u32 = equality equal self
  where
    equal : (a b : Option ℕ) → same_option_u32 a b ≡ true → a ≡ b
    equal None None e = refl
    equal None (Some n) e = never e
    equal (Some m) None e = never e
    equal (Some m) (Some n) e = ap Some (eqb-true m n e)

    self : (a : Option ℕ) → same_option_u32 a a ≡ true
    self None = refl
    self (Some m) = eq-eqb m m refl

pub component : Equality same_component
component =
    by-fields (λ a. (a.src, (a.dst, a.equation))) (λ k. record { src = k.0; dst = k.1.0; equation = k.1.1 }) (λ a. refl)
    (both number (both number number))

pub blend : Equality same_blend
blend = by-fields (λ a. (a.alpha, a.color)) (λ k. record { alpha = k.0; color = k.1 }) (λ a. refl) (both component component)

pub option-blend : Equality same_option_blend
option-blend = equality equal self
  where
    equal : (a b : Option BlendDesc) → same_option_blend a b ≡ true → a ≡ b
    equal None None e = refl
    equal None (Some n) e = never e
    equal (Some m) None e = never e
    equal (Some m) (Some n) e = ap Some (blend.equal m n e)

    self : (a : Option BlendDesc) → same_option_blend a a ≡ true
    self None = refl
    self (Some m) = itself blend m

pub color-target : Equality same_color_target
color-target = by-fields (λ a. (a.mask, a.blend)) (λ k. record { mask = k.0; blend = k.1 }) (λ a. refl) (both number option-blend)

pub stencil-ops : Equality same_stencil_ops
stencil-ops =
    by-fields (λ a. (a.pass, (a.fail, a.depth_fail))) (λ k. record { pass = k.0; fail = k.1.0; depth_fail = k.1.1 }) (λ a. refl)
    (both number (both number number))

pub stencil-func : EqualityOf stencil_func same_stencil_func
stencil-func = by_part stencil_func (both number (both number number))

pub depth_bias : Equality same_depth_bias
depth_bias =
    by-fields (λ a. (a.constant, (a.slope_scale, a.clamp))) (λ k. record { constant = k.0; slope_scale = k.1.0; clamp = k.1.1 }) (λ a. refl)
    (both integer (both number number))

pub primitive : Equality same_primitive
primitive =
    by-fields (λ a. (a.front_face, (a.cull_face, (a.unclipped_depth, a.polygon_mode))))
    (λ k. record { front_face = k.0; cull_face = k.1.0; unclipped_depth = k.1.1.0; polygon_mode = k.1.1.1 }) (λ a. refl)
    (both number (both number (both flag number)))
