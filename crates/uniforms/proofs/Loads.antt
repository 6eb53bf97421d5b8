-- Loading uniforms of the current program, one or a list of them. Assumes nothing.
-- `filter_same` is the step: a descriptor that is left out holds its words already.
use Prim.Native.Nat.{ℕ}
use mathlib.Core.Path.{◌≡◌, refl, sym, ap, ap₂, ◌∙◌}
use mathlib.Core.Bool.{Bool, true, false, cond}
use mathlib.Core.List.{List, [], ◌∷◌}
use Rattle.std.specs.Prelude.{Option, None, Some}
use native.Mathlib.Decide.{ℕ_discrete}
use lib.Dec.{eqb}
use Rattle.tables.specs.Tabulate.{upd, upd_same, upd_other}
use Rattle.records.specs.declared.command.ImmediateDesc.{ImmediateDesc}
use Rattle.bindings.specs.Immediates.{words_of, filter}
use Rattle.numbers.specs.Bytes.{bytes_of}
use Rattle.machine.specs.Each.{Each}
use Rattle.machine.proofs.Lists.{each-with}
use Rattle.uniforms.specs.Uniforms.{Value, Uniforms, load}
use Rattle.uniforms.specs.Kind.{Apart}

-- a descriptor's value, where these are the words
abbrev pub value_of : List ℕ → ImmediateDesc → Value
value_of w d = record { ty = d.ty; bytes = bytes_of (words_of w d) }

abbrev pub Same : Uniforms → Uniforms → Type 0
Same u v = (p l : ℕ) → u p l ≡ v p l

-- ---- one uniform
load_at : (p l : ℕ) (x : Value) (u : Uniforms) → load (Some p) l x u p l ≡ Some x
load_at p l x u = ap (λ (f : ℕ → Option Value). f l) (upd_same u p (upd (u p) l (Some x))) ∙ upd_same (u p) l (Some x)

load-other : (p l k : ℕ) (x : Value) (u : Uniforms) → (k ≡ l → ⊥) → load (Some p) l x u p k ≡ u p k
load-other p l k x u ne = ap (λ (f : ℕ → Option Value). f k) (upd_same u p (upd (u p) l (Some x))) ∙ upd_other (u p) l k (Some x) ne

load_same : (p l : ℕ) (x : Value) (u v : Uniforms) → Same u v → Same (load (Some p) l x u) (load (Some p) l x v)
load_same p l x u v h q k = go (eqb q p) (h p k) (h q k)
  where
    go : (s : Bool) → u p k ≡ v p k → u q k ≡ v q k → cond s (upd (u p) l (Some x)) (u q) k ≡ cond s (upd (v p) l (Some x)) (v q) k
    go true a b = ap (λ (y : Option Value). cond (eqb k l) (Some x) y) a
    go false a b = b

-- a value that is there already
load-idle : (p l : ℕ) (x : Value) (u v : Uniforms) → Same u v → u p l ≡ Some x → Same u (load (Some p) l x v)
load-idle p l x u v h e q k = go (ℕ_discrete q p) (ℕ_discrete k l)
  where
    go : Dec (q ≡ p) → Dec (k ≡ l) → u q k ≡ load (Some p) l x v q k
    go (yes a) (yes b) = ap₂ u a b ∙ e ∙ sym (load_at p l x v) ∙ sym (ap₂ (load (Some p) l x v) a b)
    go (yes a) (no b) = ap (λ (i : ℕ). u i k) a ∙ h p k ∙ sym (load-other p l k x v b) ∙ sym (ap (λ (i : ℕ). load (Some p) l x v i k) a)
    go (no a) b = h q k ∙ sym (ap (λ (f : ℕ → Option Value). f k) (upd_other v p q (upd (v p) l (Some x)) a))

-- ---- each of some descriptors, with its words
abbrev pub loaded : Option ℕ → List ℕ → List ImmediateDesc → Uniforms → Uniforms
loaded p w [] u = u
loaded p w (d ∷ ds) u = loaded p w ds (load p d.location (value_of w d) u)

-- without a program nothing is loaded
pub loaded-none : (w : List ℕ) (ds : List ImmediateDesc) (u : Uniforms) → Same (loaded None w ds u) u
loaded-none w [] u p l = refl
loaded-none w (d ∷ ds) u p l = loaded-none w ds u p l

-- what is left out holds its words already: then it makes no difference
pub filter_same : (p : ℕ) (w : List ℕ) (f : ImmediateDesc → Bool) (ds : List ImmediateDesc) (u v : Uniforms) → Apart ds → Same u v
    → Each (λ (d : ImmediateDesc). f d ≡ false → u p d.location ≡ Some (value_of w d)) ds → Same (loaded (Some p) w (filter f ds) u) (loaded (Some p) w ds v)
unfolding filter
filter_same p w f [] u v a h k = h
filter_same p w f (d ∷ ds) u v a h k = go (f d) refl (λ u' v'. filter_same p w f ds u' v' a.1)
  where
    x : Value
    x = value_of w d

    -- those behind it are at other locations
    behind : Each (λ (e : ImmediateDesc). f e ≡ false → load (Some p) d.location x u p e.location ≡ Some (value_of w e)) ds
    behind =
        each-with (λ (e : ImmediateDesc). e.location ≡ d.location → ⊥) (λ (e : ImmediateDesc). f e ≡ false → u p e.location ≡ Some (value_of w e))
        (λ (e : ImmediateDesc). f e ≡ false → load (Some p) d.location x u p e.location ≡ Some (value_of w e)) ds
        (λ e ne g q. load-other p d.location e.location x u ne ∙ g q) a.0 k.1

    go : (t : Bool) → f d ≡ t
        → ((u' v' : Uniforms) → Same u' v' → Each (λ (d : ImmediateDesc). f d ≡ false → u' p d.location ≡ Some (value_of w d)) ds
        → Same (loaded (Some p) w (filter f ds) u') (loaded (Some p) w ds v'))
        → Same (loaded (Some p) w (cond t (d ∷ filter f ds) (filter f ds)) u) (loaded (Some p) w ds (load (Some p) d.location x v))
    go true e ih = ih (load (Some p) d.location x u) (load (Some p) d.location x v) (load_same p d.location x u v h) behind
    go false e ih = ih u (load (Some p) d.location x v) (load-idle p d.location x u v h (k.0 e)) k.1

-- a location that none of them has is left
loaded-other : (p l : ℕ) (w : List ℕ) (ds : List ImmediateDesc) (u : Uniforms) → Each (λ (e : ImmediateDesc). e.location ≡ l → ⊥) ds → loaded (Some p) w ds u p l ≡ u p l
loaded-other p l w [] u h = refl
loaded-other p l w (d ∷ ds) u h = loaded-other p l w ds (load (Some p) d.location (value_of w d) u) h.1 ∙ load-other p d.location l (value_of w d) u (λ e. h.0 (sym e))

-- after all are loaded each holds its words
pub all-loaded : (p : ℕ) (w : List ℕ) (ds : List ImmediateDesc) (u : Uniforms) → Apart ds → Each (λ (d : ImmediateDesc). loaded (Some p) w ds u p d.location ≡ Some (value_of w d)) ds
all-loaded p w [] u a = tt
all-loaded p w (d ∷ ds) u a =
    let u' : Uniforms = load (Some p) d.location (value_of w d) u in
    (loaded-other p d.location w ds u' a.0 ∙ load_at p d.location (value_of w d) u, all-loaded p w ds u' a.1)

-- ---- descriptors of which all are sent
pub filter-all : {f : ImmediateDesc → Bool} → ((d : ImmediateDesc) → f d ≡ true) → (ds : List ImmediateDesc) → filter f ds ≡ ds
unfolding filter
filter-all h [] = refl
filter-all h (d ∷ ds) = ap₂ (λ (t : Bool) (l : List ImmediateDesc). cond t (d ∷ l) l) (h d) (filter-all h ds)
