-- Facts on lists, truth values and options that the proof of the order theorem uses. Assumes nothing.
use Prim.Native.Nat.{ℕ, ◌<◌}
use mathlib.Core.Path.{◌≡◌, refl, sym, ap, ap₂, ◌∙◌}
use mathlib.Core.Bool.{Bool, true, false, cond, not, ◌&&◌, ◌||◌}
use mathlib.Core.List.{List, [], ◌∷◌, map}
use Rattle.std.specs.Prelude.{None, Some}
use native.Mathlib.Omega.{arith}
use native.Mathlib.Decide.{ℕ_discrete}
use lib.Dec.{eqb}
use lib.ListN.{length, get_or, set}
use lib.Seq.{get_or-set_same, get_or-set_other}
use borrow.Author.Tests.{eq-eqb, ne_eqb}
use Rattle.records.specs.Check.{some?, among, twice, locations}
use Rattle.records.specs.declared.command.AttributeDesc.{AttributeDesc}
use Rattle.machine.specs.Each.{Each}

-- ---- truth values
pub false-true : {A : Type 0} → false ≡ true → A
false-true e = let z : ◌≡◌ {A = ℕ} 0 1 = cc in absurd (omega arith)

pub true-false : {A : Type 0} → true ≡ false → A
true-false e = false-true (sym e)

pub or_left : (a b : Bool) → a || b ≡ false → a ≡ false
or_left true b e = e
or_left false b e = refl

pub or_right : (a b : Bool) → a || b ≡ false → b ≡ false
or_right true b e = true-false e
or_right false b e = e

pub and_left : (a b : Bool) → a && b ≡ true → a ≡ true
and_left true b e = refl
and_left false b e = e

pub and_right : (a b : Bool) → a && b ≡ true → b ≡ true
and_right true b e = e
and_right false b e = false-true e

pub and-true : (a : Bool) → a && true ≡ a
and-true true = refl
and-true false = refl

pub and-false : (a : Bool) → a && false ≡ false
and-false true = refl
and-false false = refl

pub and-false-left : (a b : Bool) → a && b ≡ false → b ≡ true → a ≡ false
and-false-left true b e f = true-false (sym f ∙ e)
and-false-left false b e f = refl

pub not-true : (a : Bool) → not a ≡ true → a ≡ false
not-true true e = sym e
not-true false e = refl

pub not-false : (a : Bool) → not a ≡ false → a ≡ true
not-false true e = refl
not-false false e = sym e

pub both_ways : (a : Bool) → (a ≡ true → ⊥) → a ≡ false
both_ways true h = absurd (h refl)
both_ways false h = refl

pub some-none : {A B : Type 0} {a : A} → Some a ≡ None → B
some-none e = let z : ◌≡◌ {A = ℕ} 0 1 = cc in absurd (omega arith)

pub none-some : {A B : Type 0} {a : A} → None ≡ Some a → B
none-some e = some-none (sym e)

-- ---- a property of each element of a list
pub each_map : {A B : Type 0} (f g : A → B) (l : List A) → Each (λ x. f x ≡ g x) l → map f l ≡ map g l
each_map f g [] h = refl
each_map {B = B} f g (x ∷ xs) h = ap₂ (λ (y : B) (ys : List B). y ∷ ys) h.0 (each_map f g xs h.1)

pub each-always : {A : Type 0} (P : A → Type 0) (l : List A) → ((x : A) → P x) → Each P l
each-always P [] h = tt
each-always P (x ∷ xs) h = (h x, each-always P xs h)

pub each-with : {A : Type 0} (P Q R : A → Type 0) (l : List A) → ((x : A) → P x → Q x → R x) → Each P l → Each Q l → Each R l
each-with P Q R [] f h k = tt
each-with P Q R (x ∷ xs) f h k = (f x h.0 k.0, each-with P Q R xs f h.1 k.1)

-- where no element has a property that is tested
pub each-not : {A : Type 0} (f : A → Bool) (l : List A) → some? f l ≡ false → Each (λ x. f x ≡ false) l
unfolding some?
each-not f [] e = tt
each-not f (x ∷ xs) e = (or_left (f x) (some? f xs) e, each-not f xs (or_right (f x) (some? f xs) e))

-- ---- attributes at different locations
pub apart : (a : AttributeDesc) (l : List AttributeDesc) → twice (locations (a ∷ l)) ≡ false → among a.location (locations l) ≡ false
unfolding twice
apart a l e = or_left (among a.location (locations l)) (twice (locations l)) e

pub apart-rest : (a : AttributeDesc) (l : List AttributeDesc) → twice (locations (a ∷ l)) ≡ false → twice (locations l) ≡ false
unfolding twice
apart-rest a l e = or_right (among a.location (locations l)) (twice (locations l)) e

-- each of a list stands at another location than x
pub elsewhere : (x : ℕ) (l : List AttributeDesc) → among x (locations l) ≡ false → Each (λ (a : AttributeDesc). a.location ≡ x → ⊥) l
unfolding among
elsewhere x [] e = tt
elsewhere x (a ∷ l) e =
    ((λ q. true-false (sym (eq-eqb x a.location (sym q)) ∙ or_left (eqb x a.location) (among x (locations l)) e)), elsewhere x l (or_right (eqb x a.location) (among x (locations l)) e))

-- ---- one element of a list changed
pub set_at : {A : Type 0} (l : List A) (k i : ℕ) (v d : A) → k < length l → get_or (set l k v) i d ≡ cond (eqb i k) v (get_or l i d)
set_at l k i v d h = go (ℕ_discrete i k)
  where
    go : Dec (i ≡ k) → get_or (set l k v) i d ≡ cond (eqb i k) v (get_or l i d)
    go (yes e) = rw (eq-eqb i k e) (ap (λ (j : ℕ). get_or (set l k v) j d) e ∙ get_or-set_same l k v d h)
    go (no ne) = rw (ne_eqb i k ne) (get_or-set_other l k i v d ne)
