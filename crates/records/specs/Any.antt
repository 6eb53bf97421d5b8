-- The searches of `Check` in std's word, `list_any`. Assumes nothing.
-- `some-any`: of a property. `among-any`: of a location. `units-any`: of a unit, with its place.
use Rattle.std.specs.Prelude.{ℕ, suc, ◌≡◌, refl, Bool, ◌&&◌, ◌||◌, List, [], ◌∷◌, leb, eqb}
use Rattle.std.specs.List.{list_any, enumerate_from}
use Rattle.std.proofs.Common.{ap, add-one}
use Rattle.mask.specs.Mask.{test_bit}
use Rattle.records.specs.declared.command.AttributeDesc.{AttributeDesc}
use Rattle.records.specs.declared.state.TextureSlotDesc.{TextureSlotDesc}
use Rattle.records.specs.Check.{some?, among, locations, bad_units}

pub some-any : {A : Type 0} (f : A → Bool) (l : List A) → some? f l ≡ list_any f l
unfolding some?
some-any f [] = refl
some-any f (x ∷ l) = ap (λ (b : Bool). f x || b) (some-any f l)

-- the attribute has the location
abbrev pub has_location : ℕ → AttributeDesc → Bool
has_location x a = eqb x a.location

pub among-any : (x : ℕ) (l : List AttributeDesc) → list_any (has_location x) l ≡ among x (locations l)
unfolding among
among-any x [] = refl
among-any x (a ∷ l) = ap (λ (b : Bool). eqb x a.location || b) (among-any x l)

-- the unit at its place takes a sampler, of a number of 16 or more
abbrev pub sampled_past : ℕ → ℕ × TextureSlotDesc → Bool
sampled_past sampled u = test_bit sampled u.0 && leb 16 u.1.sampler_index

pub units-any : (sampled i : ℕ) (l : List TextureSlotDesc) → list_any (sampled_past sampled) (enumerate_from i l) ≡ bad_units sampled i l
unfolding bad_units
units-any sampled i [] = refl
units-any sampled i (t ∷ l) = ap (λ (b : Bool). (test_bit sampled i && leb 16 t.sampler_index) || b) (rw add-one (units-any sampled (suc i) l))
