-- What a `match` with a last arm `_` tells: the tag of its value is one of those that no other arm names. Assumes nothing.
use Prim.Native.Nat.{ℕ, zero, suc}
use mathlib.Core.Path.{◌≡◌, refl, ap, ◌∙◌}
use mathlib.Core.Bool.{Bool, true, false, not, ◌&&◌}
use mathlib.Core.List.{List, [], ◌∷◌}
use mathlib.Core.Logic.{inl, inr}
use types.Run.{OneOf}
use Rattle.records.specs.Check.{among}
use Rattle.machine.proofs.Lists.{false-true}

-- none of the numbers of a list stands in the other
abbrev pub apart : List ℕ → List ℕ → Bool
apart [] named = true
apart (k ∷ ks) named = not (among k named) && apart ks named

-- n numbers from k on
abbrev pub range : ℕ → ℕ → List ℕ
range k zero = []
range k (suc n) = k ∷ range (suc k) n

both : (b c : Bool) → not b && c ≡ true → (b ≡ false) × (c ≡ true)
both true c e = false-true e
both false c e = (refl, e)

pub unnamed : (named : List ℕ) (k : ℕ) (ks : List ℕ) (x : ℕ) → apart (k ∷ ks) named ≡ true → OneOf (k ∷ ks) x → among x named ≡ false
unnamed named k [] x h e = ap (λ (n : ℕ). among n named) e ∙ (both (among k named) true h).0
unnamed named k (l ∷ ks) x h (inl e) = ap (λ (n : ℕ). among n named) e ∙ (both (among k named) (apart (l ∷ ks) named) h).0
unnamed named k (l ∷ ks) x h (inr r) = unnamed named l ks x (both (among k named) (apart (l ∷ ks) named) h).1 r
