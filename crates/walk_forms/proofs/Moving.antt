-- What the straight functions' statements come to. Assumes nothing.
use Rattle.std.proofs.Common.{◌≡◌, refl, ℕ, ◌<◌, Bool, true, false, cond, List}
use Rattle.std.proofs.Math.Dec.{ltb}
use Rattle.std.proofs.lemmas.Bool.{ltb-true}
use Rattle.walk_forms.specs.declared.fills.Rec.{Rec}
use Rattle.walk_forms.specs.declared.plans.Answer.{Answer}
use Rattle.walk_forms.specs.declared.plans.Plan.{Plan}
use Rattle.walk_forms.specs.Planned.{Beside}
use Rattle.walk_forms.specs.Moved.{number_in, place_or_first, least_of, put_at, Puts, first_if, FirstBeside}

within : (b : Bool) (k n : ℕ) → 0 < n → (b ≡ true → k < n) → cond b k 0 < n
within true k n h less = less refl
within false k n h less = h

pub place_within : (k n at : ℕ) → 0 < n → at ≡ place_or_first n k → at < n
place_within k n at h e = rw e (within (ltb k n) k n h (ltb-true k n))

pub puts : (l l₁ l₂ : List Rec) (c d at old other least r : ℕ) → (old ≡ number_in (put_at l at c) 0) × (l₁ ≡ put_at (put_at l at c) 0 d)
    → (other ≡ number_in l₁ at) × (l₂ ≡ l₁) → least ≡ least_of old other → r ≡ least_of least d → Puts l c d at l₂ r
puts l l₁ l₂ c d at old other least r e₁ e₂ e₃ e₄ = rw (e₄, e₃, e₂.0, e₂.1, e₁.0, e₁.1) (refl, refl)

pub first_beside : (p : Plan) (load : List ℕ) (used : ℕ) (list : List Rec) (run : List ℕ) (l₁ l₂ : List Rec) (run' : List ℕ) (done : Answer) (n c r : ℕ)
    → Beside p load used list run l₁ run' done → n ≡ done.wrote → (c ≡ number_in l₁ used) × (l₂ ≡ l₁) → r ≡ first_if n c → FirstBeside p load used list run l₂ run' r
first_beside p load used list run l₁ l₂ run' done n c r b e₁ e₂ e₃ = rw (e₃, e₁, e₂.0, e₂.1, b.0, b.1, b.2) (refl, refl, refl)
