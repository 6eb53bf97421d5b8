-- What the straight functions do. Definitions only.
use Rattle.std.specs.Prelude.{ℕ, ◌≡◌, cond, ltb, List, get_or, set}
use Rattle.walk_forms.specs.Filled.{rec_of}
use Rattle.walk_forms.specs.Planned.{laid, copied}
use Rattle.walk_forms.specs.declared.fills.Rec.{Rec}
use Rattle.walk_forms.specs.declared.plans.Plan.{Plan}

-- the number at a place
abbrev pub number_in : List Rec → ℕ → ℕ
number_in l k = (get_or l k (rec_of 0)).c

-- the place if the room has it, else the first one
abbrev pub place_or_first : ℕ → ℕ → ℕ
place_or_first room k = cond (ltb k room) k 0

-- the smaller number
abbrev pub least_of : ℕ → ℕ → ℕ
least_of a b = cond (ltb a b) a b

-- the list with c at a place
abbrev pub put_at : List Rec → ℕ → ℕ → List Rec
put_at l k c = set l k (rec_of c)

-- c comes to a place and d in front; the smallest of what d replaces, what then stands at c's place, and d is handed out
abbrev pub Puts : List Rec → ℕ → ℕ → ℕ → List Rec → ℕ → Type 0
Puts l c d at l' r =
    (r ≡ least_of (least_of (number_in (put_at l at c) 0) (number_in (put_at (put_at l at c) 0 d) at)) d) × (l' ≡ put_at (put_at l at c) 0 d)

abbrev pub first_if : ℕ → ℕ → ℕ
first_if n c = cond (ltb 0 n) c 0

-- the plan is written into both, and its first number handed out
abbrev pub FirstBeside : Plan → List ℕ → ℕ → List Rec → List ℕ → List Rec → List ℕ → ℕ → Type 0
FirstBeside p load used list run list' run' r = (r ≡ first_if p.batch.n (number_in (laid p list) used)) × (list' ≡ laid p list) × (run' ≡ copied load p run)
