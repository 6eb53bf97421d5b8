-- What the plans are, and what is done by one. Definitions only.
use Rattle.std.specs.Prelude.{ℕ, ◌-◌, ◌^◌, ◌<◌, ◌≡◌, Bool, true, false, cond, leb, ltb, ◌&&◌, List, length, get_or, set}
use Rattle.walks.specs.Fill.{filled}
use Rattle.walk_forms.specs.Filled.{rec_of, number_at, read_at}
use Rattle.walk_forms.specs.declared.fills.Rec.{Rec}
use Rattle.walk_forms.specs.declared.plans.Plan.{Plan}
use Rattle.walk_forms.specs.declared.plans.Reading.{Reading}
use Rattle.walk_forms.specs.declared.plans.Answer.{Answer}

-- so many, from the place on, lie within the room
abbrev pub goes : ℕ → ℕ → ℕ → Bool
goes room from count = leb from room && leb count (room - from)

-- the plan for the numbers from first on: it is empty if they do not go
abbrev pub plan_if : Bool → ℕ → ℕ → ℕ → Plan
plan_if ok first used count =
    cond ok (record { batch = record { at = used; n = count; first = first }; ok = true }) (record { batch = record { at = 0; n = 0; first = 0 }; ok = false })

-- the numbers are below 2 ^ 32, and the list has room
abbrev pub both_go : ℕ → ℕ → ℕ → ℕ → Bool
both_go room first used count = goes room used count && goes (2 ^ 32) first count

abbrev pub planned : ℕ → ℕ → ℕ → ℕ → Plan
planned room first used count = plan_if (both_go room first used count) first used count

-- as well, where a byte is copied from a load into a run
abbrev pub planned_beside : ℕ → ℕ → ℕ → ℕ → ℕ → ℕ → Plan
planned_beside room run_room load first used count = plan_if (both_go room first used count && (ltb 0 run_room && ltb 0 load)) first used count

-- the plan for the numbers of a run from a place on: it is empty if they do not go
abbrev pub reading_if : Bool → ℕ → ℕ → ℕ → Reading
reading_if ok from used count = cond ok (record { window = record { at = used; n = count; from = from }; ok = true }) (record { window = record { at = 0; n = 0; from = 0 }; ok = false })

-- the list has room, and the run is so long
abbrev pub reading : ℕ → ℕ → ℕ → ℕ → ℕ → Reading
reading room long from used count = reading_if (goes room used count && goes long from count) from used count

abbrev pub answer_of : Plan → ℕ → Answer
answer_of p used = record { used = used; wrote = p.batch.n; ok = p.ok }

abbrev pub answer_from : Reading → ℕ → Answer
answer_from p used = record { used = used; wrote = p.window.n; ok = p.ok }

-- the list with a plan's records
abbrev pub laid : Plan → List Rec → List Rec
laid p l = filled (λ i. rec_of (number_at p.batch i)) l p.batch.at p.batch.n

abbrev pub laid_from : List ℕ → Reading → List Rec → List Rec
laid_from run p l = filled (λ i. rec_of (read_at run p.window i)) l p.window.at p.window.n

-- the first byte of the load is copied if the plan is not empty
abbrev pub copied : List ℕ → Plan → List ℕ → List ℕ
copied load p run = cond p.ok (set run 0 (get_or load 0 0)) run

abbrev pub Copies : List ℕ → Plan → ℕ → Type 0
Copies load p m = p.ok ≡ true → (0 < m) × (0 < length load)

-- the plan is written into both, and answered
abbrev pub Beside : Plan → List ℕ → ℕ → List Rec → List ℕ → List Rec → List ℕ → Answer → Type 0
Beside p load used list run list' run' r = (r ≡ answer_of p used) × (list' ≡ laid p list) × (run' ≡ copied load p run)
