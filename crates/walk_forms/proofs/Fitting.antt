-- A plan fits the room that it was made for. Assumes nothing.
use Rattle.std.proofs.Common.{◌≡◌, refl, ℕ, ◌+◌, ◌-◌, ◌^◌, ◌≤◌, Bool, true, false, List, length, arith}
use Rattle.std.proofs.Math.Dec.{leb, ltb}
use Rattle.std.proofs.lemmas.Bool.{leb-true, ltb-true}
use mathlib.Core.Bool.{◌&&◌}
use Rattle.walks.proofs.Recording.{Fits}
use Rattle.walks.proofs.RecordingFrom.{over}
use Rattle.walk_forms.specs.Planned.{goes, plan_if, both_go, planned, planned_beside, reading_if, reading, Copies}
use Rattle.walk_forms.proofs.Data.{plans, plans_from}

both : (a b : Bool) → (a && b) ≡ true → (a ≡ true) × (b ≡ true)
both true true e = (refl, refl)
both true false e = (refl, e)
both false true e = (e, refl)
both false false e = (e, e)

goes-within : (room from count : ℕ) → goes room from count ≡ true → from + count ≤ room
goes-within room from count e =
    let h = both (leb from room) (leb count (room - from)) e in
    let low = leb-true from room h.0 in
    let high = leb-true count (room - from) h.1 in
    omega (arith, low, high)

if_fits : (ok : Bool) (room first used count : ℕ) → (ok ≡ true → both_go room first used count ≡ true) → Fits plans (plan_if ok first used count) room
if_fits true room first used count h =
    let e = both (goes room used count) (goes (2 ^ 32) first count) (h refl) in
    let numbers = goes-within (2 ^ 32) first count e.1 in
    (goes-within room used count e.0, λ i less. omega (arith, numbers, less))
if_fits false room first used count h = (omega arith, λ i less. absurd (omega (arith, less)))

pub plan_fits : (room first used count : ℕ) → Fits plans (planned room first used count) room
plan_fits room first used count = if_fits (both_go room first used count) room first used count (λ e. e)

pub beside_fits : (room run_room load first used count : ℕ) → Fits plans (planned_beside room run_room load first used count) room
beside_fits room run_room load first used count =
    if_fits (both_go room first used count && (ltb 0 run_room && ltb 0 load)) room first used count (λ e. (both (both_go room first used count) _ e).0)

-- the byte may be copied
if_copies : (ok : Bool) (load : List ℕ) (run_room first used count : ℕ) → (ok ≡ true → (ltb 0 run_room && ltb 0 (length load)) ≡ true) → Copies load (plan_if ok first used count) run_room
if_copies true load run_room first used count h e = let b = both (ltb 0 run_room) (ltb 0 (length load)) (h e) in (ltb-true 0 run_room b.0, ltb-true 0 (length load) b.1)
if_copies false load run_room first used count h e = let b = both (ltb 0 run_room) (ltb 0 (length load)) (h e) in (ltb-true 0 run_room b.0, ltb-true 0 (length load) b.1)

pub beside_copies : (load : List ℕ) (room run_room first used count : ℕ) → Copies load (planned_beside room run_room (length load) first used count) run_room
beside_copies load room run_room first used count =
    if_copies (both_go room first used count && (ltb 0 run_room && ltb 0 (length load))) load run_room first used count (λ e. (both (both_go room first used count) _ e).1)

window_fits : (ok : Bool) (run : List ℕ) (room from used count : ℕ) → (ok ≡ true → (goes room used count && goes (length run) from count) ≡ true)
    → Fits (over plans_from run) (reading_if ok from used count) room
window_fits true run room from used count h =
    let e = both (goes room used count) (goes (length run) from count) (h refl) in
    let there = goes-within (length run) from count e.1 in
    (goes-within room used count e.0, λ i less. omega (arith, there, less))
window_fits false run room from used count h = (omega arith, λ i less. absurd (omega (arith, less)))

pub reading_fits : (run : List ℕ) (room from used count : ℕ) → Fits (over plans_from run) (reading room (length run) from used count) room
reading_fits run room from used count = window_fits (goes room used count && goes (length run) from count) run room from used count (λ e. e)
