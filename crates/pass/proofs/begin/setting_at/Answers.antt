-- `pass::begin::setting_at` meets its contract, part by part. Assumes nothing.
use Prim.Native.Nat.{ℕ, ◌-◌}
use mathlib.Core.Path.{◌≡◌, ap, subst}
use mathlib.Core.List.{[], ◌∷◌, ◌++◌}
use native.Mathlib.Omega.{arith}
use lib.ListN.{length}
use Rattle.slots.specs.Place.{Stands}
use Rattle.slots.proofs.Parts.{stands-left, stands-right}
use Rattle.records.specs.declared.command.Command.TheVariants.{SetScissor, SetViewport, SetDrawColorBuffers}
use Rattle.pass.specs.Render.{places_of, to_external, extent_rect, full_depth}
use Rattle.pass.specs.Plan.{draw_buffers, all_clears}
use Rattle.pass.specs.declared.begin.BeginPlan.{BeginPlan}
use Rattle.pass.proofs.Gathered.{stands-unless}
use Rattle.pass.proofs.begin.setting_at.Goals as goal

pub returns-then-k-eq0 : goal.returns-then-k-eq0
returns-then-k-eq0 c = λ caps label set e h l x. rw (c.if-k-eq0.true, c.extent_rect-rect.ensures)

pub returns-then-k-eq1 : goal.returns-then-k-eq1
returns-then-k-eq1 c = λ caps label set e h l x. rw (c.if-k-eq1.true, c.extent_rect-rect.ensures, c.full_depth-depth.ensures)

pub returns-then-k-plan : goal.returns-then-k-plan
returns-then-k-plan c =
    λ caps label set e h.
    let a = c.args in
    let d = a.d in
    let n : a.plan.buffers ≡ length (draw_buffers d) = ap (λ (p : BeginPlan). p.buffers) e in
    let two = SetScissor (extent_rect d.extent) ∷ SetViewport (extent_rect d.extent) full_depth ∷ [] in
    stands-right c.draw_buffers.result a.k two (draw_buffers d ++ all_clears d) (omega (arith, c.if-k-eq1.false, c.if-k-eq0.false))
    (stands-left c.draw_buffers.result (a.k - 2) (draw_buffers d) (all_clears d) (omega (arith, n, c.if-k-plan.true))
    (rw (c.draw_buffers.ensures h) (stands-unless (to_external (places_of d)) (SetDrawColorBuffers d.color_attachment_count) (a.k - 2))))

pub returns-else-k-plan : goal.returns-else-k-plan
returns-else-k-plan c =
    λ caps label set e h.
    let a = c.args in
    let d = a.d in
    let n : a.plan.buffers ≡ length (draw_buffers d) = ap (λ (p : BeginPlan). p.buffers) e in
    let two = SetScissor (extent_rect d.extent) ∷ SetViewport (extent_rect d.extent) full_depth ∷ [] in
    stands-right c.clear_at.result a.k two (draw_buffers d ++ all_clears d) (omega (arith, c.if-k-eq1.false, c.if-k-eq0.false))
    (stands-right c.clear_at.result (a.k - 2) (draw_buffers d) (all_clears d) (omega (arith, n, c.if-k-plan.false))
    (subst (λ (m : ℕ). Stands c.clear_at.result (a.k - 2 - m) (all_clears d)) n
    (c.clear_at.ensures (ap (λ (p : BeginPlan). p.cleared) e))))
