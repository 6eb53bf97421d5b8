use mir.Syntax.{w32}
use mir.ValLaws.{to_z-of_z}
use Rattle.std.proofs.Common.{refl}
use Rattle.calls.specs.Call.{draw_indexed}
use Rattle.draw_calls.proofs.DrawPlans.{draw-done}
use Rattle.draw_calls.proofs.draws.draw_indexed.Goals as goal

pub returns : goal.returns
returns c =
    let a = c.args in
    let z = to_z-of_z w32 a.base_vertex c.ranges.base_vertex in
    draw-done a.caps a.s (draw_indexed a.first_index a.index_count a.base_vertex a.first_instance a.instance_count) (λ x. refl) refl refl _ _ _ _ (rw z at c.plan_draw_indexed-plan.ensures) c.draw_answer.ensures c.record_drawn.ensures
