use Rattle.std.proofs.Common.{refl}
use Rattle.calls.specs.Call.{draw as draw_of}
use Rattle.draw_calls.proofs.DrawPlans.{draw-done}
use Rattle.draw_calls.proofs.draws.draw.Goals as goal

pub returns : goal.returns
returns c =
    let a = c.args in
    draw-done a.caps a.s (draw_of a.first_vertex a.vertex_count a.first_instance a.instance_count) (λ x. refl) refl refl _ _ _ _ c.plan_draw-plan.ensures c.draw_answer.ensures c.record_drawn.ensures
