use Rattle.std.proofs.Common.{refl}
use Rattle.calls.specs.Call.{draw_indexed_indirect}
use Rattle.draw_calls.proofs.DrawPlans.{draw-done}
use Rattle.draw_calls.proofs.draws.draw_indexed_indirect.Goals as goal

pub returns : goal.returns
returns c =
    let a = c.args in
    draw-done a.caps a.s (draw_indexed_indirect a.buffer a.offset a.draw_count) (λ x. refl) refl refl _ _ _ _ c.plan_draw_indexed_indirect-plan.ensures c.draw_answer.ensures c.record_drawn.ensures
