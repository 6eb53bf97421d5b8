-- `single_calls::settings::plan_set_viewport` meets its contract. Assumes nothing.
use Rattle.calls.specs.Step.{outcome_of}
use Rattle.single_calls.proofs.settings.plan_set_viewport.Goals as goal

pub returns : goal.returns
unfolding outcome_of
returns c = rw (c.viewport_rect-rect.ensures, c.in_phase-c.ensures, c.in_render.ensures) at (c.plan_one.ensures c.broken_limits-broken.ensures)
