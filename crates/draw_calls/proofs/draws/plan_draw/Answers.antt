use mathlib.Core.Path.{refl}
use Rattle.draw_calls.proofs.draws.plan_draw.Goals as goal

pub returns : goal.returns
returns c = rw c.working-w.ensures at (c.plan_drawing.ensures c.broken_limits-broken.ensures (λ h. refl))
