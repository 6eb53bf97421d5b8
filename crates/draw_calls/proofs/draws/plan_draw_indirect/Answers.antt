use mathlib.Core.Path.{sym, ◌∙◌}
use Rattle.calls.specs.Draws.{indirect_commands}
use Rattle.draw_calls.proofs.draws.plan_draw_indirect.Goals as goal

pub returns : goal.returns
unfolding indirect_commands
returns c = rw (c.indirect_absent-absent.ensures, c.indirect_over-over.ensures) at (c.plan_drawing.ensures c.broken_limits-broken.ensures (λ h. sym c.indirect_over-over.ensures ∙ h))
