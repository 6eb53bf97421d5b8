use Rattle.std.proofs.Common.{refl}
use Rattle.calls.specs.Call.{end_compute_pass}
use Rattle.pass_calls.proofs.EndPlans.{end-done}
use Rattle.pass_calls.proofs.ends.end_compute_pass.Goals as goal

pub returns : goal.returns
returns c = end-done c.args.caps c.args.s end_compute_pass (λ x. refl) refl refl _ _ _ _ c.plan_end_compute_pass-plan.ensures (c.end_answer.ensures, c.«record».ensures)
