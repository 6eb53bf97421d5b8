use Rattle.std.proofs.Common.{refl}
use Rattle.calls.specs.Call.{transition_textures}
use Rattle.single_calls.proofs.Ones.{one-done}
use Rattle.single_calls.proofs.barriers.transition_textures.Goals as goal

pub returns : goal.returns
returns c =
    let a = c.args in
    one-done a.caps a.s (transition_textures (record { run = a.barriers.now; count = a.count })) (λ x. refl) refl refl _ _ _ _ c.plan_transition_textures-plan.ensures (c.one_answer.ensures, c.«record».ensures)
