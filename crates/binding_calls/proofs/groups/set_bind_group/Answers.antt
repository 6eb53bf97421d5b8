use Rattle.std.proofs.Common.{refl}
use Rattle.calls.specs.Call.{set_bind_group}
use Rattle.binding_calls.proofs.GroupPlans.{group-done}
use Rattle.binding_calls.proofs.groups.set_bind_group.Goals as goal

pub returns : goal.returns
returns c =
    let a = c.args in
    group-done a.caps a.s (set_bind_group a.layout a.index a.entries a.group (record { run = a.offsets.now; count = a.count })) (λ x. refl) refl refl a.offsets.now _ _ _ _ c.plan_set_bind_group-plan.ensures (c.group_answer.ensures, c.«record».ensures)
