-- What a call hands back holds values of its types: the blend constants of the look are `f32`s.
use Rattle.std.proofs.Common.{◌∙◌, refl, arith}
use Rattle.std.specs.Bool.{passes}
use Rattle.joining.specs.Joined.{Floats}
use Rattle.joining.proofs.Planning.{plan-fits, plan-copies, plan-does}
use Rattle.joining.proofs.join.join_list.Goals as goal

pub put_in-requires : goal.put_in-requires
put_in-requires c = rw c.plan_join-plan.ensures (plan-fits c.args.list.now c.args.other.now c.args.x _ _ c.look_first-a.ensures c.survey-s.ensures.survey)

pub copy_moved-requires : goal.copy_moved-requires
copy_moved-requires c =
    let k = plan-copies c.args.list.now c.args.other.now c.args.x _ _ c.look_first-a.ensures c.survey-s.ensures.survey in
    rw c.plan_join-plan.ensures (k.0, omega (arith, k.1, c.put_in.auto.list))

pub returns : goal.returns
returns c =
    let color = c.look_first-a.type_inv.1.1.1.0.1.1.1.1.0.1.1 in
    let f : Floats c.look_first-a.result.ending.blend = record { r = passes _ color.0.1; g = passes _ color.1.0.1; b = passes _ color.1.1.0.1; a = passes _ color.1.1.1.0.1 } in
    let d = plan-does c.args.list.now c.args.other.now c.args.x _ _ f c.look_first-a.ensures c.survey-s.ensures.survey in
    (c.plan_join-plan.ensures ∙ d.0, rw (c.copy_moved.ensures, c.put_in.ensures) refl, d.2)
