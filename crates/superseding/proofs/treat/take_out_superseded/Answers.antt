-- The statements, one after the other, do what the contract says.
use Rattle.std.proofs.Common.{arith, refl}
use Rattle.superseding.proofs.Treating.{treats, may}
use Rattle.superseding.proofs.treat.take_out_superseded.Goals as goal

pub blank_superseded-first-requires : goal.blank_superseded-first-requires
blank_superseded-first-requires c =
    let room = may c.args.list.now c.args.used _ c.survey-s.ensures.survey _ c.upto-n.ensures in
    omega (arith, room)

pub retain-left-requires : goal.retain-left-requires
retain-left-requires c =
    let room = may c.args.list.now c.args.used _ c.survey-s.ensures.survey _ c.upto-n.ensures in
    omega (arith, room)

pub returns : goal.returns
returns c = treats _ _ _ _ (c.survey-s.ensures.survey, refl) _ c.upto-n.ensures _ c.nothing_seen-none.ensures _ _ c.blank_superseded-first.ensures _ _ c.retain-left.ensures _ c.answer.ensures
