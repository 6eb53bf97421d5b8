-- `single_calls::one::plan_one` meets its contract. Assumes nothing.
use mathlib.Core.Path.{refl}
use Rattle.pipeline.specs.Fixed.{only}
use Rattle.calls.proofs.Plans.{laid, found, same, only_at}
use Rattle.single_calls.proofs.one.plan_one.Goals as goal

pub returns : goal.returns
returns c =
    λ e.
    let a = c.args in
    let s = a.s in
    let cs = only a.some a.command in
    let k = found a.room s a.c s.progress.phase cs _ _ _ _ _ c.list_rooms-rooms.ensures e (c.count_of-n.ensures a.command) c.commands_only-more.ensures c.judge-v.ensures c.spot_of-place.ensures in
    ((k.said, same a.room s a.c s.progress.phase cs k _ refl), laid a.room s a.c s.progress.phase cs _ _ _ k.here k.many (λ h i l. only_at a.some a.command i l))
