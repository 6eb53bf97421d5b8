-- `binding_calls::sending::plan_set_immediates` meets its contract. Assumes nothing.
use mathlib.Core.Path.{refl}
use Rattle.pass.specs.Marks.{Lent}
use Rattle.binding_calls.proofs.ImmediatePlanned.{verdict, planned}
use Rattle.binding_calls.proofs.sending.plan_set_immediates.Goals as goal

pub returns : goal.returns
returns c =
    let a = c.args in
    let ws : Lent = record { run = a.words.now; count = a.count } in
    let w = c.work_out-w in
    let v =
    rw (
      c.range_asks-c.ensures,
      c.in_pass.ensures,
      c.ends_past-past.ensures,
      c.over_run-short.ensures,
      c.out_of_range-range.ensures,
      c.byte_rooms-rooms.ensures,
      c.broken_limits-broken.ensures,
    ) at c.judge-v.ensures in
    planned a.room a.bytes_room a.s a.offset ws w.result w.ensures (verdict a.room a.bytes_room a.s a.offset ws w.result w.ensures v)
    _ _ _ _ _ _ c.taken-words.ensures refl
    c.spot_of-place.ensures c.spot_of-put.ensures
