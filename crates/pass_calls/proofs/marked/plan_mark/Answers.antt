-- `pass_calls::marked::plan_mark` meets its contract. Assumes nothing.
use Rattle.pass_calls.proofs.Begun.{marked}
use Rattle.pass_calls.proofs.marked.plan_mark.Goals as goal

pub returns : goal.returns
returns c =
    let a = c.args in
    marked a.room a.bytes_room a.s a.c a.phase a.n a.size a.pass _ _ _ c.judge-v.result.ok c.byte_rooms-rooms.ensures c.broken_limits-broken.ensures c.judge-v.ensures
    c.spot_of-place.ensures c.spot_of-mark.ensures c.taken-pass.ensures
