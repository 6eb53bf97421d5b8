-- `transfer_calls::results::plan_copy_query_results` meets its contract. Assumes nothing.
use mathlib.Core.Path.{refl}
use Rattle.transfer_calls.proofs.Found.{right}
use Rattle.transfer_calls.proofs.results.plan_copy_query_results.Goals as goal

pub returns : goal.returns
returns c =
    let a = c.args in
    let conditions = rw (
      c.in_open.ensures,
      c.over_run-short.ensures,
      c.queries_over-sum.ensures,
    ) at c.range_asks-c.ensures in
    let v = rw (
      c.query_rooms-rooms.ensures,
      c.broken_limits-broken.ensures,
      c.one_and-more.ensures,
      c.query_count-size.ensures,
      conditions,
    ) at c.judge-v.ensures in
    let place = rw v.1 at c.spot_of-place.ensures in
    let puts = rw (v.1, c.query_count-size.ensures) at c.spot_of-put.ensures in
    let from = rw v.1 at c.spot_of-from.ensures.0 in
    right a.set.now a.count a.target a.start a.end a.room a.queries_room a.s a.dst a.offset _ v.0 v.2 place puts from c.range_of-range.ensures refl refl refl
