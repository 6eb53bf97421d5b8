-- `pass_calls::begun_compute::plan_begin_compute` meets its contract. Assumes nothing.
use Rattle.pass.specs.Marks.{Lent}
use Rattle.pass_calls.proofs.ComputeRight.{compute-right}
use Rattle.pass_calls.proofs.begun_compute.plan_begin_compute.Goals as goal

pub returns : goal.returns
returns c =
    let a = c.args in
    let set : Lent = record { run = a.set.now; count = a.set_count } in
    let n = c.opening_count-n in
    compute-right a.s a.t set a.room a.bytes_room a.label_len a.has_label a.label_count _ _ _ _ _ _
    (rw (
      c.in_open.ensures,
      c.timestamps_out-range.ensures a.set.now,
      c.past_u32.ensures,
      c.label_short-unnamed.ensures,
      c.over_run.ensures,
    ) at c.begin_asks-c.ensures)
    c.begin_query-query.ensures.1 n.ensures.2 n.type_inv
    c.label_size-size.ensures c.begin_compute_pass-pass.ensures c.plan_mark-m.ensures
