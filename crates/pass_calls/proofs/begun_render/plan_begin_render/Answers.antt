-- `pass_calls::begun_render::plan_begin_render` meets its contract. Assumes nothing.
use Rattle.pass.specs.Marks.{Lent}
use Rattle.pass_calls.proofs.RenderRight.{render-right}
use Rattle.pass_calls.proofs.begun_render.plan_begin_render.Goals as goal

pub returns : goal.returns
returns c =
    let a = c.args in
    let set : Lent = record { run = a.set.now; count = a.set_count } in
    let n = c.begun_count-n in
    let plan = c.begin_plan-plan in
    render-right a.caps a.s a.d set a.room a.bytes_room a.label_len a.has_label a.label_count _ _ _ _ _ _
    (rw (
      c.in_open.ensures,
      c.timestamps_out-range.ensures a.set.now,
      c.pass_wrong_kind-kind.ensures,
      c.past_u32.ensures,
      c.label_short-unnamed.ensures,
      c.over_run.ensures,
    ) at c.begin_asks-c.ensures)
    plan.ensures.0 n.ensures plan.ensures.1 n.type_inv
    c.label_size-size.ensures c.begin_render_pass-pass.ensures c.plan_mark-m.ensures
