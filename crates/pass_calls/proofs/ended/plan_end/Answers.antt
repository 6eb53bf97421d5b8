-- `pass_calls::ended::plan_end` meets its contract. Assumes nothing.
use mathlib.Core.Bool.{false, cond, not}
use mathlib.Core.Path.{refl, sym}
use lib.ListN.{length}
use Rattle.records.specs.declared.outcome.Conditions.{Conditions}
use Rattle.records.specs.declared.state.State.{State}
use Rattle.records.specs.declared.state.Phase.TheVariants.{Open}
use Rattle.calls.specs.Meaning.{in_render, in_compute}
use Rattle.calls.specs.Parts.{with_vertex, with_fixed, with_pass}
use Rattle.calls.specs.Planned.{list_rooms, commands_only}
use Rattle.calls.specs.Step.{outcome_of}
use Rattle.calls.proofs.Plans.{found, laid, next, some_written}
use Rattle.pass_calls.specs.Ended.{end_of}
use Rattle.pass_calls.proofs.Moved.{end_moved, resolves-good}
use Rattle.pass_calls.proofs.ended.plan_end.Goals as goal

pub returns : goal.returns
unfolding outcome_of
returns c =
    let a = c.args in
    let s = a.s in
    let cs = end_of a.render s.pass s.vertex in
    let count = c.end_count-n in
    let asks : Conditions =
    record { phase = not (cond a.render (in_render s.progress.phase) (in_compute s.progress.phase)); many = false; range = false; absent = false; kind = false; sum = false; room = false } in
    let k = found a.room s asks Open cs _ _ _ _ _ c.list_rooms-rooms.ensures c.broken_limits-broken.ensures count.ensures c.commands_only-more.ensures
    (rw (c.in_phase-c.ensures, c.ends_in.ensures) at c.judge-v.ensures) c.spot_of-place.ensures in
    let after : State = with_vertex a.vertex (with_fixed a.fixed (with_pass a.pass s)) in
    let left = end_moved _ _ a.vertex a.fixed a.pass s _ _ _ _ c.taken-vertex.ensures c.taken-fixed.ensures c.taken-pass.ensures k.sure in (
      (k.said, next a.room s asks Open cs k after _ left),
      laid a.room s asks Open cs _ _ _ k.here k.many (λ h i l. refl),
      λ i h.
          let w = some_written a.room s asks Open cs k i h in
          (w.1, record { few = rw (sym count.ensures) count.type_inv; resolves = resolves-good (list_rooms a.room) s asks Open (commands_only (length cs)) w.0 }),
    )
