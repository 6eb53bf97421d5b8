use mathlib.Core.Bool.{false, not, ◌||◌}
use mathlib.Core.List.{◌++◌}
use mathlib.Core.Path.{refl, sym}
use lib.ListN.{length, length-append}
use Rattle.slots.specs.Prepare.{prepared, prepared_over, prepared_state}
use Rattle.records.specs.declared.outcome.Conditions.{Conditions}
use Rattle.draw_calls.specs.Drawn.{own_commands}
use Rattle.calls.specs.Meaning.{in_render}
use Rattle.calls.specs.Parts.{with_vertex}
use Rattle.calls.specs.Planned.{list_rooms, commands_only}
use Rattle.calls.specs.Step.{outcome_of}
use Rattle.calls.proofs.Judged.{neither, no-sum}
use Rattle.calls.proofs.Plans.{found, laid, next, some_written}
use Rattle.draw_calls.proofs.Numbers.{numbers-long}
use Rattle.draw_calls.proofs.Stepped.{vertex-moved}
use Rattle.draw_calls.proofs.drawing.plan_drawing.Goals as goal

pub returns : goal.returns
unfolding outcome_of
returns c =
    λ held own_fits.
    let a = c.args in
    let s = a.s in
    let ready = c.prepare-ready.ensures in
    let own = c.own_count in
    let ps = prepared a.caps s.vertex a.w in
    let cs = ps ++ own_commands a.own in
    let asks : Conditions =
    record { phase = not (in_render s.progress.phase); many = false; range = false; absent = a.absent; kind = false; sum = prepared_over a.caps s.vertex a.w || a.over; room = false } in
    let k = found a.room s asks s.progress.phase cs _ _ _ _ _ c.list_rooms-rooms.ensures held (rw (ready.0, own.ensures) (sym (length-append ps (own_commands a.own)))) c.commands_only-more.ensures
    (rw (c.in_phase.ensures, c.in_render.ensures, ready.4) at c.judge-v.ensures) c.spot_of-place.ensures in
    let long = numbers-long s _ c.well_formed.1.1.1.0 in
    let after = vertex-moved _ _ _ _ a.w _ _ _ _ _ s _ long c.taken-dirty.ensures c.taken-bound.ensures c.remembered-instances.ensures k.sure ready.2 ready.3 in (
      (k.said, next a.room s asks s.progress.phase cs k (with_vertex (prepared_state a.caps s.vertex a.w) s) _ after),
      laid a.room s asks s.progress.phase cs _ _ _ k.here k.many (λ h i l. refl),
      λ i h.
          let w = some_written a.room s asks s.progress.phase cs k i h in
          let o = neither (prepared_over a.caps s.vertex a.w) a.over (no-sum (list_rooms a.room) s asks s.progress.phase (commands_only (length cs)) w.0) in
          (w.1, record { places = ready.1; first = ready.0; slots_fit = o.0; own_fits = own_fits o.1; own_small = rw (sym own.ensures) own.type_inv }),
    )
