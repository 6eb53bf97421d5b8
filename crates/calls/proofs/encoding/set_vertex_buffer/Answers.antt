-- `calls::encoding::set_vertex_buffer` meets its contract. Assumes nothing.
use Prim.Native.Nat.{◌<◌}
use mathlib.Core.Path.{◌≡◌, refl, sym, ap, ◌∙◌}
use mathlib.Core.Bool.{true, false, not}
use lib.Dec.{leb, eqb}
use borrow.Author.Tests.{leb-false}
use Rattle.records.specs.Outcome.{accepted}
use Rattle.records.specs.declared.outcome.Conditions.{Conditions}
use Rattle.calls.specs.Call.{set_vertex_buffer}
use Rattle.calls.specs.Judge.{taken}
use Rattle.calls.specs.Meaning.{in_render}
use Rattle.calls.specs.Parts.{with_vertex, with_progress}
use Rattle.calls.specs.Planned.{no_rooms, nothing}
use Rattle.calls.specs.Settings.{bound_slot}
use Rattle.calls.specs.Step.{outcome_of, progress_after, set_vertex_buffer_meaning}
use Rattle.calls.proofs.Judged.{no-range}
use Rattle.calls.proofs.Listed.{keeps-done}
use Rattle.calls.proofs.Moved.{slots-moved}
use Rattle.calls.proofs.Plans.{moved-or-not}
use Rattle.calls.proofs.encoding.set_vertex_buffer.Goals as goal

pub returns : goal.returns
unfolding outcome_of
returns c =
    let a = c.args in
    let s = a.s in
    let m = set_vertex_buffer_meaning s a.index a.buffer a.offset in
    let o = outcome_of no_rooms s m in
    let asks : Conditions =
    record { phase = not (in_render s.progress.phase); many = false; range = leb 16 a.index; absent = eqb a.buffer 0; kind = false; sum = false; room = false } in
    let k = rw (c.no_rooms-rooms.ensures, c.nothing-more.ensures, c.broken_limits-broken.ensures, c.in_phase.ensures, c.in_render.ensures) at c.judge-v.ensures in
    let low : c.judge-v.result.ok ≡ true → a.index < 16 =
    λ h. leb-false 16 a.index (no-range no_rooms s asks s.progress.phase nothing (sym k.1 ∙ h)) in
    let new = bound_slot a.index a.buffer a.offset s.vertex in
    let x = slots-moved (accepted o) _ new s _ _ _ _ c.with_vertex-state.ensures c.with_progress-moved.ensures (c.bound_slot-after.ensures low) k.1 in
    keeps-done a.caps s (set_vertex_buffer a.index a.buffer a.offset) (λ r. refl) refl refl refl _ k.0
    (x ∙ ap (λ q. with_progress q (taken o (with_vertex new s) s)) k.2 ∙ moved-or-not o s (with_vertex new s) (progress_after m))
