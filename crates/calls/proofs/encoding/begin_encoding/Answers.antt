-- `calls::encoding::begin_encoding` meets its contract. Assumes nothing.
use mathlib.Core.Path.{◌≡◌, refl, sym, ap, ◌∙◌}
use Rattle.records.specs.Outcome.{accepted}
use Rattle.calls.specs.Call.{begin_encoding}
use Rattle.calls.specs.Planned.{no_rooms}
use Rattle.calls.specs.Step.{outcome_of, begin_encoding_meaning}
use Rattle.calls.proofs.Listed.{keeps-done}
use Rattle.calls.proofs.encoding.begin_encoding.Goals as goal

pub returns-then-accepted : goal.returns-then-accepted
unfolding outcome_of
returns-then-accepted c =
    let a = c.args in
    let o : c.outcome_of-outcome.result ≡ outcome_of no_rooms a.s (begin_encoding_meaning a.s) =
    c.outcome_of-outcome.ensures ∙ rw (c.either-all.ensures, c.in_phase-c.ensures, c.in_closed.ensures, c.over_room.ensures, c.no_rooms.ensures, c.broken_limits-broken.ensures) in
    let t = sym (ap accepted o) ∙ sym c.accepted.ensures ∙ c.if-accepted.true in
    keeps-done a.caps a.s begin_encoding (λ r. refl) refl refl refl _ o (c.with_progress-state.ensures ∙ rw (c.new-fresh.ensures, t))

pub returns : goal.returns
unfolding outcome_of
returns c =
    let a = c.args in
    let o : c.outcome_of-outcome.result ≡ outcome_of no_rooms a.s (begin_encoding_meaning a.s) =
    c.outcome_of-outcome.ensures ∙ rw (c.either-all.ensures, c.in_phase-c.ensures, c.in_closed.ensures, c.over_room.ensures, c.no_rooms.ensures, c.broken_limits-broken.ensures) in
    let t = sym (ap accepted o) ∙ sym c.accepted.ensures ∙ c.if-accepted.false in
    keeps-done a.caps a.s begin_encoding (λ r. refl) refl refl refl _ o (rw t)
