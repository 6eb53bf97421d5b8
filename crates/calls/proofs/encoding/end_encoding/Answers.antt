-- `calls::encoding::end_encoding` meets its contract. Assumes nothing.
use mathlib.Core.Path.{refl, ◌∙◌}
use Rattle.calls.specs.Call.{end_encoding}
use Rattle.calls.specs.Planned.{no_rooms}
use Rattle.calls.specs.Step.{outcome_of, progress_after, end_encoding_meaning}
use Rattle.calls.proofs.Listed.{keeps-done}
use Rattle.calls.proofs.Plans.{stays_put}
use Rattle.calls.proofs.encoding.end_encoding.Goals as goal

pub returns : goal.returns
unfolding outcome_of
returns c =
    let a = c.args in
    let k = rw (c.no_rooms-rooms.ensures, c.nothing-more.ensures, c.broken_limits-broken.ensures, c.in_phase-c.ensures, c.in_open.ensures) at c.judge-v.ensures in
    keeps-done a.caps a.s end_encoding (λ r. refl) refl refl refl _ k.0 (c.with_progress-state.ensures ∙ stays_put (outcome_of no_rooms a.s (end_encoding_meaning a.s)) a.s _ (progress_after (end_encoding_meaning a.s)) k.2)
