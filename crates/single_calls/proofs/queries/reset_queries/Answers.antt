-- `single_calls::queries::reset_queries` meets its contract. Assumes nothing.
use mathlib.Core.Path.{refl, ◌∙◌}
use Rattle.calls.specs.Call.{QuerySet, reset_queries}
use Rattle.calls.specs.Planned.{no_rooms}
use Rattle.calls.specs.Step.{outcome_of, progress_after, reset_queries_meaning}
use Rattle.calls.proofs.Listed.{keeps-done}
use Rattle.calls.proofs.Plans.{stays_put}
use Rattle.single_calls.proofs.queries.reset_queries.Goals as goal

pub returns : goal.returns
unfolding outcome_of
returns c =
    let a = c.args in
    let set : QuerySet = record { queries = record { run = a.set.now; count = a.count }; target = a.target } in
    let m = reset_queries_meaning a.s set a.start a.end in
    let k = rw (c.broken_limits-broken.ensures, c.no_rooms-rooms.ensures, c.nothing-more.ensures, c.run_asks-c.ensures, c.not_closed.ensures, c.over_run-short.ensures) at c.judge-v.ensures in
    keeps-done a.caps a.s (reset_queries set a.start a.end) (λ r. refl) refl refl refl _ k.0
    (c.with_progress-state.ensures ∙ stays_put (outcome_of no_rooms a.s m) a.s _ (progress_after m) k.2)
