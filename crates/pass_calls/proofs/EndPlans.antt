-- A plan of the end of a pass, written, is the call. Assumes nothing.
use mathlib.Core.List.{List, []}
use mathlib.Core.Path.{◌≡◌}
use lib.ListN.{length}
use Rattle.walks.specs.Fill.{filled}
use Rattle.records.specs.declared.check.Rooms.{Rooms}
use Rattle.records.specs.declared.command.Record.{Record}
use Rattle.records.specs.declared.pipeline.PrivateCapabilities.{PrivateCapabilities}
use Rattle.records.specs.declared.state.Answer.{Answer}
use Rattle.records.specs.declared.state.State.{State}
use Rattle.pass_calls.specs.declared.ended.EndPlan.{EndPlan}
use Rattle.calls.specs.Call.{Call}
use Rattle.calls.specs.Did.{Lists, record_of}
use Rattle.pass_calls.specs.Ended.{EndOf, ended_at, end_next, end_answer}
use Rattle.calls.specs.Planned.{list_rooms}
use Rattle.calls.specs.Step.{meaning}
use Rattle.calls.proofs.Listed.{lists-done}

-- a plan that is right, written, is the call
pub end-done : (caps : PrivateCapabilities) (s : State) (c : Call) → ((r : Rooms) → (meaning caps s c).handed r ≡ list_rooms r.commands) → (meaning caps s c).bytes ≡ [] → (meaning caps s c).queries ≡ []
    → (run run' : List Record) (a : Answer) (p : EndPlan) → EndOf (length run) s (meaning caps s c) p
    → (a ≡ end_answer p s) × (run' ≡ filled (λ i. record_of (ended_at p.batch i)) run p.batch.at p.batch.n) → Lists caps s c run a run'
end-done caps s c alone no_bytes no-queries run run' a p h e =
    lists-done caps s c alone no_bytes no-queries run run' a p.outcome (end_next p s) p.batch.at p.batch.n (ended_at p.batch) h.0 h.1 e.0 e.1
