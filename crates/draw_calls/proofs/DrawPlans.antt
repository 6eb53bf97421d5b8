-- From a plan of a draw that is right, and written, to the contract of the call. Assumes nothing.
use Rattle.std.proofs.Common.{List, [], ◌≡◌, length}
use Rattle.walks.specs.Fill.{filled}
use Rattle.records.specs.declared.check.Rooms.{Rooms}
use Rattle.records.specs.declared.command.Record.{Record}
use Rattle.records.specs.declared.pipeline.PrivateCapabilities.{PrivateCapabilities}
use Rattle.records.specs.declared.state.Answer.{Answer}
use Rattle.records.specs.declared.state.State.{State}
use Rattle.draw_calls.specs.declared.drawn.DrawPlan.{DrawPlan}
use Rattle.calls.specs.Call.{Call}
use Rattle.calls.specs.Did.{Lists, record_of}
use Rattle.draw_calls.specs.Drawn.{DrawOf, drawn_at, draw_next, draw_answer}
use Rattle.calls.specs.Planned.{list_rooms}
use Rattle.calls.specs.Step.{meaning}
use Rattle.calls.proofs.Listed.{lists-done}

-- a plan that is right, written, is the call
pub draw-done : (caps : PrivateCapabilities) (s : State) (c : Call) → ((r : Rooms) → (meaning caps s c).handed r ≡ list_rooms r.commands) → (meaning caps s c).bytes ≡ [] → (meaning caps s c).queries ≡ []
    → (run run' : List Record) (a : Answer) (p : DrawPlan) → DrawOf (length run) s (meaning caps s c) p
    → a ≡ draw_answer p s → run' ≡ filled (λ i. record_of (drawn_at p.batch i)) run p.batch.at p.batch.n → Lists caps s c run a run'
draw-done caps s c alone no_bytes no-queries run run' a p h e w =
    lists-done caps s c alone no_bytes no-queries run run' a p.outcome (draw_next p s) p.batch.at p.batch.n (drawn_at p.batch) h.0 h.1 e w
