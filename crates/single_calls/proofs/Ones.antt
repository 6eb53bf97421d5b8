-- A plan of one command, written, is the call. Assumes nothing.
use mathlib.Core.Bool.{Bool, true, false, cond, not}
use mathlib.Core.List.{List, [], ◌∷◌}
use mathlib.Core.Path.{◌≡◌, refl}
use lib.ListN.{length}
use Rattle.walks.specs.Fill.{filled}
use Rattle.records.specs.declared.check.Rooms.{Rooms}
use Rattle.records.specs.declared.command.Command.{Command}
use Rattle.records.specs.declared.command.Record.{Record}
use Rattle.records.specs.declared.pipeline.PrivateCapabilities.{PrivateCapabilities}
use Rattle.records.specs.declared.state.Answer.{Answer}
use Rattle.records.specs.declared.state.State.{State}
use Rattle.single_calls.specs.declared.one.OnePlan.{OnePlan}
use Rattle.calls.specs.Call.{Call}
use Rattle.calls.specs.Did.{Lists, record_of}
use Rattle.pipeline.specs.Fixed.{only}
use Rattle.single_calls.specs.One.{OneOf, one_next, one_answer}
use Rattle.calls.specs.Planned.{list_rooms}
use Rattle.calls.specs.Step.{meaning}
use Rattle.calls.proofs.Listed.{lists-done}

-- a plan that is right, written, is the call
pub one-done : (caps : PrivateCapabilities) (s : State) (c : Call) → ((r : Rooms) → (meaning caps s c).handed r ≡ list_rooms r.commands) → (meaning caps s c).bytes ≡ [] → (meaning caps s c).queries ≡ []
    → (run run' : List Record) (a : Answer) (p : OnePlan) → OneOf (length run) s (meaning caps s c) p
    → (a ≡ one_answer p s) × (run' ≡ filled (λ i. record_of p.batch.command) run p.batch.at p.batch.n) → Lists caps s c run a run'
one-done caps s c alone no_bytes no-queries run run' a p h e =
    lists-done caps s c alone no_bytes no-queries run run' a p.outcome (one_next p s) p.batch.at p.batch.n (λ i. p.batch.command) h.0 h.1 e.0 e.1

-- a dispatch records one command or none
pub not_none : (t : Bool) (c : Command) → only (not t) c ≡ cond t [] (c ∷ [])
not_none true c = refl
not_none false c = refl
