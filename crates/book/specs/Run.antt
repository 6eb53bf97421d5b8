-- Lists of calls, refused ones included: the list that they record, and what the book is fed. Definitions only.
use Rattle.std.specs.Prelude.{ℕ, ◌≡◌, Bool, true, cond, List, [], ◌∷◌, ◌++◌, take}
use Rattle.records.specs.Outcome.{accepted}
use Rattle.records.specs.declared.check.Rooms.{Rooms}
use Rattle.records.specs.declared.command.Command.{Command}
use Rattle.records.specs.declared.pipeline.PrivateCapabilities.{PrivateCapabilities}
use Rattle.records.specs.declared.state.State.{State}
use Rattle.calls.specs.Call.{Call, begin_encoding}
use Rattle.calls.specs.Step.{meaning, outcome_of, step}
use Rattle.book.specs.Book.{Book, Fed, enter_fed}
use Rattle.book.specs.Premise.{Premise}

-- whether a call is carried through
abbrev pub carried : PrivateCapabilities → Rooms → State → Call → Bool
carried caps rooms s c = accepted (outcome_of rooms s (meaning caps s c))

-- the state, and what is recorded so far: the list, its marker bytes and its queries
pub record Recording : Type 0 where
  pub state : State
  pub list : List Command
  pub bytes : List ℕ
  pub queries : List ℕ

-- nothing is recorded yet
abbrev pub beginning : State → Recording
beginning s = record { state = s; list = []; bytes = []; queries = [] }

-- a carried-through call appends to what its state counts of each: `begin_encoding`, whose state counts none, starts anew
abbrev pub record_call : PrivateCapabilities → Rooms → Recording → Call → Recording
record_call caps rooms r c =
    record {
      state = (step caps rooms r.state c).state;
      list = cond (carried caps rooms r.state c) (take (meaning caps r.state c).after.progress.commands r.list ++ (meaning caps r.state c).commands) r.list;
      bytes = cond (carried caps rooms r.state c) (take (meaning caps r.state c).after.progress.bytes r.bytes ++ (meaning caps r.state c).bytes) r.bytes;
      queries = cond (carried caps rooms r.state c) (take (meaning caps r.state c).after.progress.queries r.queries ++ (meaning caps r.state c).queries) r.queries;
    }

unfoldable pub record_calls : PrivateCapabilities → Rooms → Recording → List Call → Recording
record_calls caps rooms r [] = r
record_calls caps rooms r (c ∷ cs) = record_calls caps rooms (record_call caps rooms r c) cs

-- what the book is fed: each call, and whether it was accepted
unfoldable pub fed : PrivateCapabilities → Rooms → State → List Call → List Fed
fed caps rooms s [] = []
fed caps rooms s (c ∷ cs) = record { call = c; accepted = carried caps rooms s c } ∷ fed caps rooms (step caps rooms s c).state cs

-- the premises, at each accepted call
unfoldable pub Premises : PrivateCapabilities → Book → List Fed → Type 0
Premises caps b [] = Unit {0}
Premises caps b (f ∷ fs) = (f.accepted ≡ true → Premise b f.call) × Premises caps (enter_fed caps b f) fs

-- an encoder that has just begun, whatever was handed in
abbrev pub begun : PrivateCapabilities → Rooms → State → Recording
begun caps rooms s = beginning (step caps rooms s begin_encoding).state
