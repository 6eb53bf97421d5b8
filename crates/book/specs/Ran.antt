-- A run of the code: each call did what its contract says (`Did`), each handed the state and the runs that the last one left. Definitions only.
use Rattle.std.specs.Prelude.{ℕ, Bool, true, false, List, [], ◌∷◌, map, take}
use Rattle.records.specs.declared.command.Command.{Command}
use Rattle.records.specs.declared.command.Record.{Record}
use Rattle.records.specs.declared.outcome.Outcome.{Outcome}
use Rattle.records.specs.declared.outcome.Outcome.TheVariants.{Done, WrongPhase, TooMany, OutOfRange, Absent, WrongKind, Overflow, NoRoom}
use Rattle.records.specs.declared.pipeline.PrivateCapabilities.{PrivateCapabilities}
use Rattle.records.specs.declared.state.Answer.{Answer}
use Rattle.records.specs.declared.state.State.{State}
use Rattle.calls.specs.Call.{Call}
use Rattle.calls.specs.Did.{Runs, Did}
use Rattle.book.specs.Book.{Fed}
use Rattle.book.specs.Run.{Recording}

-- each call of the list did what its contract says, from the state s and the runs r to s' and r'
pub data Ran (caps : PrivateCapabilities) : State → Runs → List Call → State → Runs → Type 0 where
  done : {s : State} {r : Runs} → Ran caps s r [] s r
  then : {s s' : State} {r r₁ r' : Runs} {c : Call} {cs : List Call} (a : Answer) → Did caps s r c a r₁ → Ran caps a.state r₁ cs s' r' → Ran caps s r (c ∷ cs) s' r'

-- what the functions answered: each call of the run, and whether it came back with `Done`
abbrev pub is_done : Outcome → Bool
is_done Done = true
is_done WrongPhase = false
is_done TooMany = false
is_done OutOfRange = false
is_done Absent = false
is_done WrongKind = false
is_done Overflow = false
is_done NoRoom = false

unfoldable pub answers : {caps : PrivateCapabilities} {s s' : State} {r r' : Runs} {cs : List Call} → Ran caps s r cs s' r' → List Fed
answers done = []
answers (then {c = c} a d R) = record { call = c; accepted = is_done a.outcome } ∷ answers R

-- the used part of each run: commands, marker bytes, queries
abbrev pub commands_of : State → Runs → List Command
commands_of s r = map (λ (x : Record). x.command) (take s.progress.commands r.commands)

abbrev pub marks_of : State → Runs → List ℕ
marks_of s r = take s.progress.bytes r.bytes

abbrev pub queries_of : State → Runs → List ℕ
queries_of s r = take s.progress.queries r.queries

-- all that a state and its runs have recorded
abbrev pub recording_of : State → Runs → Recording
recording_of s r = record { state = s; list = commands_of s r; bytes = marks_of s r; queries = queries_of s r }
