-- What a plan has to say of a call that is handed the command list alone: the answer, and where its commands go. Definitions only.
use Rattle.std.specs.Prelude.{ℕ, ◌+◌, ◌<◌, ◌≤◌, ◌≡◌, List, [], length, get_or}
use Rattle.records.specs.declared.check.Rooms.{Rooms}
use Rattle.records.specs.declared.command.Command.{Command}
use Rattle.records.specs.declared.command.Command.TheVariants.{PopDebugGroup}
use Rattle.records.specs.declared.outcome.Conditions.{Conditions}
use Rattle.records.specs.declared.outcome.Outcome.{Outcome}
use Rattle.records.specs.declared.state.State.{State}
use Rattle.calls.specs.declared.judge.Counts.{Counts}
use Rattle.calls.specs.Meaning.{Meaning}
use Rattle.calls.specs.Parts.{with_progress}
use Rattle.calls.specs.Judge.{grown, judged, taken}
use Rattle.calls.specs.Step.{outcome_of, progress_after}

-- a run that a call is not handed has room up to its limit
abbrev pub list_rooms : ℕ → Rooms
list_rooms room = record { commands = room; bytes = 65536; queries = 1024 }

-- the rooms of a call that is handed the list and the marker bytes, and of one that is handed the list and the query list
abbrev pub byte_rooms : ℕ → ℕ → Rooms
byte_rooms room bytes = record { commands = room; bytes = bytes; queries = 1024 }

abbrev pub query_rooms : ℕ → ℕ → Rooms
query_rooms room queries = record { commands = room; bytes = 65536; queries = queries }

-- so many commands, no bytes, no queries
abbrev pub commands_only : ℕ → Counts
commands_only n = record { commands = n; bytes = 0; queries = 0 }

-- the outcome of a call that stays in its phase and appends n commands
abbrev pub listed : ℕ → State → Conditions → ℕ → Outcome
listed room s c n = judged (list_rooms room) s c s.progress.phase (commands_only n)

-- and the state that it leaves, where it makes `after` of the state, the progress aside
abbrev pub moved : State → ℕ → State → State
moved s n after = with_progress (grown s.progress s.progress.phase (commands_only n)) after

-- n elements, element i being `at_place i`, go to the place `at` of a run with so much room, of which so much is used: xs where the call is carried through, none where it is not
pub record Put {X : Type 0} (room used : ℕ) (o : Outcome) (xs : List X) (none : X) (at n : ℕ) (at_place : ℕ → X) : Type 0 where
  pub count : n ≡ length (taken o xs [])
  pub fits : at + n ≤ room
  pub behind : 0 < n → at ≡ used
  pub each : (i : ℕ) → i < n → at_place i ≡ get_or (taken o xs []) i none

-- the same of the command list
abbrev pub Laid : ℕ → State → Outcome → List Command → ℕ → ℕ → (ℕ → Command) → Type 0
Laid room s o cs at n at_place = Put room s.progress.commands o cs PopDebugGroup at n at_place

-- a plan's outcome and next state
abbrev pub Answered : State → Outcome → State → Outcome → State → Type 0
Answered s o after outcome next = (outcome ≡ o) × (next ≡ taken o after s)

-- the same of a meaning
abbrev pub outcome_in : ℕ → State → Meaning → Outcome
outcome_in room s m = outcome_of (list_rooms room) s m

abbrev pub state_in : Meaning → State
state_in m = with_progress (progress_after m) m.after

-- a plan that is right for a meaning: its outcome and next state; its commands go to their place; each that is written may be asked for
abbrev pub Right : ℕ → State → Meaning → Outcome → State → ℕ → ℕ → (ℕ → Command) → (ℕ → Type 0) → Type 0
Right room s m outcome next at n at_place allowed =
    Answered s (outcome_in room s m) (state_in m) outcome next
    × Laid room s (outcome_in room s m) m.commands at n at_place
    × ((i : ℕ) → i < n → allowed i)

-- a call that is handed no run, and what it appends
abbrev pub no_rooms : Rooms
no_rooms = record { commands = 4096; bytes = 65536; queries = 1024 }

abbrev pub nothing : Counts
nothing = commands_only 0
