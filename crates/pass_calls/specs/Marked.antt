-- What the beginnings of both kinds of pass share: what they append, and what a plan of one has to say. Definitions only.
use Rattle.std.specs.Prelude.{ℕ, ◌+◌, ◌≤◌, ◌≡◌, Bool, List, length, get_or}
use Rattle.records.specs.declared.command.Command.{Command}
use Rattle.records.specs.declared.outcome.Conditions.{Conditions}
use Rattle.records.specs.declared.outcome.Outcome.{Outcome}
use Rattle.records.specs.declared.state.PassState.{PassState}
use Rattle.records.specs.declared.state.Phase.{Phase}
use Rattle.records.specs.declared.state.State.{State}
use Rattle.pass.specs.Marks.{Label}
use Rattle.calls.specs.declared.judge.Counts.{Counts}
use Rattle.calls.specs.Judge.{grown, judged, taken}
use Rattle.calls.specs.Meaning.{Meaning}
use Rattle.calls.specs.Parts.{with_progress, with_pass}
use Rattle.calls.specs.Planned.{byte_rooms, Put, Laid, Answered, state_in}
use Rattle.calls.specs.Step.{outcome_of}
use Rattle.pass_calls.specs.declared.marked.Marked.{Marked}

-- so many commands and bytes
abbrev pub marks : ℕ → ℕ → Counts
marks n size = record { commands = n; bytes = size; queries = 0 }

-- the outcome of a call that is handed the list and the marker bytes
abbrev pub marked_outcome : ℕ → ℕ → State → Conditions → Phase → ℕ → ℕ → Outcome
marked_outcome room bytes s c phase n size = judged (byte_rooms room bytes) s c phase (marks n size)

-- the answer of such a call that leaves a pass record, and where its commands and bytes go
pub record MarkedOf (room bytes : ℕ) (s : State) (c : Conditions) (phase : Phase) (n size : ℕ) (pass : PassState) (m : Marked) : Type 0 where
  pub said : m.outcome ≡ marked_outcome room bytes s c phase n size
  pub left : with_pass m.pass (with_progress m.progress s) ≡ taken (marked_outcome room bytes s c phase n size) (with_progress (grown s.progress phase (marks n size)) (with_pass pass s)) s
  pub here : m.at ≡ taken (marked_outcome room bytes s c phase n size) s.progress.commands 0
  pub many : m.n ≡ taken (marked_outcome room bytes s c phase n size) n 0
  pub there : m.put ≡ taken (marked_outcome room bytes s c phase n size) s.progress.bytes 0
  pub long : m.size ≡ taken (marked_outcome room bytes s c phase n size) size 0

-- n bytes of the label have room from the place at on
abbrev pub LabelFits : List ℕ → ℕ → ℕ → ℕ → Type 0
LabelFits label at n room = (at + n ≤ room) × (n ≤ length label)

-- a label as it is lent
abbrev pub label_of : Bool → List ℕ → ℕ → Label
label_of has run count = record { present = has; bytes = record { run = run; count = count } }

-- a plan is right for a call with a label of so many bytes, whatever they are: the answer, its commands, and the label's bytes
abbrev pub Begins : ℕ → ℕ → ℕ → State → (Label → Meaning) → Bool → ℕ → Outcome → State → ℕ → ℕ → (ℕ → Command) → ℕ → ℕ → Type 0
Begins room bytes len s m has count outcome next at n command put size =
    (run : List ℕ) → length run ≡ len
    → Answered s (outcome_of (byte_rooms room bytes) s (m (label_of has run count))) (state_in (m (label_of has run count))) outcome next
    × Laid room s (outcome_of (byte_rooms room bytes) s (m (label_of has run count))) (m (label_of has run count)).commands at n command
    × Put bytes s.progress.bytes (outcome_of (byte_rooms room bytes) s (m (label_of has run count))) (m (label_of has run count)).bytes 0 put size (λ i. get_or run i 0)
