-- What a call's contract says: its answer, and every lent run after it, used part and rest. Definitions only.
use Rattle.std.specs.Prelude.{ℕ, ◌+◌, ◌≡◌, List, ◌++◌, map, length, take, drop}
use Rattle.records.specs.Outcome.{number, Smallest}
use Rattle.records.specs.declared.check.Rooms.{Rooms}
use Rattle.records.specs.declared.command.Command.{Command}
use Rattle.records.specs.declared.command.Record.{Record}
use Rattle.records.specs.declared.pipeline.PrivateCapabilities.{PrivateCapabilities}
use Rattle.records.specs.declared.state.Answer.{Answer}
use Rattle.records.specs.declared.state.State.{State}
use Rattle.calls.specs.Call.{Call}
use Rattle.calls.specs.Step.{meaning, conditions_of, Step, step}

-- the three lent runs: commands, marker bytes, queries
pub record Runs : Type 0 where
  pub commands : List Record
  pub bytes : List ℕ
  pub queries : List ℕ

abbrev pub rooms_of : Runs → Rooms
rooms_of r = record { commands = length r.commands; bytes = length r.bytes; queries = length r.queries }

-- the run with xs from the place at on; the rest of it as it was
abbrev pub written : {A : Type 0} → List A → ℕ → List A → List A
written run at xs = take at run ++ (xs ++ drop (at + length xs) run)

abbrev pub record_of : Command → Record
record_of c = record { command = c }

-- the runs after a step: what it appends stands behind the used parts
abbrev pub runs_after : State → Step → Runs → Runs
runs_after s t r =
    record {
      commands = written r.commands s.progress.commands (map record_of t.commands);
      bytes = written r.bytes s.progress.bytes t.bytes;
      queries = written r.queries s.progress.queries t.queries;
    }

-- the call did what `step` says, with the runs that it was lent
pub record Did (caps : PrivateCapabilities) (s : State) (r : Runs) (c : Call) (a : Answer) (r' : Runs) : Type 0 where
  -- document 01's number: the smallest whose condition holds, 0 where none does
  pub smallest : Smallest (conditions_of (rooms_of r) s (meaning caps s c)) (number a.outcome)
  pub outcome : a.outcome ≡ (step caps (rooms_of r) s c).outcome
  pub state : a.state ≡ (step caps (rooms_of r) s c).state
  pub runs : r' ≡ runs_after s (step caps (rooms_of r) s c) r

-- the same of a call that is handed the command list alone, whatever the other runs are
abbrev pub Lists : PrivateCapabilities → State → Call → List Record → Answer → List Record → Type 0
Lists caps s c l a l' =
    (bytes queries : List ℕ) → Did caps s (record { commands = l; bytes = bytes; queries = queries }) c a (record { commands = l'; bytes = bytes; queries = queries })

-- of one that is handed the command list and the marker bytes
abbrev pub Marks : PrivateCapabilities → State → Call → List Record → List ℕ → Answer → List Record → List ℕ → Type 0
Marks caps s c l b a l' b' =
    (queries : List ℕ) → Did caps s (record { commands = l; bytes = b; queries = queries }) c a (record { commands = l'; bytes = b'; queries = queries })

-- of one that is handed the command list and the query list
abbrev pub Resolves : PrivateCapabilities → State → Call → List Record → List ℕ → Answer → List Record → List ℕ → Type 0
Resolves caps s c l q a l' q' =
    (bytes : List ℕ) → Did caps s (record { commands = l; bytes = bytes; queries = q }) c a (record { commands = l'; bytes = bytes; queries = q' })

-- and of a call that is handed no run
abbrev pub Keeps : PrivateCapabilities → State → Call → Answer → Type 0
Keeps caps s c a = (runs : Runs) → Did caps s runs c a runs
