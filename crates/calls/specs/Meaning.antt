-- What a call means: the phases that it needs, the conditions that turn it away, what it records, the state that it leaves. Definitions only.
use Rattle.std.specs.Prelude.{ℕ, Bool, true, false, List, []}
use Rattle.records.specs.declared.check.Rooms.{Rooms}
use Rattle.records.specs.declared.command.Command.{Command}
use Rattle.records.specs.declared.outcome.Conditions.{Conditions}
use Rattle.records.specs.declared.state.Phase.{Phase}
use Rattle.records.specs.declared.state.Phase.TheVariants.{Closed, Open, Render, Compute}
use Rattle.records.specs.declared.state.State.{State}

pub record Meaning : Type 0 where
  -- the phases that the call needs
  pub allowed : Phase → Bool
  -- conditions 2 to 6 of its arguments, and 7 where a count is above its read-only run
  pub asks : Conditions
  -- what it appends to the list, to the marker bytes and to the query list
  pub commands : List Command
  pub bytes : List ℕ
  pub queries : List ℕ
  -- the state that it leaves, the phase and the counts aside
  pub after : State
  pub phase : Phase
  -- the runs that it is handed to write
  pub handed : Rooms → Rooms

-- ---- document 01, "Phases"
abbrev pub in_closed : Phase → Bool
in_closed Closed = true
in_closed Open = false
in_closed Render = false
in_closed Compute = false

abbrev pub in_open : Phase → Bool
in_open Closed = false
in_open Open = true
in_open Render = false
in_open Compute = false

abbrev pub in_render : Phase → Bool
in_render Closed = false
in_render Open = false
in_render Render = true
in_render Compute = false

abbrev pub in_compute : Phase → Bool
in_compute Closed = false
in_compute Open = false
in_compute Render = false
in_compute Compute = true

abbrev pub in_pass : Phase → Bool
in_pass Closed = false
in_pass Open = false
in_pass Render = true
in_pass Compute = true

abbrev pub not_closed : Phase → Bool
not_closed Closed = false
not_closed Open = true
not_closed Render = true
not_closed Compute = true

-- ---- the runs that a call is handed; a run that it is not handed has room up to its limit
abbrev pub no_run : Rooms → Rooms
no_run r = record { commands = 4096; bytes = 65536; queries = 1024 }

abbrev pub list_run : Rooms → Rooms
list_run r = record { commands = r.commands; bytes = 65536; queries = 1024 }

abbrev pub bytes_run : Rooms → Rooms
bytes_run r = record { commands = r.commands; bytes = r.bytes; queries = 1024 }

abbrev pub queries_run : Rooms → Rooms
queries_run r = record { commands = r.commands; bytes = 65536; queries = r.queries }

-- ---- conditions by their numbers, and the shapes of most calls
abbrev pub refusing : Bool → Bool → Bool → Bool → Bool → Bool → Conditions
refusing two three four five six seven =
    record { phase = false; many = two; range = three; absent = four; kind = five; sum = six; room = seven }

-- nothing is asked but the phase and the room
abbrev pub free : Conditions
free = refusing false false false false false false

-- a call that appends commands and stays in its phase
abbrev pub records : (Phase → Bool) → Conditions → List Command → State → Meaning
records ok asks cs s =
    record {
      allowed = ok;
      asks = asks;
      commands = cs;
      bytes = [];
      queries = [];
      after = s;
      phase = s.progress.phase;
      handed = list_run;
    }

-- a call that appends nothing and stays in its phase
abbrev pub changes : (Phase → Bool) → Conditions → State → Meaning
changes ok asks s =
    record {
      allowed = ok;
      asks = asks;
      commands = [];
      bytes = [];
      queries = [];
      after = s;
      phase = s.progress.phase;
      handed = no_run;
    }
