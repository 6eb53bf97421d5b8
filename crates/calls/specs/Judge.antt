-- Whether a call is carried through: its own conditions, those of the state that it is handed, and room for what it appends. Definitions only.
use Rattle.std.specs.Prelude.{◌+◌, Bool, cond, not, ◌||◌}
use Rattle.records.specs.Outcome.{accepted, either, smallest}
use Rattle.records.specs.Check.{over_room, state_conditions}
use Rattle.records.specs.declared.check.Broken.{Broken}
use Rattle.records.specs.declared.check.Rooms.{Rooms}
use Rattle.records.specs.declared.outcome.Outcome.{Outcome}
use Rattle.records.specs.declared.outcome.Conditions.{Conditions}
use Rattle.records.specs.declared.state.Phase.{Phase}
use Rattle.records.specs.declared.state.Progress.{Progress}
use Rattle.records.specs.declared.state.State.{State}
use Rattle.calls.specs.declared.judge.Counts.{Counts}

-- the progress after a call that ends in a phase and appends so much
abbrev pub grown : Progress → Phase → Counts → Progress
grown p phase more = record { phase = phase; commands = p.commands + more.commands; bytes = p.bytes + more.bytes; queries = p.queries + more.queries }

-- a call's conditions, with 7 where what it appends has no room
abbrev pub asked : Conditions → Bool → Conditions
asked c over =
    record {
      phase = c.phase;
      many = c.many;
      range = c.range;
      absent = c.absent;
      kind = c.kind;
      sum = c.sum;
      room = c.room || over;
    }

-- the conditions of a call's arguments, with 1 where its phase is not allowed
abbrev pub asking : Bool → Conditions → Conditions
asking allowed c =
    record { phase = not allowed; many = c.many; range = c.range; absent = c.absent; kind = c.kind; sum = c.sum; room = c.room }

abbrev pub judged : Rooms → State → Conditions → Phase → Counts → Outcome
judged rooms s c phase more = smallest (either (state_conditions s rooms) (asked c (over_room (grown s.progress phase more) rooms)))

-- the same by the limits that the state breaks and by its progress
abbrev pub judged_by : Rooms → Broken → Progress → Conditions → Phase → Counts → Outcome
judged_by rooms b p c phase more =
    smallest (record {
      phase = c.phase;
      many = b.many || c.many;
      range = b.range || c.range;
      absent = c.absent;
      kind = b.kind || c.kind;
      sum = c.sum;
      room = over_room p rooms || (c.room || over_room (grown p phase more) rooms);
    })

-- what a carried-through call takes, and a refused one leaves
abbrev pub taken : {A : Type 0} → Outcome → A → A → A
taken o new old = cond (accepted o) new old
