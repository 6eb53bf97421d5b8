-- WHAT IS CLAIMED: a list that the calls recorded breaks no limit (lists/specs/Limits.antt), so that no function that is handed it turns it away. Definitions only.
use Rattle.std.specs.Prelude.{◌≡◌, true, List}
use Rattle.records.specs.declared.check.Rooms.{Rooms}
use Rattle.records.specs.declared.outcome.Outcome.TheVariants.{Done}
use Rattle.records.specs.declared.pipeline.PrivateCapabilities.{PrivateCapabilities}
use Rattle.records.specs.declared.state.Answer.{Answer}
use Rattle.records.specs.declared.state.Progress.{Progress}
use Rattle.records.specs.declared.state.State.{State}
use Rattle.calls.specs.Call.{Call, begin_encoding}
use Rattle.calls.specs.Did.{Runs, Did}
use Rattle.book.specs.Run.{carried, Recording, record_calls, begun}
use Rattle.book.specs.Ran.{Ran}
use Rattle.lists.specs.declared.limits.Used.{Used}
use Rattle.lists.specs.Limits.{keeps, Handed, handed, broken_by}

-- how much an encoder has used of its runs
abbrev pub used_of : Progress → Used
used_of p = record { commands = p.commands; bytes = p.bytes; queries = p.queries }

-- what it has recorded, as a list that is handed in
abbrev pub recorded_of : Rooms → Recording → Handed
recorded_of rooms r = record { room = rooms.commands; used = used_of r.state.progress; commands = r.list }

-- of every list of calls, refused ones included, on every board, from an accepted `begin_encoding` up to any point
abbrev pub Fits : Type 0
Fits =
    (caps : PrivateCapabilities) (rooms : Rooms) (s : State) (calls : List Call)
    → carried caps rooms s begin_encoding ≡ true → broken_by (recorded_of rooms (record_calls caps rooms (begun caps rooms s) calls)) ≡ keeps

-- of the code: of the run and the state that the functions hand back
abbrev pub FitsOfRun : Type 0
FitsOfRun =
    (caps : PrivateCapabilities) (s₀ s' : State) (r₀ r r' : Runs) (a : Answer) (calls : List Call)
    → Did caps s₀ r₀ begin_encoding a r → a.outcome ≡ Done → Ran caps a.state r calls s' r' → broken_by (handed r'.commands (used_of s'.progress)) ≡ keeps
