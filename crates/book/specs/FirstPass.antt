-- The draws of the first render pass: as the machine carried them out, as the book has them, and what each finds. Definitions only.
use Rattle.std.specs.Prelude.{List, [], ◌∷◌, map}
use Rattle.records.specs.declared.check.Rooms.{Rooms}
use Rattle.records.specs.declared.pipeline.PrivateCapabilities.{PrivateCapabilities}
use Rattle.records.specs.declared.state.State.{State}
use Rattle.calls.specs.Call.{Call}
use Rattle.machine.specs.View.{View}
use Rattle.machine.specs.Machine.{Shot, fresh, play}
use Rattle.machine.specs.Found.{view_of}
use Rattle.book.specs.Book.{Entered, empty, book_of}
use Rattle.book.specs.Run.{record_calls, fed, begun}

-- "played from a fresh GL machine": the draws of the list that the calls record
abbrev pub shots : PrivateCapabilities → Rooms → State → List Call → List Shot
shots caps rooms s calls = (play fresh (record_calls caps rooms (begun caps rooms s) calls).list).shots

-- the draws that the book has
abbrev pub entries : PrivateCapabilities → Rooms → State → List Call → List Entered
entries caps rooms s calls = (book_of caps empty (fed caps rooms (begun caps rooms s).state calls)).draws

-- what the book names at each
abbrev pub named : List Entered → List View
named ds = map (λ (d : Entered). d.view) ds

-- "read off the machine at its pipeline's own attribute locations and target places": the pipeline is the one that the book has at that draw
abbrev pub found : List Entered → List Shot → List View
found [] ss = []
found (d ∷ ds) [] = []
found (d ∷ ds) (s ∷ ss) = view_of d.pipeline s ∷ found ds ss
