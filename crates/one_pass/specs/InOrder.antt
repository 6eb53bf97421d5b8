-- The order theorem about the list that a function hands back which records it by the public calls (`Records`), as a type; the theorem is `in_order` (proofs/InOrder.antt). Definitions only.
use Rattle.std.specs.Prelude.{ℕ, ◌≡◌, List, length}
use Rattle.records.specs.declared.command.Record.{Record}
use Rattle.records.specs.declared.outcome.Outcome.TheVariants.{Done}
use Rattle.records.specs.declared.pipeline.PrivateCapabilities.{PrivateCapabilities}
use Rattle.records.specs.declared.state.Answer.{Answer}
use Rattle.records.specs.declared.state.State.{State}
use Rattle.calls.specs.Call.{Call}
use Rattle.machine.specs.Machine.{fresh, play}
use Rattle.book.specs.Book.{empty, book_of}
use Rattle.book.specs.FirstPass.{found, named}
use Rattle.book.specs.Run.{Premises}
use Rattle.book.specs.Ran.{answers, commands_of}
use Rattle.one_pass.specs.Script.{runs_of, Records}

-- where `begin_encoding` came back with `Done`, and under document 01's premises of the calls that came back with it: played from a fresh machine, the list has the draws of the book, and each finds what the book names there
abbrev pub InOrder : Type 0
InOrder =
    (caps : PrivateCapabilities) (s : State) (calls : List Call) (l l' : List Record) (bytes bytes' queries : List ℕ) (a : Answer) (R : Records caps s calls l bytes a l' bytes')
    → (R queries).0.outcome ≡ Done → Premises caps empty (answers (R queries).1.1.0)
    → (length (play fresh (commands_of a.state (runs_of l' bytes' queries))).shots ≡ length (book_of caps empty (answers (R queries).1.1.0)).draws)
    × (found (book_of caps empty (answers (R queries).1.1.0)).draws (play fresh (commands_of a.state (runs_of l' bytes' queries))).shots
    ≡ named (book_of caps empty (answers (R queries).1.1.0)).draws)
