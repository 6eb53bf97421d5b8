-- WHAT IS CLAIMED (document 02 §3), as two types: "For the same calls in a first render pass with no draw after it, accepted on two boards that both emulate instancing or both do not,
-- under demand 3's other premises, the answer is proved equal". §12: it "must be shown again". Both are claimed for every comparison of floats by which a float is like itself.
-- The theorems that have them: `two-boards`, `two-boards-of-run`; by bits: `two-boards-by-bits`, `two-boards-of-run-by-bits`. Definitions only.
use Rattle.std.specs.Prelude.{◌≡◌, Bool, true, false, List, Float}
use Rattle.records.specs.declared.check.Rooms.{Rooms}
use Rattle.records.specs.declared.outcome.Outcome.TheVariants.{Done}
use Rattle.records.specs.declared.pipeline.PrivateCapabilities.{PrivateCapabilities}
use Rattle.records.specs.declared.state.Answer.{Answer}
use Rattle.records.specs.declared.state.State.{State}
use Rattle.calls.specs.Call.{Call, begin_encoding}
use Rattle.calls.specs.Did.{Runs, Did}
use Rattle.book.specs.Book.{empty}
use Rattle.book.specs.Run.{carried, record_calls, fed, Premises, begun}
use Rattle.book.specs.Ran.{Ran, answers}
use Rattle.lists.specs.Limits.{handed}
use Rattle.boards.specs.declared.compare.Compared.TheVariants.{Equal}
use Rattle.boards.specs.Alike.{Reflexive}
use Rattle.boards.specs.Compared.{compared}
use Rattle.recorded.specs.Recorded.{used_of, recorded_of}
use Rattle.two_boards.specs.Late.{late_draws}

-- caps' is the board without layout; of the first nothing is asked but the instancing. Rooms, handed-in states and the other flags may differ
abbrev pub TwoBoardsBy : (Float → Float → Bool) → Type 0
TwoBoardsBy same =
    (caps caps' : PrivateCapabilities) → caps.fully_featured_instancing ≡ caps'.fully_featured_instancing → caps'.vertex_buffer_layout ≡ false
    → (rooms rooms' : Rooms) (s s' : State) (calls : List Call)
    → carried caps rooms s begin_encoding ≡ true → carried caps' rooms' s' begin_encoding ≡ true
    → fed caps rooms (begun caps rooms s).state calls ≡ fed caps' rooms' (begun caps' rooms' s').state calls
    → Premises caps empty (fed caps rooms (begun caps rooms s).state calls)
    → late_draws caps empty false (fed caps rooms (begun caps rooms s).state calls) ≡ false
    → compared same (recorded_of rooms (record_calls caps rooms (begun caps rooms s) calls)) (recorded_of rooms' (record_calls caps' rooms' (begun caps' rooms' s') calls)) ≡ Equal

abbrev pub TwoBoards : Type 0
TwoBoards = (same : Float → Float → Bool) → Reflexive same → TwoBoardsBy same

-- the same of the code: of the runs and states that the functions hand back
abbrev pub TwoBoardsOfRunBy : (Float → Float → Bool) → Type 0
TwoBoardsOfRunBy same =
    (caps caps' : PrivateCapabilities) → caps.fully_featured_instancing ≡ caps'.fully_featured_instancing → caps'.vertex_buffer_layout ≡ false
    → (s₀ t₀ s' t' : State) (r₀ r r' q₀ q q' : Runs) (a b : Answer) (calls : List Call)
    → Did caps s₀ r₀ begin_encoding a r → a.outcome ≡ Done → (R : Ran caps a.state r calls s' r')
    → Did caps' t₀ q₀ begin_encoding b q → b.outcome ≡ Done → (Q : Ran caps' b.state q calls t' q')
    → answers R ≡ answers Q → Premises caps empty (answers R) → late_draws caps empty false (answers R) ≡ false
    → compared same (handed r'.commands (used_of s'.progress)) (handed q'.commands (used_of t'.progress)) ≡ Equal

abbrev pub TwoBoardsOfRun : Type 0
TwoBoardsOfRun = (same : Float → Float → Bool) → Reflexive same → TwoBoardsOfRunBy same
