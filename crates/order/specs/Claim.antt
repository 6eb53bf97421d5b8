-- WHAT IS CLAIMED of whole lists of calls, as types. The theorems that have them:
-- demand 3: `order`, `same-order`, `order-of-run`, `same-order-of-run` (proofs/Theorem.antt, Same.antt, OfRun.antt);
-- no run gets stuck: `never-broken`, `never-broken-of-run`, `own-refusal-of-run`, `phase-of-run` (proofs/Unbroken.antt, Stuck.antt);
-- document 02, request 5: `rest-of-run` (proofs/Rest.antt), `as-rust`, `as-rust-of-run` (proofs/PassAsRust.antt).
-- In demand 3's nothing of the recorder stands but its calls' contracts: `machine` says what a list does, `book` what the calls name. Definitions only.
use Rattle.std.specs.Prelude.{◌≡◌, true, false, List, length, replicate, None}
use Rattle.records.specs.Check.{state_conditions}
use Rattle.records.specs.Outcome.{number, none_hold, Smallest}
use Rattle.records.specs.declared.check.Rooms.{Rooms}
use Rattle.records.specs.declared.outcome.Outcome.TheVariants.{Done}
use Rattle.records.specs.declared.pipeline.PrivateCapabilities.{PrivateCapabilities}
use Rattle.records.specs.declared.state.Answer.{Answer}
use Rattle.records.specs.declared.state.Phase.TheVariants.{Open}
use Rattle.records.specs.declared.state.State.{State}
use Rattle.calls.specs.Call.{Call, begin_encoding}
use Rattle.calls.specs.Did.{Runs, rooms_of, Did}
use Rattle.calls.specs.Meaning.{in_render}
use Rattle.calls.specs.Step.{meaning, call_conditions}
use Rattle.machine.specs.Machine.{fresh, play}
use Rattle.book.specs.Book.{empty, book_of}
use Rattle.book.specs.Run.{carried, record_calls, fed, Premises, begun}
use Rattle.book.specs.Pages.{draw_calls, calls_of, pages_of}
use Rattle.book.specs.Ran.{Ran, answers, commands_of, recording_of}
use Rattle.book.specs.FirstPass.{shots, entries, named, found}
use Rattle.order.specs.Phases.{phase_told}
use Rattle.order.specs.OneNumber.{rust_calls, rust_fed, EvenWhere, SameLists}

-- "For every list of calls, refused ones included, played from a fresh GL machine, each draw of the first render pass finds exactly what the book .. names there":
-- on every board, from an accepted `begin_encoding` up to any point, under document 01's premises
abbrev pub Order : Type 0
Order =
    (caps : PrivateCapabilities) (rooms : Rooms) (s : State) (calls : List Call)
    → carried caps rooms s begin_encoding ≡ true → Premises caps empty (fed caps rooms (begun caps rooms s).state calls)
    → (length (shots caps rooms s calls) ≡ length (entries caps rooms s calls))
    × (found (entries caps rooms s calls) (shots caps rooms s calls) ≡ named (entries caps rooms s calls))

-- "for every two such lists on one board, whose first render passes have .. the same accepted draw calls in the same order, and whose books agree at each draw in every entry:
-- both command lists have equally many draws there, and no draw differs". Pipelines agree by what they say (`pages_of`), and each draw is read by its own list's
abbrev pub SameOrder : Type 0
SameOrder =
    (caps : PrivateCapabilities) (rooms rooms' : Rooms) (s s' : State) (calls calls' : List Call)
    → carried caps rooms s begin_encoding ≡ true → Premises caps empty (fed caps rooms (begun caps rooms s).state calls)
    → carried caps rooms' s' begin_encoding ≡ true → Premises caps empty (fed caps rooms' (begun caps rooms' s').state calls')
    → calls_of (draw_calls caps (fed caps rooms (begun caps rooms s).state calls)) ≡ calls_of (draw_calls caps (fed caps rooms' (begun caps rooms' s').state calls'))
    → pages_of (draw_calls caps (fed caps rooms (begun caps rooms s).state calls)) ≡ pages_of (draw_calls caps (fed caps rooms' (begun caps rooms' s').state calls'))
    → (length (shots caps rooms s calls) ≡ length (shots caps rooms' s' calls'))
    × (found (entries caps rooms s calls) (shots caps rooms s calls) ≡ found (entries caps rooms' s' calls') (shots caps rooms' s' calls'))

-- the first of the code: of the answers, the state and the list that the functions hand back, in any run after a `begin_encoding` that answered `Done`
abbrev pub OrderOfRun : Type 0
OrderOfRun =
    (caps : PrivateCapabilities) (s₀ s' : State) (r₀ r r' : Runs) (a : Answer) (calls : List Call)
    → Did caps s₀ r₀ begin_encoding a r → a.outcome ≡ Done → (R : Ran caps a.state r calls s' r') → Premises caps empty (answers R)
    → (length (play fresh (commands_of s' r')).shots ≡ length (book_of caps empty (answers R)).draws)
    × (found (book_of caps empty (answers R)).draws (play fresh (commands_of s' r')).shots ≡ named (book_of caps empty (answers R)).draws)

-- and the second
abbrev pub SameOrderOfRun : Type 0
SameOrderOfRun =
    (caps : PrivateCapabilities) (s₀ t₀ s' t' : State) (r₀ r r' q₀ q q' : Runs) (a b : Answer) (calls calls' : List Call)
    → Did caps s₀ r₀ begin_encoding a r → a.outcome ≡ Done → (R : Ran caps a.state r calls s' r') → Premises caps empty (answers R)
    → Did caps t₀ q₀ begin_encoding b q → b.outcome ≡ Done → (Q : Ran caps b.state q calls' t' q') → Premises caps empty (answers Q)
    → calls_of (draw_calls caps (answers R)) ≡ calls_of (draw_calls caps (answers Q))
    → pages_of (draw_calls caps (answers R)) ≡ pages_of (draw_calls caps (answers Q))
    → (length (play fresh (commands_of s' r')).shots ≡ length (play fresh (commands_of t' q')).shots)
    × (found (book_of caps empty (answers R)).draws (play fresh (commands_of s' r')).shots
    ≡ found (book_of caps empty (answers Q)).draws (play fresh (commands_of t' q')).shots)

-- ---- no run gets stuck
-- "A handed-in state that breaks a limit above is turned away by that limit's number, a count above its lent run by 7": from an accepted `begin_encoding` on the calls leave no such state
abbrev pub NeverBroken : Type 0
NeverBroken =
    (caps : PrivateCapabilities) (rooms : Rooms) (s : State) (calls : List Call)
    → carried caps rooms s begin_encoding ≡ true → state_conditions (record_calls caps rooms (begun caps rooms s) calls).state rooms ≡ none_hold

-- of the states and runs that the functions hand back
abbrev pub NeverBrokenOfRun : Type 0
NeverBrokenOfRun =
    (caps : PrivateCapabilities) (s₀ s' : State) (r₀ r r' : Runs) (a : Answer) (calls : List Call)
    → Did caps s₀ r₀ begin_encoding a r → a.outcome ≡ Done → Ran caps a.state r calls s' r' → state_conditions s' (rooms_of r') ≡ none_hold

-- so each refusal is the call's own: the number of the answer is the smallest whose condition holds of the call alone, of its phase, its arguments and the room that it needs
abbrev pub OwnRefusalOfRun : Type 0
OwnRefusalOfRun =
    (caps : PrivateCapabilities) (s₀ s' : State) (r₀ r r' : Runs) (a : Answer) (calls : List Call)
    → Did caps s₀ r₀ begin_encoding a r → a.outcome ≡ Done → Ran caps a.state r calls s' r'
    → (c : Call) (b : Answer) (r'' : Runs) → Did caps s' r' c b r'' → Smallest (call_conditions (rooms_of r') s' (meaning caps s' c)) (number b.outcome)

-- and the phase in which it is made is the one that the accepted calls alone tell
abbrev pub PhaseOfRun : Type 0
PhaseOfRun =
    (caps : PrivateCapabilities) (s₀ s' : State) (r₀ r r' : Runs) (a : Answer) (calls : List Call)
    → Did caps s₀ r₀ begin_encoding a r → a.outcome ≡ Done → (R : Ran caps a.state r calls s' r') → s'.progress.phase ≡ phase_told Open (answers R)

-- ---- document 02, request 5
-- "a pass end sets all sixteen back to 0", of either pass: outside of a render pass no slot has a number, and none is dirty
abbrev pub RestOfRun : Type 0
RestOfRun =
    (caps : PrivateCapabilities) (s₀ s' : State) (r₀ r r' : Runs) (a : Answer) (calls : List Call)
    → Did caps s₀ r₀ begin_encoding a r → a.outcome ≡ Done → Ran caps a.state r calls s' r'
    → in_render s'.progress.phase ≡ false → (s'.vertex.dirty_vbuf_mask ≡ 0) × (s'.vertex.instances ≡ replicate 16 0)

-- "the list is the Rust's wherever each draw follows a pipeline of its own pass and all pipelines of a pass describe the same slots", pass by pass: whatever came before, even or not,
-- from outside of a render pass on the Rust's rule records the same and answers the same, as long as what follows is even
abbrev pub AsRust : Type 0
AsRust =
    (caps : PrivateCapabilities) (rooms : Rooms) (s : State) (before calls : List Call)
    → carried caps rooms s begin_encoding ≡ true
    → let x = record_calls caps rooms (begun caps rooms s) before in
    in_render x.state.progress.phase ≡ false → EvenWhere caps None (fed caps rooms x.state calls)
    → SameLists (record_calls caps rooms x calls) (rust_calls caps rooms x 0 calls) × (fed caps rooms x.state calls ≡ rust_fed caps rooms x.state 0 calls)

-- of what the functions hand back, before and after
abbrev pub AsRustOfRun : Type 0
AsRustOfRun =
    (caps : PrivateCapabilities) (s₀ s₁ s' : State) (r₀ r r₁ r' : Runs) (a : Answer) (before calls : List Call)
    → Did caps s₀ r₀ begin_encoding a r → a.outcome ≡ Done → Ran caps a.state r before s₁ r₁ → in_render s₁.progress.phase ≡ false
    → (R : Ran caps s₁ r₁ calls s' r') → EvenWhere caps None (answers R)
    → SameLists (recording_of s' r') (rust_calls caps (rooms_of r₁) (recording_of s₁ r₁) 0 calls) × (answers R ≡ rust_fed caps (rooms_of r₁) s₁ 0 calls)
