-- WHAT IS CLAIMED (document 02 §13), as four types: "Let two recordings with equal capability flags differ in their earlier passes and agree on a later one that sets, before each of
-- its draws, the pipeline, each slot's buffer that this pipeline describes, the index buffer and the blend constants. Then those draws find the same in both, each list played whole from
-- a fresh machine: program, fetches, fixed settings, every buffer, texture and image set earlier in that pass, and the sampler of each unit whose sampler number is none or names a
-- sampler set earlier in that pass. No call in either was refused."
-- The theorems that have them: `later-passes`, `later-passes-of-run`; of one recording: `later-pass`, `later-pass-of-run` (proofs/Theorem.antt, OfRun.antt).
-- A fifth, `PassStands` (`pass-stands`), says where the draws of the pass stand in the whole list. Definitions only.
use Rattle.std.specs.Prelude.{◌-◌, ◌≡◌, true, List, [], ◌∷◌, ◌++◌, length, take, drop}
use Rattle.records.specs.declared.check.Rooms.{Rooms}
use Rattle.records.specs.declared.command.Command.{Command}
use Rattle.records.specs.declared.outcome.Outcome.TheVariants.{Done}
use Rattle.records.specs.declared.pass.RenderPassDescriptor.{RenderPassDescriptor}
use Rattle.records.specs.declared.pipeline.PrivateCapabilities.{PrivateCapabilities}
use Rattle.records.specs.declared.state.Answer.{Answer}
use Rattle.records.specs.declared.state.State.{State}
use Rattle.pass.specs.Marks.{Lent, Label}
use Rattle.calls.specs.Call.{Call, begin_encoding, begin_render_pass}
use Rattle.calls.specs.Did.{Runs, Did}
use Rattle.machine.specs.Each.{Each}
use Rattle.machine.specs.Machine.{Shot, fresh_gl}
use Rattle.lists.specs.Shots.{shots_from}
use Rattle.book.specs.Book.{Fed}
use Rattle.book.specs.Run.{carried, record_calls, fed, begun}
use Rattle.book.specs.Ran.{Ran, answers, commands_of}
use Rattle.later_passes.specs.Pass.{Inside, OneList, SetsAll, own}
use Rattle.later_passes.specs.Alike.{Finds, FindSame}

-- ---- the draws of the pass
-- "each list played whole from a fresh machine": all its draws, each with what it finds
abbrev pub draws_of : List Command → List Shot
draws_of l = shots_from fresh_gl l

-- those of the whole list that were added while it grew from one list to another
abbrev pub added : List Command → List Command → List Command → List Shot
added from to whole = take (length (draws_of to) - length (draws_of from)) (drop (length (draws_of from)) (draws_of whole))

-- the list that the calls record after an accepted `begin_encoding`
abbrev pub list_of : PrivateCapabilities → Rooms → State → List Call → List Command
list_of caps rooms s calls = (record_calls caps rooms (begun caps rooms s) calls).list

-- the pass that c begins, with the calls of body in it, after the calls earlier and before the calls after: its draws, in the whole list
abbrev pub pass_draws : PrivateCapabilities → Rooms → State → List Call → Call → List Call → List Call → List Shot
pass_draws caps rooms s earlier c body after =
    added (list_of caps rooms s (earlier ++ c ∷ [])) (list_of caps rooms s (earlier ++ c ∷ body)) (list_of caps rooms s (earlier ++ c ∷ body ++ after))

-- "No call in either was refused"
abbrev pub NoneRefused : List Fed → Type 0
NoneRefused fs = Each (λ (f : Fed). f.accepted ≡ true) fs

-- ---- the request
-- equal flags, and whatever else may differ: rooms, handed-in states, the calls before the pass and those after it
abbrev pub LaterPasses : Type 0
LaterPasses =
    (caps : PrivateCapabilities) (rooms rooms' : Rooms) (s s' : State) (earlier earlier' after after' : List Call)
    (d : RenderPassDescriptor) (label : Label) (set : Lent) (body : List Call)
    → Inside body → SetsAll caps (begin_render_pass d label set) body → OneList after → OneList after'
    → carried caps rooms s begin_encoding ≡ true → NoneRefused (fed caps rooms (begun caps rooms s).state (earlier ++ begin_render_pass d label set ∷ body ++ after))
    → carried caps rooms' s' begin_encoding ≡ true → NoneRefused (fed caps rooms' (begun caps rooms' s').state (earlier' ++ begin_render_pass d label set ∷ body ++ after'))
    → FindSame (own caps (begin_render_pass d label set) body)
    (pass_draws caps rooms s earlier (begin_render_pass d label set) body after)
    (pass_draws caps rooms' s' earlier' (begin_render_pass d label set) body after')

-- the same of two runs of the code: of the answers, the states and the lists that the functions hand back, after the beginning of the pass, after its calls and at the end
abbrev pub LaterPassesOfRun : Type 0
LaterPassesOfRun =
    (caps : PrivateCapabilities) (earlier earlier' after after' : List Call) (d : RenderPassDescriptor) (label : Label) (set : Lent) (body : List Call)
    (s₀ s₁ s₂ s₃ t₀ t₁ t₂ t₃ : State) (r₀ r r₁ p r₂ r₃ q₀ q q₁ o q₂ q₃ : Runs) (a x b y : Answer)
    → Inside body → SetsAll caps (begin_render_pass d label set) body → OneList after → OneList after'
    → Did caps s₀ r₀ begin_encoding a r → a.outcome ≡ Done → (E : Ran caps a.state r earlier s₁ r₁) → NoneRefused (answers E)
    → Did caps s₁ r₁ (begin_render_pass d label set) x p → x.outcome ≡ Done → (B : Ran caps x.state p body s₂ r₂) → NoneRefused (answers B)
    → (A : Ran caps s₂ r₂ after s₃ r₃) → NoneRefused (answers A)
    → Did caps t₀ q₀ begin_encoding b q → b.outcome ≡ Done → (E' : Ran caps b.state q earlier' t₁ q₁) → NoneRefused (answers E')
    → Did caps t₁ q₁ (begin_render_pass d label set) y o → y.outcome ≡ Done → (B' : Ran caps y.state o body t₂ q₂) → NoneRefused (answers B')
    → (A' : Ran caps t₂ q₂ after' t₃ q₃) → NoneRefused (answers A')
    → FindSame (own caps (begin_render_pass d label set) body)
    (added (commands_of x.state p) (commands_of s₂ r₂) (commands_of s₃ r₃))
    (added (commands_of y.state o) (commands_of t₂ q₂) (commands_of t₃ q₃))

-- ---- more than the request: of one recording, by what the pass's own book names; calls before the pass and after it may be refused
abbrev pub LaterPass : Type 0
LaterPass =
    (caps : PrivateCapabilities) (rooms : Rooms) (s : State) (earlier after : List Call) (d : RenderPassDescriptor) (label : Label) (set : Lent) (body : List Call)
    → Inside body → SetsAll caps (begin_render_pass d label set) body → OneList after
    → carried caps rooms s begin_encoding ≡ true
    → NoneRefused (fed caps rooms (record_calls caps rooms (begun caps rooms s) earlier).state (begin_render_pass d label set ∷ body))
    → Finds (own caps (begin_render_pass d label set) body) (pass_draws caps rooms s earlier (begin_render_pass d label set) body after)

abbrev pub LaterPassOfRun : Type 0
LaterPassOfRun =
    (caps : PrivateCapabilities) (earlier after : List Call) (d : RenderPassDescriptor) (label : Label) (set : Lent) (body : List Call)
    (s₀ s₁ s₂ s₃ : State) (r₀ r r₁ p r₂ r₃ : Runs) (a x : Answer)
    → Inside body → SetsAll caps (begin_render_pass d label set) body → OneList after
    → Did caps s₀ r₀ begin_encoding a r → a.outcome ≡ Done → Ran caps a.state r earlier s₁ r₁
    → Did caps s₁ r₁ (begin_render_pass d label set) x p → x.outcome ≡ Done → (B : Ran caps x.state p body s₂ r₂) → NoneRefused (answers B)
    → Ran caps s₂ r₂ after s₃ r₃
    → Finds (own caps (begin_render_pass d label set) body) (added (commands_of x.state p) (commands_of s₂ r₂) (commands_of s₃ r₃))

-- the draws of a whole list: those that it had when the pass began, those of the pass, and the others
abbrev pub PassStands : Type 0
PassStands =
    (caps : PrivateCapabilities) (rooms : Rooms) (s : State) (earlier after : List Call) (c : Call) (body : List Call)
    → OneList body → OneList after → carried caps rooms s begin_encoding ≡ true
    → (others : List Shot)
    × (draws_of (list_of caps rooms s (earlier ++ c ∷ body ++ after)) ≡ draws_of (list_of caps rooms s (earlier ++ c ∷ [])) ++ pass_draws caps rooms s earlier c body after ++ others)
