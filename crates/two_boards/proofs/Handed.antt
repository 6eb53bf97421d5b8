-- What `compare` hands back about two such lists, by its contract (`Answered`), is `Equal`. Assumes nothing.
use mathlib.Core.Path.{◌≡◌, ◌∙◌}
use mathlib.Core.Bool.{false}
use mathlib.Core.List.{List}
use Rattle.records.specs.declared.outcome.Outcome.TheVariants.{Done}
use Rattle.records.specs.declared.pipeline.PrivateCapabilities.{PrivateCapabilities}
use Rattle.records.specs.declared.state.Answer.{Answer}
use Rattle.records.specs.declared.state.State.{State}
use Rattle.calls.specs.Call.{Call, begin_encoding}
use Rattle.calls.specs.Did.{Runs, Did}
use Rattle.book.specs.Book.{empty}
use Rattle.book.specs.Run.{Premises}
use Rattle.book.specs.Ran.{Ran, answers}
use Rattle.lists.specs.Limits.{handed}
use Rattle.boards.specs.declared.compare.Compared.{Compared}
use Rattle.boards.specs.declared.compare.Compared.TheVariants.{Equal}
use Rattle.boards.specs.Remains.{Answered}
use Rattle.recorded.specs.Recorded.{used_of}
use Rattle.two_boards.specs.Late.{late_draws}
use Rattle.two_boards.proofs.OfRun.{two-boards-of-run-by-bits}

pub answer-equal : (caps caps' : PrivateCapabilities) → caps.fully_featured_instancing ≡ caps'.fully_featured_instancing → caps'.vertex_buffer_layout ≡ false
    → (s₀ t₀ s' t' : State) (r₀ r r' q₀ q q' : Runs) (a b : Answer) (calls : List Call)
    → Did caps s₀ r₀ begin_encoding a r → a.outcome ≡ Done → (R : Ran caps a.state r calls s' r')
    → Did caps' t₀ q₀ begin_encoding b q → b.outcome ≡ Done → (Q : Ran caps' b.state q calls t' q')
    → answers R ≡ answers Q → Premises caps empty (answers R) → late_draws caps empty false (answers R) ≡ false
    → (o : Compared) → Answered (handed r'.commands (used_of s'.progress)) (handed q'.commands (used_of t'.progress)) o → o ≡ Equal
answer-equal caps caps' alike flat s₀ t₀ s' t' r₀ r r' q₀ q q' a b calls d e R d' e' Q x P l o c =
    c.0 ∙ two-boards-of-run-by-bits caps caps' alike flat s₀ t₀ s' t' r₀ r r' q₀ q q' a b calls d e R d' e' Q x P l
