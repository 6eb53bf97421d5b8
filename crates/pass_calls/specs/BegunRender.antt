-- A plan of the beginning of a render pass. Definitions only.
use Rattle.std.specs.Prelude.{ℕ, ◌+◌, ◌<◌, ◌≤◌, ◌^◌, ◌≡◌, Bool, List, [], ◌++◌, length, get_or}
use Rattle.records.specs.declared.command.Command.{Command}
use Rattle.records.specs.declared.command.Command.TheVariants.{PopDebugGroup}
use Rattle.records.specs.declared.state.Answer.{Answer}
use Rattle.records.specs.declared.state.State.{State}
use Rattle.pass.specs.Marks.{Lent, Label, timestamp, push_label}
use Rattle.pass.specs.Plan.{framing, begin_plan}
use Rattle.calls.specs.Meaning.{Meaning}
use Rattle.calls.specs.Parts.{with_progress, with_pass}
use Rattle.pass_calls.specs.Marked.{label_of, Begins}
use Rattle.pass_calls.specs.declared.begun_render.RenderBegun.{RenderBegun}
use Rattle.pass_calls.specs.declared.begun_render.RenderPlan.{RenderPlan}

-- the timestamp and the label, and then the framebuffer and what follows it; the command that pushes the label has no byte of it
abbrev pub render_commands : RenderBegun → List Command
render_commands b = (timestamp b.plan.query ++ push_label (label_of b.plan.label [] b.size) b.from) ++ framing b.caps b.d

-- the batch holds the plan of a set, few places and few bytes
pub record RenderSound (b : RenderBegun) : Type 0 where
  pub set : Lent
  pub planned : b.plan ≡ begin_plan b.caps b.d b.plan.label set
  pub places : b.d.color_attachment_count ≤ 8
  pub bytes : b.from + b.size < 2 ^ 32
  pub few : length (render_commands b) < 2 ^ 32

-- there is a command i, and the batch is sound
abbrev pub RenderAllowed : RenderBegun → ℕ → Type 0
RenderAllowed b i = (i < length (render_commands b)) × RenderSound b

-- command i of a batch
abbrev pub render_at : RenderBegun → ℕ → Command
render_at b i = get_or (render_commands b) i PopDebugGroup

-- the state that a plan leaves
abbrev pub render_next : RenderPlan → State → State
render_next p s = with_pass p.pass (with_progress p.progress s)

-- a plan is right for a meaning, by its label
abbrev pub RenderOf : ℕ → ℕ → ℕ → State → (Label → Meaning) → Bool → ℕ → RenderPlan → Type 0
RenderOf room bytes len s m has count p =
    Begins room bytes len s m has count p.outcome (render_next p s) p.batch.at p.batch.n (render_at p.batch) p.put p.size
    × ((i : ℕ) → i < p.batch.n → RenderAllowed p.batch i)

-- the answer of a plan
abbrev pub render_answer : RenderPlan → State → Answer
render_answer p s = record { outcome = p.outcome; state = render_next p s }
