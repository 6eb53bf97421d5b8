-- A plan of the beginning of a compute pass. Definitions only.
use Rattle.std.specs.Prelude.{ℕ, ◌+◌, ◌<◌, ◌^◌, Bool, List, [], ◌++◌, length, get_or}
use Rattle.records.specs.declared.command.Command.{Command}
use Rattle.records.specs.declared.command.Command.TheVariants.{PopDebugGroup}
use Rattle.records.specs.declared.state.Answer.{Answer}
use Rattle.records.specs.declared.state.State.{State}
use Rattle.pass.specs.Marks.{Label, timestamp, push_label}
use Rattle.calls.specs.Meaning.{Meaning}
use Rattle.calls.specs.Parts.{with_progress, with_pass}
use Rattle.pass_calls.specs.Marked.{label_of, Begins}
use Rattle.pass_calls.specs.declared.begun_compute.ComputeBegun.{ComputeBegun}
use Rattle.pass_calls.specs.declared.begun_compute.ComputePlan.{ComputePlan}

-- the timestamp and the label; the command that pushes the label has no byte of it
abbrev pub compute_commands : ComputeBegun → List Command
compute_commands b = timestamp b.query ++ push_label (label_of b.label [] b.size) b.from

-- few bytes
pub record ComputeSound (b : ComputeBegun) : Type 0 where
  pub bytes : b.from + b.size < 2 ^ 32
  pub few : length (compute_commands b) < 2 ^ 32

-- there is a command i, and the batch is sound
abbrev pub ComputeAllowed : ComputeBegun → ℕ → Type 0
ComputeAllowed b i = (i < length (compute_commands b)) × ComputeSound b

-- command i of a batch
abbrev pub compute_at : ComputeBegun → ℕ → Command
compute_at b i = get_or (compute_commands b) i PopDebugGroup

-- the state that a plan leaves
abbrev pub compute_next : ComputePlan → State → State
compute_next p s = with_pass p.pass (with_progress p.progress s)

-- a plan is right for a meaning, by its label
abbrev pub ComputeOf : ℕ → ℕ → ℕ → State → (Label → Meaning) → Bool → ℕ → ComputePlan → Type 0
ComputeOf room bytes len s m has count p =
    Begins room bytes len s m has count p.outcome (compute_next p s) p.batch.at p.batch.n (compute_at p.batch) p.put p.size
    × ((i : ℕ) → i < p.batch.n → ComputeAllowed p.batch i)

-- the answer of a plan
abbrev pub compute_answer : ComputePlan → State → Answer
compute_answer p s = record { outcome = p.outcome; state = compute_next p s }
