-- A plan of stencil functions. Definitions only.
use Rattle.std.specs.Prelude.{ℕ, ◌<◌, ◌≤◌, length, get_or}
use Rattle.records.specs.declared.command.Command.{Command}
use Rattle.records.specs.declared.command.Command.TheVariants.{PopDebugGroup}
use Rattle.records.specs.declared.state.Answer.{Answer}
use Rattle.records.specs.declared.state.State.{State}
use Rattle.pipeline.specs.Fixed.{stencil_funcs}
use Rattle.calls.specs.Meaning.{Meaning}
use Rattle.calls.specs.Parts.{with_progress, with_fixed}
use Rattle.pipeline_calls.specs.declared.sides.Sides.{Sides}
use Rattle.pipeline_calls.specs.declared.sides.SidesPlan.{SidesPlan}
use Rattle.calls.specs.Planned.{Right}

-- there is a command number i, and there are no more than two
abbrev pub SidesAllowed : Sides → ℕ → Type 0
SidesAllowed b i = (i < length (stencil_funcs b.stencil)) × (length (stencil_funcs b.stencil) ≤ 2)

abbrev pub sides_at : Sides → ℕ → Command
sides_at b i = get_or (stencil_funcs b.stencil) i PopDebugGroup

-- the state that a plan leaves
abbrev pub sides_next : SidesPlan → State → State
sides_next p s = with_fixed p.fixed (with_progress p.progress s)

abbrev pub SidesOf : ℕ → State → Meaning → SidesPlan → Type 0
SidesOf room s m p = Right room s m p.outcome (sides_next p s) p.batch.at p.batch.n (sides_at p.batch) (SidesAllowed p.batch)

abbrev pub sides_answer : SidesPlan → State → Answer
sides_answer p s = record { outcome = p.outcome; state = sides_next p s }
