-- A plan of what render and compute pipelines share. Definitions only.
use Rattle.std.specs.Prelude.{ℕ, ◌<◌, ◌≤◌, cond, List, ◌∷◌, length, get_or}
use Rattle.records.specs.declared.command.Command.{Command}
use Rattle.records.specs.declared.command.Command.TheVariants.{PopDebugGroup, SetProgram}
use Rattle.records.specs.declared.state.Answer.{Answer}
use Rattle.records.specs.declared.state.State.{State}
use Rattle.bindings.specs.Units.{sampler_commands}
use Rattle.calls.specs.Meaning.{Meaning}
use Rattle.calls.specs.Parts.{with_progress, with_draw, with_bind, with_immediates}
use Rattle.pipeline_calls.specs.declared.programmed.Programmed.{Programmed}
use Rattle.pipeline_calls.specs.declared.programmed.ProgrammedPlan.{ProgrammedPlan}
use Rattle.calls.specs.Planned.{Right}

-- the program, and a sampler for each unit whose number changes
abbrev pub programmed_commands : Programmed → List Command
programmed_commands b = SetProgram b.program ∷ sampler_commands b.bind b.changed

-- there is a command number i, and there are no more than 33
abbrev pub ProgrammedAllowed : Programmed → ℕ → Type 0
ProgrammedAllowed b i = (i < length (programmed_commands b)) × (length (programmed_commands b) ≤ 33)

abbrev pub programmed_at : Programmed → ℕ → Command
programmed_at b i = get_or (programmed_commands b) i PopDebugGroup

-- the state that a plan leaves
abbrev pub programmed_next : ProgrammedPlan → State → State
programmed_next p s = with_progress p.progress (cond p.ok (with_draw p.draw (with_bind p.batch.bind (with_immediates p.immediates s))) s)

abbrev pub ProgrammedOf : ℕ → State → Meaning → ProgrammedPlan → Type 0
ProgrammedOf room s m p = Right room s m p.outcome (programmed_next p s) p.batch.at p.batch.n (programmed_at p.batch) (ProgrammedAllowed p.batch)

abbrev pub programmed_answer : ProgrammedPlan → State → Answer
programmed_answer p s = record { outcome = p.outcome; state = programmed_next p s }
