-- A plan of a render pipeline. Definitions only.
use Rattle.std.specs.Prelude.{ℕ, ◌<◌, ◌≤◌, ◌≡◌, cond, List, ◌∷◌, ◌++◌, length, get_or}
use Rattle.names.specs.Maps.{primitive_topology}
use Rattle.records.specs.declared.command.Command.{Command}
use Rattle.records.specs.declared.command.Command.TheVariants.{PopDebugGroup, SetProgram}
use Rattle.records.specs.declared.state.Answer.{Answer}
use Rattle.records.specs.declared.state.BindState.{BindState}
use Rattle.records.specs.declared.state.State.{State}
use Rattle.bindings.specs.Units.{sampler_commands}
use Rattle.pipeline.specs.Inner.{inner_bind, inner_immediates}
use Rattle.pipeline.specs.Vertex.{vertex_commands, pipeline_vertex}
use Rattle.pipeline.specs.Fixed.{fixed_commands, pipeline_fixed}
use Rattle.pipeline.specs.Render.{render_plan}
use Rattle.calls.specs.Meaning.{Meaning}
use Rattle.calls.specs.Parts.{with_progress, with_vertex, with_draw, with_fixed, with_bind, with_immediates, with_location, with_topology}
use Rattle.pipeline_calls.specs.declared.piped.Piped.{Piped}
use Rattle.pipeline_calls.specs.declared.piped.PipedPlan.{PipedPlan}
use Rattle.calls.specs.Planned.{Right}

-- the vertex part, what both kinds of pipeline share, the fixed part
abbrev pub piped_commands : Piped → List Command
piped_commands b =
    vertex_commands b.caps b.pipeline b.vertex
    ++ ((SetProgram b.pipeline.inner.program ∷ sampler_commands b.bind b.plan.changed) ++ fixed_commands b.pipeline b.fixed)

-- the batch holds what `inner_bind` and `render_plan` gave of the bindings before the call
pub record Sound (b : Piped) : Type 0 where
  pub old : BindState
  pub bind : b.bind ≡ inner_bind b.pipeline.inner old
  pub plan : b.plan ≡ render_plan b.caps b.pipeline b.vertex old b.fixed

-- there is a command number i, and there are no more than 67
abbrev pub PipedAllowed : Piped → ℕ → Type 0
PipedAllowed b i = (i < length (piped_commands b)) × (length (piped_commands b) ≤ 67) × Sound b

abbrev pub piped_at : Piped → ℕ → Command
piped_at b i = get_or (piped_commands b) i PopDebugGroup

-- what a batch makes of the state, the progress aside
abbrev pub piped_after : Piped → State → State
piped_after b s =
    with_vertex (pipeline_vertex b.caps b.pipeline s.vertex)
    (with_draw (with_topology (primitive_topology b.pipeline.topology) (with_location b.pipeline.inner.first_instance_location s.draw))
    (with_fixed (pipeline_fixed b.pipeline s.fixed) (with_bind b.bind (with_immediates (inner_immediates b.pipeline.inner s.immediates) s))))

-- the state that a plan leaves
abbrev pub piped_next : PipedPlan → State → State
piped_next p s = with_progress p.progress (cond p.ok (piped_after p.batch s) s)

abbrev pub PipedOf : ℕ → State → Meaning → PipedPlan → Type 0
PipedOf room s m p = Right room s m p.outcome (piped_next p s) p.batch.at p.batch.n (piped_at p.batch) (PipedAllowed p.batch)

abbrev pub piped_answer : PipedPlan → State → Answer
piped_answer p s = record { outcome = p.outcome; state = piped_next p s }
