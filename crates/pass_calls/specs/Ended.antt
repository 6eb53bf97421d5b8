-- A plan of the end of a pass. Definitions only.
use Rattle.std.specs.Prelude.{ℕ, ◌<◌, ◌^◌, ◌≡◌, Bool, false, cond, List, [], ◌++◌, map, length, get_or, take}
use Rattle.records.specs.Check.{some?, bad_resolve}
use Rattle.records.specs.declared.command.Command.{Command}
use Rattle.records.specs.declared.command.Command.TheVariants.{PopDebugGroup}
use Rattle.records.specs.declared.state.Answer.{Answer}
use Rattle.records.specs.declared.state.FixedState.{FixedState}
use Rattle.records.specs.declared.state.PassState.{PassState}
use Rattle.records.specs.declared.state.Phase.{Phase}
use Rattle.records.specs.declared.state.Phase.TheVariants.{Open}
use Rattle.records.specs.declared.state.State.{State}
use Rattle.records.specs.declared.state.VertexState.{VertexState}
use Rattle.slots.specs.Vertex.{attributes_of}
use Rattle.pipeline.specs.Vertex.{unset_attribute}
use Rattle.pass.specs.Marks.{pop_label, timestamp}
use Rattle.pass.specs.Render.{end_render_commands}
use Rattle.calls.specs.Meaning.{Meaning, in_render, in_compute, list_run, free}
use Rattle.calls.specs.Parts.{with_progress, with_vertex, with_fixed, with_pass}
use Rattle.calls.specs.Planned.{Right}
use Rattle.pass_calls.specs.declared.ended.Ended.{Ended}
use Rattle.pass_calls.specs.declared.ended.EndPlan.{EndPlan}

-- the commands of the end of a render pass, or of a compute pass
abbrev pub end_of : Bool → PassState → VertexState → List Command
end_of render p v = cond render (end_render_commands p (map unset_attribute (attributes_of v))) (pop_label p.has_pass_label ++ timestamp p.end_of_pass_timestamp)

-- what the end of a pass of a kind means that leaves these three parts
abbrev pub ending : State → Bool → VertexState → FixedState → PassState → Meaning
ending s render vertex fixed pass =
    record {
      allowed = λ (phase : Phase). cond render (in_render phase) (in_compute phase);
      asks = free;
      commands = end_of render s.pass s.vertex;
      bytes = [];
      queries = [];
      after = with_vertex vertex (with_fixed fixed (with_pass pass s));
      phase = Open;
      handed = list_run;
    }

-- the commands of a batch
abbrev pub ended_commands : Ended → List Command
ended_commands b = end_of b.render b.pass b.vertex

-- few commands, and no resolve of a place past the eighth
pub record EndSound (b : Ended) : Type 0 where
  pub few : length (ended_commands b) < 2 ^ 32
  pub resolves : some? bad_resolve (take b.pass.resolve_count b.pass.resolves) ≡ false

-- there is a command i, and the batch is sound
abbrev pub EndAllowed : Ended → ℕ → Type 0
EndAllowed b i = (i < length (ended_commands b)) × EndSound b

-- command i of a batch
abbrev pub ended_at : Ended → ℕ → Command
ended_at b i = get_or (ended_commands b) i PopDebugGroup

-- the state that a plan leaves
abbrev pub end_next : EndPlan → State → State
end_next p s = with_vertex p.vertex (with_fixed p.fixed (with_pass p.pass (with_progress p.progress s)))

-- a plan is right for a meaning
abbrev pub EndOf : ℕ → State → Meaning → EndPlan → Type 0
EndOf room s m p = Right room s m p.outcome (end_next p s) p.batch.at p.batch.n (ended_at p.batch) (EndAllowed p.batch)

-- the answer of a plan
abbrev pub end_answer : EndPlan → State → Answer
end_answer p s = record { outcome = p.outcome; state = end_next p s }
