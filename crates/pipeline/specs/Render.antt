-- The commands of `set_render_pipeline`, as `set_render_pipeline_meaning` puts them together, and how many there are. Definitions only.
use Rattle.std.specs.Prelude.{List, ◌++◌, length}
use Rattle.records.specs.declared.command.Command.{Command}
use Rattle.records.specs.declared.pipeline.PrivateCapabilities.{PrivateCapabilities}
use Rattle.records.specs.declared.pipeline.RenderPipeline.{RenderPipeline}
use Rattle.records.specs.declared.state.BindState.{BindState}
use Rattle.records.specs.declared.state.FixedState.{FixedState}
use Rattle.records.specs.declared.state.VertexState.{VertexState}
use Rattle.pipeline.specs.declared.render.RenderPlan.{RenderPlan}
use Rattle.pipeline.specs.Inner.{changed_units, inner_commands}
use Rattle.pipeline.specs.Vertex.{vertex_commands}
use Rattle.pipeline.specs.Fixed.{fixed_commands}
use Rattle.pipeline.specs.Plan.{fixed_plan}

abbrev pub render_commands : PrivateCapabilities → RenderPipeline → VertexState → BindState → FixedState → List Command
render_commands caps p v b f = vertex_commands caps p v ++ (inner_commands p.inner b ++ fixed_commands p f)

abbrev pub render_plan : PrivateCapabilities → RenderPipeline → VertexState → BindState → FixedState → RenderPlan
render_plan caps p v b f =
    record {
      vertex = length (vertex_commands caps p v);
      changed = changed_units p.inner b;
      inner = length (inner_commands p.inner b);
      fixed = fixed_plan p f;
      count = length (render_commands caps p v b f);
    }
