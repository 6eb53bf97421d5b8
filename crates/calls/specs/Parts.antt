-- The state with one part changed, and what some calls make of a part. Definitions only.
use Rattle.std.specs.Prelude.{ℕ, replicate, Option}
use Rattle.names.specs.Start.{start_primitive_state}
use Rattle.names.specs.declared.gl.StencilState.{StencilState}
use Rattle.records.specs.declared.pipeline.PrivateCapabilities.{PrivateCapabilities}
use Rattle.records.specs.declared.state.Progress.{Progress}
use Rattle.records.specs.declared.state.VertexState.{VertexState}
use Rattle.records.specs.declared.state.DrawState.{DrawState}
use Rattle.records.specs.declared.state.FixedState.{FixedState}
use Rattle.records.specs.declared.state.BindState.{BindState}
use Rattle.records.specs.declared.state.PassState.{PassState}
use Rattle.records.specs.declared.state.ImmediateState.{ImmediateState}
use Rattle.records.specs.declared.state.State.{State}
use Rattle.slots.specs.Prepare.{prepared_state}
use Rattle.calls.specs.Draws.{DrawArgs}

-- ---- the state with one part changed
abbrev pub with_progress : Progress → State → State
with_progress p s = record { progress = p; vertex = s.vertex; draw = s.draw; fixed = s.fixed; bind = s.bind; pass = s.pass; immediates = s.immediates }

abbrev pub with_vertex : VertexState → State → State
with_vertex v s = record { progress = s.progress; vertex = v; draw = s.draw; fixed = s.fixed; bind = s.bind; pass = s.pass; immediates = s.immediates }

abbrev pub with_draw : DrawState → State → State
with_draw d s = record { progress = s.progress; vertex = s.vertex; draw = d; fixed = s.fixed; bind = s.bind; pass = s.pass; immediates = s.immediates }

abbrev pub with_fixed : FixedState → State → State
with_fixed f s = record { progress = s.progress; vertex = s.vertex; draw = s.draw; fixed = f; bind = s.bind; pass = s.pass; immediates = s.immediates }

abbrev pub with_bind : BindState → State → State
with_bind b s = record { progress = s.progress; vertex = s.vertex; draw = s.draw; fixed = s.fixed; bind = b; pass = s.pass; immediates = s.immediates }

abbrev pub with_pass : PassState → State → State
with_pass p s = record { progress = s.progress; vertex = s.vertex; draw = s.draw; fixed = s.fixed; bind = s.bind; pass = p; immediates = s.immediates }

abbrev pub with_immediates : ImmediateState → State → State
with_immediates i s = record { progress = s.progress; vertex = s.vertex; draw = s.draw; fixed = s.fixed; bind = s.bind; pass = s.pass; immediates = i }

-- ---- small parts of effects
abbrev pub with_location : Option ℕ → DrawState → DrawState
with_location l d = record { topology = d.topology; index_format = d.index_format; index_offset = d.index_offset; first_instance_location = l }

abbrev pub with_topology : ℕ → DrawState → DrawState
with_topology t d = record { topology = t; index_format = d.index_format; index_offset = d.index_offset; first_instance_location = d.first_instance_location }

abbrev pub with_stencil : StencilState → FixedState → FixedState
with_stencil st f =
    record {
      primitive = f.primitive;
      color_targets = f.color_targets;
      color_target_count = f.color_target_count;
      stencil = st;
      depth_bias = f.depth_bias;
      alpha_to_coverage_enabled = f.alpha_to_coverage_enabled;
      clip_distance_count = f.clip_distance_count;
    }

-- "`end_render_pass` empties colour targets, both slot masks, primitive, first instance and attribute list, and leaves descriptions and bindings of slots"
-- document 02, request 5: "a pass end sets all sixteen back to 0"
abbrev pub end_vertex : VertexState → VertexState
end_vertex v =
    record {
      described = v.described;
      bound = v.bound;
      by_instance = v.by_instance;
      dirty_vbuf_mask = 0;
      buffers = v.buffers;
      attribute_count = 0;
      instances = replicate 16 0;
      instance_vbuf_mask = 0;
      attributes = v.attributes;
    }

abbrev pub end_fixed : FixedState → FixedState
end_fixed f =
    record {
      primitive = start_primitive_state;
      color_targets = f.color_targets;
      color_target_count = 0;
      stencil = f.stencil;
      depth_bias = f.depth_bias;
      alpha_to_coverage_enabled = f.alpha_to_coverage_enabled;
      clip_distance_count = f.clip_distance_count;
    }

abbrev pub draw_args : DrawState → DrawArgs
draw_args d = record { topology = d.topology; location = d.first_instance_location; format = d.index_format; offset = d.index_offset }

abbrev pub drawn : PrivateCapabilities → ℕ → State → State
drawn caps w s = with_vertex (prepared_state caps s.vertex w) s
