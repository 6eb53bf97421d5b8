-- The starting values: document 01, "The state record". Each record's own, then the parts, then the state. Definitions only.
use Rattle.std.specs.Prelude.{false, replicate, pos, None}
use Rattle.names.specs.Start.{start_primitive_state, start_stencil_state}
use Rattle.records.specs.declared.command.Extent3d.{Extent3d}
use Rattle.records.specs.declared.command.VertexAttribKind.TheVariants.{Float}
use Rattle.records.specs.declared.command.TextureInner.TheVariants.{Renderbuffer}
use Rattle.records.specs.declared.command.SampleKind.TheVariants.{Float as float_kind}
use Rattle.records.specs.declared.command.AttributeDesc.{AttributeDesc}
use Rattle.records.specs.declared.command.ColorTargetDesc.{ColorTargetDesc}
use Rattle.records.specs.declared.command.DepthBiasState.{DepthBiasState}
use Rattle.records.specs.declared.command.RangeU32.{RangeU32}
use Rattle.records.specs.declared.command.TextureView.{TextureView}
use Rattle.records.specs.declared.command.ImmediateDesc.{ImmediateDesc}
use Rattle.records.specs.declared.state.Phase.TheVariants.{Closed}
use Rattle.records.specs.declared.state.IndexFormat.TheVariants.{Uint32}
use Rattle.records.specs.declared.state.Progress.{Progress}
use Rattle.records.specs.declared.state.VertexSlot.{VertexSlot}
use Rattle.records.specs.declared.state.VertexState.{VertexState}
use Rattle.records.specs.declared.state.DrawState.{DrawState}
use Rattle.records.specs.declared.state.FixedState.{FixedState}
use Rattle.records.specs.declared.state.TextureSlotDesc.{TextureSlotDesc}
use Rattle.records.specs.declared.state.BindState.{BindState}
use Rattle.records.specs.declared.state.ResolveDesc.{ResolveDesc}
use Rattle.records.specs.declared.state.PassState.{PassState}
use Rattle.records.specs.declared.state.ImmediateState.{ImmediateState}
use Rattle.records.specs.declared.state.State.{State}

-- "Phases": closed, and nothing recorded
abbrev pub start_progress : Progress
start_progress = record { phase = Closed; commands = 0; bytes = 0; queries = 0 }

abbrev pub start_slot : VertexSlot
start_slot = record { stride = 0; raw = 0; offset = 0 }

abbrev pub start_attribute : AttributeDesc
start_attribute =
    record {
      location = 0;
      offset = 0;
      buffer_index = 0;
      format_desc = record { element_count = pos 0; element_format = 0; attrib_kind = Float };
    }

-- no slot is described, none is bound, none is dirty, no attribute is held
abbrev pub start_vertex : VertexState
start_vertex =
    record {
      described = 0;
      bound = 0;
      by_instance = 0;
      dirty_vbuf_mask = 0;
      buffers = replicate 16 start_slot;
      attribute_count = 0;
      instances = replicate 16 0;
      instance_vbuf_mask = 0;
      attributes = replicate 16 start_attribute;
    }

-- "Uint32 for the index format, 0 for topology"
abbrev pub start_draw : DrawState
start_draw = record { topology = 0; index_format = Uint32; index_offset = 0; first_instance_location = None }

-- "15 and no blend for a colour target"
abbrev pub start_target : ColorTargetDesc
start_target = record { mask = 15; blend = None }

abbrev pub start_depth_bias : DepthBiasState
start_depth_bias = record { constant = pos 0; slope_scale = 0; clamp = 0 }

abbrev pub start_fixed : FixedState
start_fixed =
    record {
      primitive = start_primitive_state;
      color_targets = replicate 8 start_target;
      color_target_count = 0;
      stencil = start_stencil_state;
      depth_bias = start_depth_bias;
      alpha_to_coverage_enabled = false;
      clip_distance_count = 0;
    }

abbrev pub start_texture_slot : TextureSlotDesc
start_texture_slot = record { tex_target = 0; sampler_index = 0 }

-- no sampler is set, and no unit takes one
abbrev pub start_bind : BindState
start_bind = record { samplers = replicate 16 0; sampler_set = 0; texture_slots = replicate 16 start_texture_slot; sampled = 0 }

abbrev pub start_range : RangeU32
start_range = record { start = 0; end = 0 }

abbrev pub start_view : TextureView
start_view =
    record {
      inner = Renderbuffer 0;
      aspects = 0;
      mip_levels = start_range;
      array_layers = start_range;
      kind = float_kind;
      is_srgb = false;
    }

abbrev pub start_resolve : ResolveDesc
start_resolve = record { place = 0; dst = start_view }

-- wgpu-types' default of `Extent3d`; WebGPU's GPUExtent3DDict has it for height and depth
abbrev pub start_extent : Extent3d
start_extent = record { width = 1; height = 1; depth_or_array_layers = 1 }

abbrev pub start_pass : PassState
start_pass =
    record {
      render_size = start_extent;
      resolves = replicate 8 start_resolve;
      resolve_count = 0;
      invalidate_attachments = 0;
      has_pass_label = false;
      end_of_pass_timestamp = None;
    }

abbrev pub start_immediate : ImmediateDesc
start_immediate = record { location = 0; ty = 0; offset = 0; size_bytes = 0 }

abbrev pub start_immediates : ImmediateState
start_immediates = record { descs = replicate 192 start_immediate; count = 0; words = replicate 64 0; sent = false }

abbrev pub start_state : State
start_state =
    record {
      progress = start_progress;
      vertex = start_vertex;
      draw = start_draw;
      fixed = start_fixed;
      bind = start_bind;
      pass = start_pass;
      immediates = start_immediates;
    }
