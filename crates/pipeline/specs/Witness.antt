-- Pipelines worked out, by computation. Assumes nothing.
use Rattle.std.specs.Prelude.{ℕ, ◌≡◌, refl, false, List, [], ◌∷◌, ◌++◌, pos, length, drop, replicate, Option, None, Some}
use Rattle.tables.specs.Tabulate.{tabulate}
use Rattle.mask.specs.Mask.{test_bit, mask_of, places_from}
use Rattle.mask.specs.By.{mask_by}
use Rattle.names.specs.Start.{start_stencil_ops}
use Rattle.names.specs.declared.gl.StencilSide.{StencilSide}
use Rattle.names.specs.declared.wgt.FrontFace.TheVariants.{Ccw}
use Rattle.names.specs.declared.wgt.CullMode.TheVariants as cull
use Rattle.names.specs.declared.wgt.PolygonMode.TheVariants.{Fill}
use Rattle.names.specs.declared.wgt.PrimitiveTopology.TheVariants.{TriangleList}
use Rattle.records.specs.Start.{start_attribute, start_fixed, start_immediate, start_target, start_texture_slot}
use Rattle.records.specs.declared.command.Command.TheVariants.{SetProgram, BindSampler, SetDepthBias, SetStencilFunc, SetStencilOps, ConfigureDepthStencil, SetColorTarget}
use Rattle.names.specs.declared.gl.StencilState.{StencilState}
use Rattle.records.specs.declared.command.ColorTargetDesc.{ColorTargetDesc}
use Rattle.records.specs.declared.command.DepthBiasState.{DepthBiasState}
use Rattle.records.specs.declared.pipeline.PipelineInner.{PipelineInner}
use Rattle.records.specs.declared.pipeline.RenderPipeline.{RenderPipeline}
use Rattle.records.specs.declared.pipeline.SamplerBind.{SamplerBind}
use Rattle.records.specs.declared.state.BindState.{BindState}
use Rattle.records.specs.declared.state.FixedState.{FixedState}
use Rattle.bindings.specs.Units.{sampler_commands}
use Rattle.pipeline.specs.Inner.{no_bind, inner_commands, changed_units}
use Rattle.pipeline.specs.Vertex.{no_layout}
use Rattle.pipeline.specs.Fixed.{fixed_commands, pipeline_fixed, same_targets, all_same, each_target}

-- ---- samplers
abbrev inner_of : List SamplerBind → PipelineInner
inner_of units =
    record {
      program = 1;
      sampler_map = units ++ drop (length units) (replicate 16 no_bind);
      first_instance_location = None;
      immediates_descs = replicate 192 start_immediate;
      immediates_count = 0;
      clip_distance_count = 0;
    }

-- samplers 2 and 3 are set; unit 0 takes number 2, unit 1 number 3
abbrev taking : BindState
taking =
    record {
      samplers = 0 ∷ 0 ∷ 22 ∷ 33 ∷ replicate 12 0;
      sampler_set = 12;
      texture_slots = record { tex_target = 0; sampler_index = 2 } ∷ record { tex_target = 0; sampler_index = 3 } ∷ replicate 14 start_texture_slot;
      sampled = 3;
    }

-- unit 0 keeps its number, unit 1 changes it, unit 2 gets one: the last two are sent
number-sent : inner_commands (inner_of (record { sampler_index = Some 2 } ∷ record { sampler_index = Some 2 } ∷ record { sampler_index = Some 3 } ∷ [])) taking
    ≡ SetProgram 1 ∷ BindSampler 1 (Some 22) ∷ BindSampler 2 (Some 33) ∷ []
unfolding changed_units sampler_commands mask_by tabulate mask_of places_from test_bit
number-sent = refl

-- ---- what is fixed
abbrev fixed_of : DepthBiasState → Option StencilState → List ColorTargetDesc → RenderPipeline
fixed_of bias s targets =
    record {
      inner = inner_of [];
      topology = TriangleList;
      primitive = record { front_face = Ccw; cull_mode = cull.None; unclipped_depth = false; polygon_mode = Fill };
      vertex_buffers = replicate 16 no_layout;
      vertex_buffer_count = 0;
      vertex_attributes = replicate 16 start_attribute;
      vertex_attribute_count = 0;
      color_targets = targets ++ drop (length targets) (replicate 8 start_target);
      color_target_count = length targets;
      depth = None;
      depth_bias = bias;
      stencil = s;
      alpha_to_coverage_enabled = false;
    }

-- a bias, a stencil and two targets that the starting state has not
abbrev biased : ℕ → DepthBiasState
biased n = record { constant = pos n; slope_scale = n; clamp = 0 }

abbrev referring : ℕ → StencilSide
referring n = record { function = 519; mask_read = 255; mask_write = 255; reference = n; ops = start_stencil_ops }

abbrev stencil_of : ℕ → Option StencilState
stencil_of n = Some (record { front = referring n; back = referring n })

abbrev red : ColorTargetDesc
red = record { mask = 1; blend = None }

-- the state after a pipeline with bias 1, reference 1 and one target
abbrev after : FixedState
after = pipeline_fixed (fixed_of (biased 1) (stencil_of 1) (start_target ∷ [])) start_fixed

-- a second bias is sent as the first was
bias-sent : fixed_commands (fixed_of (biased 2) None (start_target ∷ [])) after ≡ SetDepthBias (biased 2) ∷ ConfigureDepthStencil 0 ∷ []
unfolding same_targets
bias-sent = refl

-- the reference is the new pipeline's, in the list and in the state
reference-sent : fixed_commands (fixed_of (biased 1) (stencil_of 2) (start_target ∷ [])) after
    ≡ SetStencilFunc 1032 519 2 255 ∷ SetStencilOps 1032 255 start_stencil_ops ∷ ConfigureDepthStencil 4 ∷ []
unfolding same_targets
reference-sent = refl

reference-kept : (pipeline_fixed (fixed_of (biased 1) (stencil_of 2) (start_target ∷ [])) after).stencil.front.reference ≡ 2
reference-kept = refl

-- differing targets are all set; equal ones once for all
targets-set : fixed_commands (fixed_of (biased 1) None (red ∷ start_target ∷ [])) after
    ≡ ConfigureDepthStencil 0 ∷ SetColorTarget (Some 0) red ∷ SetColorTarget (Some 1) start_target ∷ []
unfolding same_targets all_same each_target
targets-set = refl

targets-once : fixed_commands (fixed_of (biased 1) None (red ∷ red ∷ [])) after ≡ ConfigureDepthStencil 0 ∷ SetColorTarget None red ∷ []
unfolding same_targets all_same
targets-once = refl
