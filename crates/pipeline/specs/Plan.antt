-- The parts of `fixed_commands`, by name, and how many commands each has. Definitions only.
use Rattle.std.specs.Prelude.{ℕ, Bool, cond, not, List, [], ◌++◌, eqb, length}
use Rattle.names.specs.Maps.{primitive_state}
use Rattle.names.specs.declared.gl.PrimitiveState.{PrimitiveState}
use Rattle.names.specs.declared.gl.StencilState.{StencilState}
use Rattle.names.specs.declared.wgt.PrimitiveState.{PrimitiveState as WgtPrimitiveState}
use Rattle.records.specs.Same.{same_bool, same_primitive, same_depth_bias}
use Rattle.records.specs.declared.command.Command.{Command}
use Rattle.records.specs.declared.command.Command.TheVariants.{SetPrimitive, SetDepthBias, SetAlphaToCoverage, SetClipDistances}
use Rattle.records.specs.declared.command.DepthBiasState.{DepthBiasState}
use Rattle.records.specs.declared.pipeline.RenderPipeline.{RenderPipeline}
use Rattle.records.specs.declared.state.FixedState.{FixedState}
use Rattle.pipeline.specs.declared.plan.FixedPlan.{FixedPlan}
use Rattle.pipeline.specs.Fixed.{only, stencil_funcs, stencil_ops, depth_commands, stencil_commands, targets_in, targets_of, same_targets, target_commands, fixed_commands}
use Rattle.pipeline.specs.Targets.{all_alike}

abbrev pub stencil_both : StencilState → List Command
stencil_both s = stencil_funcs s ++ stencil_ops s

abbrev pub primitive_part : WgtPrimitiveState → PrimitiveState → List Command
primitive_part new old = only (not (same_primitive (primitive_state new) old)) (SetPrimitive (primitive_state new))

abbrev pub bias_part : DepthBiasState → DepthBiasState → List Command
bias_part new old = only (not (same_depth_bias new old)) (SetDepthBias new)

abbrev pub alpha_part : Bool → Bool → List Command
alpha_part new old = only (not (same_bool new old)) (SetAlphaToCoverage new)

abbrev pub target_part : RenderPipeline → FixedState → List Command
target_part p f = cond (same_targets (targets_of f) (targets_in p)) [] (target_commands (targets_in p))

abbrev pub clip_part : ℕ → ℕ → List Command
clip_part new old = only (not (eqb new old)) (SetClipDistances old new)

abbrev pub fixed_plan : RenderPipeline → FixedState → FixedPlan
fixed_plan p f =
    record {
      primitive = length (primitive_part p.primitive f.primitive);
      bias = length (bias_part p.depth_bias f.depth_bias);
      depth = length (depth_commands p.depth);
      stencil = length (stencil_commands p.stencil);
      alpha = length (alpha_part p.alpha_to_coverage_enabled f.alpha_to_coverage_enabled);
      targets = length (target_part p f);
      alike = all_alike p;
      clip = length (clip_part p.inner.clip_distance_count f.clip_distance_count);
      count = length (fixed_commands p f);
    }
