-- The fixed part of `set_render_pipeline`: primitive, depth bias, depth, stencil, alpha to coverage, targets, clip distances. Definitions only.
use Rattle.std.specs.Prelude.{ℕ, suc, ◌+◌, Bool, true, false, cond, not, ◌&&◌, List, [], ◌∷◌, ◌++◌, ltb, eqb, take, Option, None, Some}
use Rattle.names.specs.Gl.{GL_FRONT, GL_BACK, GL_FRONT_AND_BACK}
use Rattle.names.specs.Maps.{primitive_state}
use Rattle.names.specs.declared.gl.StencilSide.{StencilSide}
use Rattle.names.specs.declared.gl.StencilState.{StencilState}
use Rattle.records.specs.Start.{start_target}
use Rattle.records.specs.Same.{same_bool, same_primitive, same_depth_bias, same_color_target, same_stencil_ops, same_stencil_func}
use Rattle.records.specs.declared.command.Command.{Command}
use Rattle.records.specs.declared.command.Command.TheVariants.{SetPrimitive, SetDepthBias, SetDepth, SetStencilFunc, SetStencilOps, ConfigureDepthStencil, SetAlphaToCoverage, SetColorTarget, SetClipDistances}
use Rattle.records.specs.declared.command.DepthState.{DepthState}
use Rattle.records.specs.declared.command.ColorTargetDesc.{ColorTargetDesc}
use Rattle.records.specs.declared.pipeline.RenderPipeline.{RenderPipeline}
use Rattle.records.specs.declared.state.FixedState.{FixedState}

-- a command that is recorded only where the test says so
abbrev pub only : Bool → Command → List Command
only true c = c ∷ []
only false c = []

-- ---- stencil: one command where both faces agree, else one each
abbrev pub stencil_func : ℕ → StencilSide → Command
stencil_func face s = SetStencilFunc face s.function s.reference s.mask_read

abbrev pub stencil_funcs : StencilState → List Command
stencil_funcs s =
    cond (same_stencil_func s.front s.back) (stencil_func GL_FRONT_AND_BACK s.front ∷ []) (stencil_func GL_FRONT s.front ∷ stencil_func GL_BACK s.back ∷ [])

abbrev pub stencil_op : ℕ → StencilSide → Command
stencil_op face s = SetStencilOps face s.mask_write s.ops

abbrev pub stencil_ops : StencilState → List Command
stencil_ops s =
    cond (same_stencil_ops s.front.ops s.back.ops && eqb s.front.mask_write s.back.mask_write) (stencil_op GL_FRONT_AND_BACK s.front ∷ [])
    (stencil_op GL_FRONT s.front ∷ stencil_op GL_BACK s.back ∷ [])

abbrev pub depth_commands : Option DepthState → List Command
depth_commands None = []
depth_commands (Some d) = SetDepth d ∷ []

abbrev pub stencil_commands : Option StencilState → List Command
stencil_commands None = []
stencil_commands (Some s) = stencil_funcs s ++ stencil_ops s

-- the aspects: depth 2, stencil 4
abbrev pub depth_aspect : Option DepthState → ℕ
depth_aspect None = 0
depth_aspect (Some d) = 2

abbrev pub stencil_aspect : Option StencilState → ℕ
stencil_aspect None = 0
stencil_aspect (Some s) = 4

abbrev pub aspects_of : RenderPipeline → ℕ
aspects_of p = depth_aspect p.depth + stencil_aspect p.stencil

-- "The stencil of the pipeline, reference included, replaces the state's"
abbrev pub stencil_or : StencilState → Option StencilState → StencilState
stencil_or old None = old
stencil_or old (Some s) = s

-- ---- colour targets
abbrev pub targets_in : RenderPipeline → List ColorTargetDesc
targets_in p = take p.color_target_count p.color_targets

abbrev pub targets_of : FixedState → List ColorTargetDesc
targets_of f = take f.color_target_count f.color_targets

unfoldable pub same_targets : List ColorTargetDesc → List ColorTargetDesc → Bool
same_targets [] [] = true
same_targets [] (y ∷ ys) = false
same_targets (x ∷ xs) [] = false
same_targets (x ∷ xs) (y ∷ ys) = same_color_target x y && same_targets xs ys

-- every target is the same as t
unfoldable pub all_same : ColorTargetDesc → List ColorTargetDesc → Bool
all_same t [] = true
all_same t (x ∷ xs) = same_color_target x t && all_same t xs

-- one by one, from place i on
unfoldable pub each_target : ℕ → List ColorTargetDesc → List Command
each_target i [] = []
each_target i (x ∷ xs) = SetColorTarget (Some i) x ∷ each_target (suc i) xs

-- "Differing targets are set one by one, equal ones once for all, an empty list once with the default"
abbrev pub target_commands : List ColorTargetDesc → List Command
target_commands [] = SetColorTarget None start_target ∷ []
target_commands (x ∷ xs) = cond (all_same x xs) (SetColorTarget None x ∷ []) (each_target 0 (x ∷ xs))

-- ---- the whole part
abbrev pub fixed_commands : RenderPipeline → FixedState → List Command
fixed_commands p f =
    only (not (same_primitive (primitive_state p.primitive) f.primitive)) (SetPrimitive (primitive_state p.primitive))
    ++ (only (not (same_depth_bias p.depth_bias f.depth_bias)) (SetDepthBias p.depth_bias)
    ++ (depth_commands p.depth
    ++ (stencil_commands p.stencil
    ++ (ConfigureDepthStencil (aspects_of p)
    ∷ (only (not (same_bool p.alpha_to_coverage_enabled f.alpha_to_coverage_enabled)) (SetAlphaToCoverage p.alpha_to_coverage_enabled)
    ++ (cond (same_targets (targets_of f) (targets_in p)) [] (target_commands (targets_in p))
    ++ only (not (eqb p.inner.clip_distance_count f.clip_distance_count)) (SetClipDistances f.clip_distance_count p.inner.clip_distance_count)))))))

abbrev pub pipeline_fixed : RenderPipeline → FixedState → FixedState
pipeline_fixed p f =
    record {
      primitive = primitive_state p.primitive;
      color_targets = p.color_targets;
      color_target_count = p.color_target_count;
      stencil = stencil_or f.stencil p.stencil;
      depth_bias = p.depth_bias;
      alpha_to_coverage_enabled = p.alpha_to_coverage_enabled;
      clip_distance_count = p.inner.clip_distance_count;
    }

-- 2: more than 8 targets
abbrev pub fixed_too_many : RenderPipeline → Bool
fixed_too_many p = ltb 8 p.color_target_count
