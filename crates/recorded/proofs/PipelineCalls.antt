-- What the calls that set pipelines, or a stencil reference, record. Assumes nothing.
use Prim.Native.Nat.{ℕ, suc, ◌+◌, ◌^◌, ◌<◌, ◌≤◌}
use mathlib.Core.Path.{◌≡◌, refl, ap}
use mathlib.Core.Bool.{Bool, true, false, cond, not, ◌&&◌}
use mathlib.Core.List.{List, [], ◌∷◌, ◌++◌, map}
use native.Mathlib.Omega.{arith}
use lib.Dec.{ltb, eqb}
use lib.ListN.{length, length-take}
use borrow.Author.Tests.{ltb-false, lt-leb}
use Rattle.mask.specs.Mask.{places}
use Rattle.mask.specs.By.{by-lt}
use Rattle.names.specs.Gl.{GL_FRONT, GL_BACK, GL_FRONT_AND_BACK}
use Rattle.names.specs.Maps.{primitive_state}
use Rattle.names.specs.declared.gl.StencilState.{StencilState}
use Rattle.records.specs.Check.{some?, bad_attribute}
use Rattle.records.specs.Same.{same_bool, same_primitive, same_depth_bias, same_option_u32, same_stencil_ops, same_stencil_func}
use Rattle.records.specs.declared.command.AttributeDesc.{AttributeDesc}
use Rattle.records.specs.declared.command.ColorTargetDesc.{ColorTargetDesc}
use Rattle.records.specs.declared.command.Command.{Command}
use Rattle.records.specs.declared.command.Command.TheVariants.{SetPrimitive, SetDepthBias, SetAlphaToCoverage, SetColorTarget, BindSampler}
use Rattle.std.specs.Prelude.{Option, None, Some}
use Rattle.records.specs.declared.command.DepthState.{DepthState}
use Rattle.records.specs.declared.pipeline.PipelineInner.{PipelineInner}
use Rattle.records.specs.declared.pipeline.PrivateCapabilities.{PrivateCapabilities}
use Rattle.records.specs.declared.pipeline.RenderPipeline.{RenderPipeline}
use Rattle.records.specs.declared.state.BindState.{BindState}
use Rattle.records.specs.declared.state.FixedState.{FixedState}
use Rattle.records.specs.declared.state.VertexState.{VertexState}
use Rattle.slots.specs.Vertex.{attributes_of}
use Rattle.bindings.specs.Units.{number_at, resolve, sampler_commands}
use Rattle.pipeline.specs.Inner.{map_at, changed_units, inner_bind, inner_commands}
use Rattle.pipeline.specs.Vertex.{attributes_in, set_attribute, unset_attribute, vertex_commands}
use Rattle.pipeline.specs.Fixed.{only, stencil_func, stencil_funcs, stencil_op, stencil_ops, depth_commands, stencil_commands, targets_in, targets_of}
use Rattle.pipeline.specs.Fixed.{same_targets, all_same, each_target, target_commands, fixed_commands}
use Rattle.machine.specs.Each.{Each}
use Rattle.machine.proofs.Lists.{each-not}
use Rattle.lists.specs.declared.limits.Used.{Used}
use Rattle.lists.specs.Limits.{out_of_range}
use Rattle.recorded.proofs.Good.{Good, plain, Plain, joined, chosen}
use Rattle.recorded.proofs.Shapes.{each-mapped, places-below}
use Rattle.recorded.proofs.PassCalls.{unsets}

module _ (w : Type 0) (u : Used) where
  -- ---- units of a mask of sixteen
  pub samplers : (b : BindState) (m : ℕ) → m < 2 ^ 16 → Plain w u (sampler_commands b m)
  unfolding sampler_commands
  samplers b m h =
      each-mapped (λ (i : ℕ). i < 16) (Good w u false) (λ i. BindSampler i (resolve b (number_at b i))) (places m) (λ i l. plain (ap out_of_range (lt-leb 16 i l)) refl) (places-below 16 m h)

  changed-below : (p : PipelineInner) (b : BindState) → changed_units p b < 2 ^ 16
  unfolding changed_units
  changed-below p b = by-lt 16 (λ i. not (same_option_u32 (map_at p i) (number_at b i)))

  pub sets-program : (p : PipelineInner) (b : BindState) → Plain w u (inner_commands p b)
  sets-program p b = (plain refl refl, samplers (inner_bind p b) (changed_units p b) (changed-below p b))

  -- ---- attributes
  of-vertices : (caps : PrivateCapabilities) (p : RenderPipeline) (v : VertexState) → some? bad_attribute (attributes_in p) ≡ false
      → Each (λ (a : AttributeDesc). bad_attribute a ≡ false) (attributes_of v) → Plain w u (vertex_commands caps p v)
  of-vertices caps p v e h =
      chosen w u caps.vertex_buffer_layout (map (set_attribute p) (attributes_in p)) (map unset_attribute (attributes_of v))
      (each-mapped (λ (a : AttributeDesc). bad_attribute a ≡ false) (Good w u false) (set_attribute p) (attributes_in p) (λ a q. plain (ap out_of_range q) refl) (each-not bad_attribute (attributes_in p) e))
      (unsets w u (attributes_of v) h)

  -- ---- the fixed part
  of-only : (t : Bool) (c : Command) → Good w u false c → Plain w u (only t c)
  of-only true c g = (g, tt)
  of-only false c g = tt

  pub stencils : (s : StencilState) → Plain w u (stencil_funcs s)
  stencils s =
      chosen w u (same_stencil_func s.front s.back) (stencil_func GL_FRONT_AND_BACK s.front ∷ []) (stencil_func GL_FRONT s.front ∷ stencil_func GL_BACK s.back ∷ [])
      (plain refl refl, tt) (plain refl refl, (plain refl refl, tt))

  of-ops : (s : StencilState) → Plain w u (stencil_ops s)
  of-ops s =
      chosen w u (same_stencil_ops s.front.ops s.back.ops && eqb s.front.mask_write s.back.mask_write) (stencil_op GL_FRONT_AND_BACK s.front ∷ [])
      (stencil_op GL_FRONT s.front ∷ stencil_op GL_BACK s.back ∷ []) (plain refl refl, tt) (plain refl refl, (plain refl refl, tt))

  of-depth : (o : Option DepthState) → Plain w u (depth_commands o)
  of-depth None = tt
  of-depth (Some d) = (plain refl refl, tt)

  of-stencil : (o : Option StencilState) → Plain w u (stencil_commands o)
  of-stencil None = tt
  of-stencil (Some s) = joined w u (stencil_funcs s) (stencil_ops s) (stencils s) (of-ops s)

  of-each : (i : ℕ) (xs : List ColorTargetDesc) → i + length xs ≤ 8 → Plain w u (each_target i xs)
  unfolding each_target
  of-each i [] h = tt
  of-each i (x ∷ xs) h = (plain (ap out_of_range (lt-leb 8 i (omega arith))) refl, of-each (suc i) xs (omega arith))

  of-targets : (xs : List ColorTargetDesc) → length xs ≤ 8 → Plain w u (target_commands xs)
  of-targets [] h = (plain refl refl, tt)
  of-targets (x ∷ xs) h = chosen w u (all_same x xs) (SetColorTarget None x ∷ []) (each_target 0 (x ∷ xs)) (plain refl refl, tt) (of-each 0 (x ∷ xs) (omega arith))

  of-fixed : (p : RenderPipeline) (f : FixedState) → ltb 8 p.color_target_count ≡ false → Plain w u (fixed_commands p f)
  of-fixed p f few =
      joined w u (only primitive (SetPrimitive (primitive_state p.primitive))) _ (of-only primitive _ (plain refl refl))
      (joined w u (only bias (SetDepthBias p.depth_bias)) _ (of-only bias _ (plain refl refl))
      (joined w u (depth_commands p.depth) _ (of-depth p.depth)
      (joined w u (stencil_commands p.stencil) _ (of-stencil p.stencil) (
        plain refl refl,
        joined w u (only coverage (SetAlphaToCoverage p.alpha_to_coverage_enabled)) _ (of-only coverage _ (plain refl refl))
            (joined w u targets _ (chosen w u (same_targets (targets_of f) (targets_in p)) [] (target_commands (targets_in p)) tt (of-targets (targets_in p) eight))
            (of-only clips _ (plain refl refl))),
      ))))
    where
      primitive : Bool
      primitive = not (same_primitive (primitive_state p.primitive) f.primitive)

      bias : Bool
      bias = not (same_depth_bias p.depth_bias f.depth_bias)

      coverage : Bool
      coverage = not (same_bool p.alpha_to_coverage_enabled f.alpha_to_coverage_enabled)

      clips : Bool
      clips = not (eqb p.inner.clip_distance_count f.clip_distance_count)

      targets : List Command
      targets = cond (same_targets (targets_of f) (targets_in p)) [] (target_commands (targets_in p))

      eight : length (targets_in p) ≤ 8
      eight = omega (arith, ltb-false 8 p.color_target_count few, length-take p.color_target_count p.color_targets)

  pub sets-pipeline : (caps : PrivateCapabilities) (p : RenderPipeline) (v : VertexState) (b : BindState) (f : FixedState) → ltb 8 p.color_target_count ≡ false
      → some? bad_attribute (attributes_in p) ≡ false → Each (λ (a : AttributeDesc). bad_attribute a ≡ false) (attributes_of v)
      → Plain w u (vertex_commands caps p v ++ (inner_commands p.inner b ++ fixed_commands p f))
  sets-pipeline caps p v b f few e h =
      joined w u (vertex_commands caps p v) (inner_commands p.inner b ++ fixed_commands p f) (of-vertices caps p v e h)
      (joined w u (inner_commands p.inner b) (fixed_commands p f) (sets-program p.inner b) (of-fixed p f few))
