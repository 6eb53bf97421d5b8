-- The commands that a batch holds are those of the call's meaning. Assumes nothing.
use Prim.Native.Nat.{ℕ}
use mathlib.Core.List.{List, ◌∷◌, ◌++◌}
use mathlib.Core.Path.{◌≡◌, ap, ◌∙◌}
use lib.ListN.{length}
use Rattle.records.specs.declared.command.Command.{Command}
use Rattle.records.specs.declared.command.Command.TheVariants.{SetProgram}
use Rattle.records.specs.declared.pipeline.PipelineInner.{PipelineInner}
use Rattle.records.specs.declared.pipeline.PrivateCapabilities.{PrivateCapabilities}
use Rattle.records.specs.declared.pipeline.RenderPipeline.{RenderPipeline}
use Rattle.records.specs.declared.state.BindState.{BindState}
use Rattle.records.specs.declared.state.FixedState.{FixedState}
use Rattle.records.specs.declared.state.VertexState.{VertexState}
use Rattle.bindings.specs.Units.{sampler_commands}
use Rattle.pipeline.specs.declared.render.RenderPlan.{RenderPlan}
use Rattle.pipeline.specs.Inner.{inner_bind, inner_commands, changed_units}
use Rattle.pipeline.specs.Vertex.{vertex_commands}
use Rattle.pipeline.specs.Fixed.{fixed_commands}
use Rattle.pipeline.specs.Render.{render_commands, render_plan}

pub inner-same : (p : PipelineInner) (old : BindState) {bind : BindState} {changed : ℕ} → bind ≡ inner_bind p old → changed ≡ changed_units p old
    → SetProgram p.program ∷ sampler_commands bind changed ≡ inner_commands p old
inner-same p old {changed = changed} b u =
    ap (λ (x : BindState). SetProgram p.program ∷ sampler_commands x changed) b ∙ ap (λ (x : ℕ). SetProgram p.program ∷ sampler_commands (inner_bind p old) x) u

pub render-same : (caps : PrivateCapabilities) (p : RenderPipeline) (v : VertexState) (old : BindState) (f : FixedState) {bind : BindState} {plan : RenderPlan}
    → bind ≡ inner_bind p.inner old → plan ≡ render_plan caps p v old f
    → vertex_commands caps p v ++ ((SetProgram p.inner.program ∷ sampler_commands bind plan.changed) ++ fixed_commands p f) ≡ render_commands caps p v old f
render-same caps p v old f b q =
    ap (λ (x : List Command). vertex_commands caps p v ++ (x ++ fixed_commands p f)) (inner-same p.inner old b (ap (λ (x : RenderPlan). x.changed) q))

pub render-many : (caps : PrivateCapabilities) (p : RenderPipeline) (v : VertexState) (old : BindState) (f : FixedState) {plan : RenderPlan} → plan ≡ render_plan caps p v old f
    → plan.count ≡ length (render_commands caps p v old f)
render-many caps p v old f e = ap (λ (x : RenderPlan). x.count) e
