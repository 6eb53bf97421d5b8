-- The book worked out on single calls, each beside the sentence that it shows. Assumes nothing.
use Prim.Native.Nat.{ℕ}
use mathlib.Core.Path.{◌≡◌, refl, ap, ap₂}
use mathlib.Core.Bool.{true, false}
use mathlib.Core.List.{[], ◌∷◌}
use Rattle.std.specs.Prelude.{Option, None, Some}
use lib.Ieee.{binary32, of_bits}
use lib.IntN.{pos}
use lib.ListN.{replicate}
use Rattle.tables.specs.Tabulate.{tabulate}
use Rattle.numbers.specs.Convert.{twos}
use Rattle.records.specs.declared.binding.BindGroupLayoutEntry.{BindGroupLayoutEntry}
use Rattle.records.specs.declared.binding.BindingType.TheVariants as type
use Rattle.records.specs.declared.binding.BufferBindingType.TheVariants.{Uniform}
use Rattle.records.specs.declared.binding.Content.{Content}
use Rattle.records.specs.declared.binding.RawBinding.TheVariants as content
use Rattle.records.specs.declared.command.Command.TheVariants.{PopDebugGroup}
use Rattle.records.specs.declared.command.VertexStepMode.{VertexStepMode}
use Rattle.records.specs.declared.command.VertexStepMode.TheVariants.{Vertex, Instance}
use Rattle.records.specs.declared.pass.RenderPassDescriptor.{RenderPassDescriptor}
use Rattle.records.specs.declared.pipeline.PrivateCapabilities.{PrivateCapabilities}
use Rattle.records.specs.declared.pipeline.RenderPipeline.{RenderPipeline}
use Rattle.records.specs.declared.state.IndexFormat.TheVariants.{Uint16}
use Rattle.pass.specs.Marks.{Lent, Label}
use Rattle.calls.specs.Call.{begin_render_pass, set_render_pipeline, set_index_buffer}
use Rattle.machine.specs.View.{Source, BufferRange}
use Rattle.book.specs.Book.{empty, enter, enter_group, named_source, names, reference_of, with_bound, with_pipeline}

-- "first byte: attribute offset plus buffer offset plus, if stepped by instance, working instance times stride"
abbrev source : VertexStepMode → ℕ → Option Source
source step first = Some (record { buffer = 7; stride = 8; step = step; first = first })

instance-added : named_source 5 4 (Some (record { step = Instance; stride = 8 })) (Some (record { raw = 7; offset = 16 })) ≡ source Instance 60
instance-added = refl

vertex-not : named_source 5 4 (Some (record { step = Vertex; stride = 8 })) (Some (record { raw = 7; offset = 16 })) ≡ source Vertex 20
vertex-not = refl

-- "buffer per target and slot (dynamic offset added)": the second entry takes the only dynamic offset
abbrev uniform : ℕ → ℕ → BindGroupLayoutEntry
uniform binding slot = record { binding = binding; ty = type.Buffer Uniform false; slot = slot }

abbrev dynamic : ℕ → ℕ → BindGroupLayoutEntry
dynamic binding slot = record { binding = binding; ty = type.Buffer Uniform true; slot = slot }

abbrev buffer : ℕ → Content
buffer raw = record { binding = content.Buffer raw (pos 100) (pos 64) }

abbrev range : ℕ → ℕ → Option BufferRange
range raw offset = Some (record { buffer = raw; offset = pos offset; size = pos 64 })

dynamic-added : tabulate 3 ((enter_group (uniform 0 0 ∷ dynamic 1 2 ∷ []) (buffer 7 ∷ buffer 9 ∷ []) (32 ∷ []) empty.bound).buffers 35345) ≡ range 7 100 ∷ None ∷ range 9 132 ∷ []
unfolding tabulate enter_group
dynamic-added = refl

-- "A render pipeline call sets the pipeline, and sets the reference to that of its stencil, or to none"
reference-gone : (caps : PrivateCapabilities) (p : RenderPipeline) → p.stencil ≡ None
    → (enter caps (with_pipeline None (Some (record { front = 1; back = 2 })) empty) (set_render_pipeline p)).reference ≡ None
reference-gone caps p e = ap reference_of e

-- "index buffer (offset, format) .. become the call's"
index-set : (caps : PrivateCapabilities) → ((enter caps empty (set_index_buffer 7 12 Uint16)).index ≡ Some 7) × ((enter caps empty (set_index_buffer 7 12 Uint16)).offset ≡ 12)
index-set caps = (refl, refl)

-- "per unit the sampler its number in the pipeline names or none": without a pipeline no unit has one, whatever is bound
no_number : (names (with_bound (record { buffers = λ t i. None; textures = λ i. None; images = λ i. None; samplers = λ k. Some 9 }) empty) 0 false PopDebugGroup).samplers ≡ replicate 16 None
unfolding tabulate
no_number = refl

-- "A render pass sets scissor and viewport to its extent, depth 0 to 1"
extent-set : (caps : PrivateCapabilities) (d : RenderPassDescriptor) (label : Label) (set : Lent) → d.extent.width ≡ 4 → d.extent.height ≡ 3
    → (enter caps empty (begin_render_pass d label set)).viewport
    ≡ Some (record { rect = record { x = pos 0; y = pos 0; w = pos 4; h = pos 3 }; depth = record { start = of_bits binary32 0; end = of_bits binary32 0x3f80_0000 } })
extent-set caps d label set e h =
    ap₂
    (λ (w k : ℕ).
    Some (record { rect = record { x = pos 0; y = pos 0; w = twos 32 w; h = twos 32 k }; depth = record { start = of_bits binary32 0; end = of_bits binary32 0x3f80_0000 } }))
    e h
