-- One worked list on three boards, by computation: each entry of a draw's view is seen with a value that is not its start. Its premises are proved, so the order theorem speaks of it. Assumes nothing.
use Rattle.std.specs.Prelude.{ℕ, ◌≡◌, refl, Bool, true, false, List, [], ◌∷◌, map, Float, pos, take, Option, None, Some}
use Rattle.std.proofs.Common.{sym, ap, ◌∙◌, subst, arith}
use Rattle.std.specs.Float.{binary32}
use Rattle.std.specs.Float.Ieee.{of_bits}
use Rattle.mask.specs.Mask.{test_bit, bit_at, set_bit, without, mask_of, places_from}
use Rattle.mask.specs.By.{mask_by}
use Rattle.tables.specs.Tabulate.{tabulate}
use Rattle.numbers.specs.Convert.{clamp_to}
use Rattle.names.specs.declared.gl.PrimitiveState.{PrimitiveState}
use Rattle.names.specs.declared.gl.StencilOps.{StencilOps}
use Rattle.names.specs.declared.gl.StencilSide.{StencilSide}
use Rattle.names.specs.declared.wgt.CullMode.TheVariants as cull
use Rattle.names.specs.declared.wgt.FrontFace.TheVariants.{Cw}
use Rattle.names.specs.declared.wgt.PolygonMode.TheVariants.{Fill}
use Rattle.names.specs.declared.wgt.PrimitiveTopology.TheVariants.{TriangleStrip}
use Rattle.records.specs.Start.{start_state, start_attribute, start_range}
use Rattle.records.specs.Outcome.{smallest}
use Rattle.records.specs.Check.{some?, bad_units, among, twice}
use Rattle.records.specs.declared.binding.BindingType.TheVariants as type
use Rattle.records.specs.declared.binding.BufferBindingType.TheVariants.{Uniform, Storage}
use Rattle.records.specs.declared.binding.RawBinding.TheVariants as content
use Rattle.records.specs.declared.command.ColorF32.{ColorF32}
use Rattle.records.specs.declared.command.ColorTargetDesc.{ColorTargetDesc}
use Rattle.records.specs.declared.command.Command.{Command}
use Rattle.records.specs.declared.command.Command.TheVariants.{Draw, DrawIndexed, DrawIndexedIndirect}
use Rattle.records.specs.declared.command.DepthBiasState.{DepthBiasState}
use Rattle.records.specs.declared.command.DepthRange.{DepthRange}
use Rattle.records.specs.declared.command.DepthState.{DepthState}
use Rattle.records.specs.declared.command.ImageBinding.{ImageBinding}
use Rattle.records.specs.declared.command.RectI32.{RectI32}
use Rattle.records.specs.declared.command.VertexStepMode.TheVariants.{Vertex, Instance}
use Rattle.records.specs.declared.pipeline.PipelineInner.{PipelineInner}
use Rattle.records.specs.declared.pipeline.PrivateCapabilities.{PrivateCapabilities}
use Rattle.records.specs.declared.pipeline.RenderPipeline.{RenderPipeline}
use Rattle.records.specs.declared.pipeline.SamplerBind.{SamplerBind}
use Rattle.records.specs.declared.state.IndexFormat.TheVariants.{Uint16}
use Rattle.slots.specs.Prepare.{buffer_commands, attribute_commands, sent_of}
use Rattle.bindings.specs.Group.{zipped, group_commands, group_state, textures_named, samplers_named, offsets_used, group_over}
use Rattle.bindings.specs.Units.{sampler_commands}
use Rattle.pipeline.specs.Inner.{no_bind, changed_units}
use Rattle.pipeline.specs.Vertex.{no_layout}
use Rattle.pipeline.specs.Fixed.{same_targets, all_same, each_target}
use Rattle.pass.specs.Render.{begin_render_commands, attach_colors, resolves_from, invalidations, clear_colors}
use Rattle.calls.specs.Call.{Call, begin_encoding, end_render_pass, end_compute_pass, set_render_pipeline, set_compute_pipeline, set_index_buffer, set_vertex_buffer, set_viewport, set_scissor_rect, set_stencil_reference, set_blend_constants, draw, draw_indexed, draw_indirect, draw_indexed_indirect, dispatch_workgroups}
use Rattle.calls.specs.Draws.{indirect_commands, indexed_indirect_commands}
use Rattle.calls.specs.Step.{outcome_of}
use Rattle.machine.proofs.Lists.{false-true}
use Rattle.machine.specs.View.{Fetch, BufferRange, TextureBinding, Viewport, StencilFunc, Stencil, View}
use Rattle.book.specs.Book.{Fed, empty, enter_group, book_of}
use Rattle.cases.specs.Worked.{ready-2, ◌⨾◌}
use Rattle.book.specs.Run.{carried, record_calls, fed, Premises, begun}
use Rattle.book.specs.FirstPass.{found, shots, entries, named}
use Rattle.order.proofs.Theorem.{order}
use Rattle.cases.specs.Samples.{emulated, full, bare, rooms, padded, entry, bind_group, by_vertex, by_instance, floats, attribute, takes, inner_of, rect, bare_pass}
use Rattle.cases.specs.EdgeSamples.{compute, image}

-- ---- the pipelines
abbrev float : ℕ → Float
float bits = of_bits binary32 bits

abbrev operations : StencilOps
operations = record { pass = 7681; fail = 7680; depth_fail = 5386 }

abbrev side : ℕ → ℕ → StencilSide
side function reference = record { function = function; mask_read = 15; mask_write = 240; reference = reference; ops = operations }

abbrev target : ℕ → ColorTargetDesc
target mask = record { mask = mask; blend = None }

abbrev bias : DepthBiasState
bias = record { constant = pos 2; slope_scale = 0x3f80_0000; clamp = 0 }

abbrev inner : ℕ → List SamplerBind → ℕ → PipelineInner
inner program units clips =
    record {
      program = program;
      sampler_map = padded 16 no_bind units;
      first_instance_location = Some 7;
      immediates_descs = (inner_of 0 [] []).immediates_descs;
      immediates_count = 0;
      clip_distance_count = clips;
    }

-- slot 0 by vertex and slot 1 by instance, two targets that differ, depth, bias, both faces of the stencil, alpha to coverage
abbrev pipeline_by : PipelineInner → RenderPipeline
pipeline_by i =
    record {
      inner = i;
      topology = TriangleStrip;
      primitive = record { front_face = Cw; cull_mode = cull.Back; unclipped_depth = true; polygon_mode = Fill };
      vertex_buffers = padded 16 no_layout (by_vertex 12 ∷ by_instance 8 ∷ []);
      vertex_buffer_count = 2;
      vertex_attributes = padded 16 start_attribute (attribute 0 0 0 ∷ attribute 3 4 1 ∷ []);
      vertex_attribute_count = 2;
      color_targets = padded 8 (target 15) (target 7 ∷ target 3 ∷ []);
      color_target_count = 2;
      depth = Some (record { function = 513; mask = true });
      depth_bias = bias;
      stencil = Some (record { front = side 514 4; back = side 515 5 });
      alpha_to_coverage_enabled = true;
    }

-- three clip distances, and unit 2 takes sampler 5; then one clip distance, and unit 1 does
abbrev one : RenderPipeline
one = pipeline_by (inner 1 (no_bind ∷ no_bind ∷ takes 5 ∷ []) 3)

abbrev two : RenderPipeline
two = pipeline_by (inner 2 (no_bind ∷ takes 5 ∷ []) 1)

-- ---- the calls
abbrev group : Call
group =
    bind_group
    (entry 0 (type.Buffer Uniform true) 3 ∷ entry 1 (type.Buffer Storage false) 4 ∷ entry 2 type.Texture 2 ∷ entry 3 type.StorageTexture 6 ∷ entry 4 type.Sampler 5 ∷ [])
    (content.Buffer 5 (pos 256) (pos 64) ∷ content.Buffer 6 (pos 32) (pos 16) ∷ content.Texture 11 3553 1 start_range ∷ content.Image image ∷ content.Sampler 33 ∷ []) (64 ∷ [])

abbrev colour : ColorF32
colour = record { r = float 0x3f80_0000; g = float 0; b = float 0x3f00_0000; a = float 0x3f80_0000 }

abbrev range : DepthRange
range = record { start = float 0x3e80_0000; end = float 0x3f40_0000 }

-- 1, 2, 3 and 4 wide and high as floats
abbrev viewport : Call
viewport = set_viewport (record { x = float 0x3f80_0000; y = float 0x4000_0000; w = float 0x4040_0000; h = float 0x4080_0000 }) range

abbrev scissor : Call
scissor = set_scissor_rect (record { x = 1; y = 0; w = 2; h = 3 })

abbrev done : Call → Fed
done c = record { call = c; accepted = true }

-- the calls, and what the book is fed of them on each board: a compute pass before; an indirect call with count 0 before any pipeline;
-- a refused draw (buffer number 0); a reference call; a later pass
abbrev its_fed : List Fed
its_fed =
    done compute
    ∷ done (set_compute_pipeline (record { inner = inner 9 [] 2 }))
    ∷ done (dispatch_workgroups 1 1 1)
    ∷ done end_compute_pass
    ∷ done bare_pass
    ∷ done (draw_indirect 8 0 0)
    ∷ done viewport
    ∷ done scissor
    ∷ done (set_blend_constants colour)
    ∷ done (set_render_pipeline one)
    ∷ done (set_vertex_buffer 0 7 100)
    ∷ done (set_vertex_buffer 1 7 16)
    ∷ done group
    ∷ done (set_index_buffer 9 32 Uint16)
    ∷ record { call = draw_indirect 0 0 1; accepted = false }
    ∷ done (draw 0 3 5 1)
    ∷ done (set_stencil_reference 6)
    ∷ done (draw_indexed 6 3 (pos 0) 2 1)
    ∷ done (set_render_pipeline two)
    ∷ done (draw_indexed_indirect 8 40 2)
    ∷ done end_render_pass
    ∷ done bare_pass
    ∷ done (set_render_pipeline one)
    ∷ done (draw 0 3 1 1)
    ∷ done end_render_pass
    ∷ []

abbrev calls : List Call
calls = map (λ (f : Fed). f.call) its_fed

abbrev fed_on : PrivateCapabilities → List Fed
fed_on caps = fed caps rooms (begun caps rooms start_state).state calls

fed-are : (fed_on emulated ≡ its_fed) × (fed_on bare ≡ its_fed) × (fed_on full ≡ its_fed)
unfolding record_calls fed book_of enter_group outcome_of smallest some? bad_units among twice test_bit bit_at set_bit without mask_of places_from mask_by tabulate clamp_to of_bits
    buffer_commands attribute_commands sent_of zipped group_commands group_state textures_named samplers_named offsets_used group_over sampler_commands changed_units same_targets all_same each_target
    begin_render_commands attach_colors resolves_from invalidations clear_colors indirect_commands indexed_indirect_commands
fed-are = (refl, refl, refl)

-- ---- its premises, on every board
its-premises : (caps : PrivateCapabilities) → Premises caps empty its_fed
unfolding Premises enter_group
its-premises caps =
    (λ a. tt)
    ⨾ (λ a. tt)
    ⨾ (λ a. tt)
    ⨾ (λ a. tt)
    ⨾ (λ a. tt)
    ⨾ (λ a st some. absurd (omega arith))
    ⨾ (λ a. tt)
    ⨾ (λ a. tt)
    ⨾ (λ a. tt)
    ⨾ (λ a. tt)
    ⨾ (λ a. tt)
    ⨾ (λ a. tt)
    ⨾ (λ a. tt)
    ⨾ (λ a. tt)
    ⨾ (λ a. false-true a)
    ⨾ (λ a st. ready-2 one refl refl refl refl)
    ⨾ (λ a. tt)
    ⨾ (λ a st. ready-2 one refl refl refl refl)
    ⨾ (λ a. tt)
    ⨾ (λ a st some. ready-2 two refl refl refl refl)
    ⨾ (λ a. tt)
    ⨾ (λ a. tt)
    ⨾ (λ a. tt)
    ⨾ (λ a st. ready-2 one refl refl refl refl)
    ⨾ (λ a. tt)
    ⨾ tt

-- ---- what is seen of a view: all of it, at the bound slots and targets
pub record Seen : Type 0 where
  pub command : Command
  pub program : Option ℕ
  pub fetches : List (Option Fetch)
  pub uniform : Option BufferRange
  pub storage : Option BufferRange
  pub texture : Option TextureBinding
  pub image : Option ImageBinding
  pub samplers : List (Option ℕ)
  pub index : Option ℕ
  pub viewport : Option Viewport
  pub scissor : Option RectI32
  pub blend : ColorF32
  pub primitive : Option PrimitiveState
  pub bias : DepthBiasState
  pub alpha : Bool
  pub targets : List ColorTargetDesc
  pub clips : List Bool
  pub has_depth : Option Bool
  pub has_stencil : Option Bool
  pub depth : Option DepthState
  pub stencil : Option Stencil

abbrev see : View → Seen
see v =
    record {
      command = v.command;
      program = v.program;
      fetches = v.fetches;
      uniform = v.buffers 35345 3;
      storage = v.buffers 37074 4;
      texture = v.textures 2;
      image = v.images 6;
      samplers = take 3 v.samplers;
      index = v.index;
      viewport = v.viewport;
      scissor = v.scissor;
      blend = v.blend;
      primitive = v.primitive;
      bias = v.bias;
      alpha = v.alpha;
      targets = v.targets;
      clips = v.clip 0 ∷ v.clip 1 ∷ v.clip 2 ∷ v.clip 3 ∷ [];
      has_depth = v.has_depth;
      has_stencil = v.has_stencil;
      depth = v.depth;
      stencil = v.stencil;
    }

abbrev func : ℕ → ℕ → Option StencilFunc
func function reference = Some (record { function = function; reference = reference; read = 15 })

-- the command, the program, the first byte of slot 1, the samplers of units 0 to 2, the index buffer, the references, the clip distances 0 to 3
abbrev seen : Command → ℕ → ℕ → List (Option ℕ) → Option ℕ → ℕ → ℕ → List Bool → Seen
seen c program first samplers index front back clips =
    record {
      command = c;
      program = Some program;
      fetches =
          Some (record { location = 0; format = floats; slot = 0; source = Some (record { buffer = 7; stride = 12; step = Vertex; first = 100 }) })
          ∷ Some (record { location = 3; format = floats; slot = 1; source = Some (record { buffer = 7; stride = 8; step = Instance; first = first }) })
          ∷ [];
      uniform = Some (record { buffer = 5; offset = pos 320; size = pos 64 });
      storage = Some (record { buffer = 6; offset = pos 32; size = pos 16 });
      texture = Some (record { texture = 11; target = 3553; aspects = 1; mips = start_range });
      image = Some image;
      samplers = samplers;
      index = index;
      viewport = Some (record { rect = rect (pos 1) (pos 2) (pos 3) (pos 4); depth = range });
      scissor = Some (rect (pos 1) (pos 0) (pos 2) (pos 3));
      blend = colour;
      primitive = Some (record { front_face = 2305; cull_face = 1029; unclipped_depth = true; polygon_mode = 6914 });
      bias = bias;
      alpha = true;
      targets = target 7 ∷ target 3 ∷ [];
      clips = clips;
      has_depth = Some true;
      has_stencil = Some true;
      depth = Some (record { function = 513; mask = true });
      stencil = Some (record { front = func 514 front; back = func 515 back; front_ops = Some (record { write = 240; ops = operations }); back_ops = Some (record { write = 240; ops = operations }) });
    }

-- slot 1: attribute offset 4, buffer offset 16, and 8 for each working instance of the two draws that have one
abbrev its_draws : ℕ → ℕ → List Seen
its_draws fifth second =
    seen (Draw 5 0 3 5 1 (Some 7)) 1 fifth (None ∷ None ∷ Some 33 ∷ []) None 4 5 (true ∷ true ∷ true ∷ false ∷ [])
    ∷ seen (DrawIndexed 5 5123 3 44 (pos 0) 2 1 (Some 7)) 1 second (None ∷ None ∷ Some 33 ∷ []) (Some 9) 6 6 (true ∷ true ∷ true ∷ false ∷ [])
    ∷ seen (DrawIndexedIndirect 5 5123 8 40 (Some 7)) 2 20 (None ∷ Some 33 ∷ None ∷ []) (Some 9) 4 5 (true ∷ false ∷ false ∷ false ∷ [])
    ∷ seen (DrawIndexedIndirect 5 5123 8 60 (Some 7)) 2 20 (None ∷ Some 33 ∷ None ∷ []) (Some 9) 4 5 (true ∷ false ∷ false ∷ false ∷ [])
    ∷ []

-- the book fed with these calls names them, by computation
named_by : PrivateCapabilities → List View
named_by caps = named (book_of caps empty its_fed).draws

its-names : (map see (named_by emulated) ≡ its_draws 60 36) × (map see (named_by bare) ≡ its_draws 60 36) × (map see (named_by full) ≡ its_draws 20 20)
unfolding named_by book_of enter_group tabulate clamp_to of_bits
its-names = (refl, refl, refl)

-- and each draw of the machine finds them, by the theorem
abbrev found_on : PrivateCapabilities → List View
found_on caps = found (entries caps rooms start_state calls) (shots caps rooms start_state calls)

its-views : (found_on emulated ≡ named_by emulated) × (found_on bare ≡ named_by bare) × (found_on full ≡ named_by full)
unfolding named_by outcome_of smallest some? bad_units among twice test_bit
its-views = (on emulated fed-are.0 refl, on bare fed-are.1 refl, on full fed-are.2 refl)
  where
    on : (caps : PrivateCapabilities) → fed_on caps ≡ its_fed → carried caps rooms start_state begin_encoding ≡ true → found_on caps ≡ named (book_of caps empty its_fed).draws
    on caps e begins =
        (order caps rooms start_state calls begins (subst (Premises caps empty) (sym e) (its-premises caps))).1
        ∙ ap (λ (fs : List Fed). named (book_of caps empty fs).draws) e

its-draws-are : (map see (found_on emulated) ≡ its_draws 60 36) × (map see (found_on bare) ≡ its_draws 60 36) × (map see (found_on full) ≡ its_draws 20 20)
its-draws-are = (ap (map see) its-views.0 ∙ its-names.0, ap (map see) its-views.1 ∙ its-names.1, ap (map see) its-views.2 ∙ its-names.2)
