-- Worked lists of calls, by computation: the order theorem is not empty, its second premise is needed, and so is "the first render pass". Assumes nothing.
use Rattle.std.specs.Prelude.{ℕ, ◌≡◌, refl, true, false, List, [], ◌∷◌, ◌++◌, map, pos, take, Option, None, Some}
use Rattle.mask.specs.Mask.{test_bit, bit_at, set_bit, without, mask_of, places_from}
use Rattle.mask.specs.By.{mask_by}
use Rattle.tables.specs.Tabulate.{tabulate}
use Rattle.names.specs.declared.wgt.FrontFace.TheVariants.{Ccw}
use Rattle.records.specs.Start.{start_state, start_range}
use Rattle.records.specs.Outcome.{smallest}
use Rattle.records.specs.Check.{some?, bad_units, among, twice}
use Rattle.records.specs.declared.binding.BindingType.TheVariants as type
use Rattle.records.specs.declared.binding.BufferBindingType.TheVariants.{Uniform}
use Rattle.records.specs.declared.binding.RawBinding.TheVariants as content
use Rattle.records.specs.declared.command.Command.{Command}
use Rattle.records.specs.declared.command.Command.TheVariants.{DrawIndexed, DrawIndirect, SetIndexBuffer, ResetFramebuffer, SetDrawColorBuffers, SetViewport, SetScissor, ConfigureDepthStencil, SetVertexAttribute, SetProgram, SetPrimitive, BindBuffer, BindSampler, BindTexture}
use Rattle.records.specs.declared.command.VertexStepMode.TheVariants.{Vertex, Instance}
use Rattle.records.specs.declared.pipeline.SamplerBind.{SamplerBind}
use Rattle.records.specs.declared.pipeline.RenderPipeline.{RenderPipeline}
use Rattle.records.specs.declared.state.IndexFormat.TheVariants.{Uint16}
use Rattle.slots.specs.Prepare.{buffer_commands, working}
use Rattle.bindings.specs.Group.{zipped, group_commands, group_state, textures_named, samplers_named, offsets_used, group_over}
use Rattle.bindings.specs.Units.{sampler_commands}
use Rattle.pipeline.specs.Inner.{no_bind, changed_units}
use Rattle.pipeline.specs.Fixed.{same_targets}
use Rattle.pass.specs.Render.{full_depth, begin_render_commands, attach_colors, resolves_from, invalidations, clear_colors}
use Rattle.calls.specs.Call.{Call, end_render_pass, set_render_pipeline, set_index_buffer, set_vertex_buffer, draw_indexed, draw_indirect}
use Rattle.calls.specs.Draws.{indirect_commands}
use Rattle.calls.specs.Step.{outcome_of}
use Rattle.machine.specs.View.{Fetch, BufferRange, View}
use Rattle.machine.specs.Machine.{fresh, play}
use Rattle.machine.specs.Found.{fetch_at}
use Rattle.book.specs.Book.{Fed, empty, named_fetch, enter_group, book_of}
use Rattle.cases.specs.Worked.{ready-0, ready-1, ready-2, ◌⨾◌}
use Rattle.book.specs.Run.{record_calls, fed, Premises, begun}
use Rattle.book.specs.FirstPass.{found, shots, entries, named}
use Rattle.order.proofs.Theorem.{order}
use Rattle.cases.specs.Samples.{emulated, rooms, entry, bind_group, by_vertex, by_instance, floats, attribute, takes, inner_of, pipeline_of, B, fetching, bare_pass, draw_at, rect, drawn, bound}

-- after `begin_encoding`: the list that the calls record, what the book is fed, and for each draw what it finds and what the book names
abbrev list_of : List Call → List Command
list_of calls = (record_calls emulated rooms (begun emulated rooms start_state) calls).list

abbrev fed_of : List Call → List Fed
fed_of calls = fed emulated rooms (begun emulated rooms start_state).state calls

abbrev found_by : List Call → List View
found_by calls = found (entries emulated rooms start_state calls) (shots emulated rooms start_state calls)

abbrev named_by : List Call → List View
named_by calls = named (entries emulated rooms start_state calls)

-- ---- a worked list
-- two pipelines of the same slots, 0 by vertex and 1 by instance; unit 2 of the one and unit 1 of the other take sampler 5
abbrev vertex_part : List SamplerBind → ℕ → RenderPipeline
vertex_part units program =
    pipeline_of (inner_of program units []) (by_vertex 12 ∷ by_instance 8 ∷ []) (attribute 0 0 0 ∷ attribute 3 4 1 ∷ []) None Ccw

abbrev C : RenderPipeline
C = vertex_part (no_bind ∷ no_bind ∷ takes 5 ∷ []) 1

abbrev E : RenderPipeline
E = vertex_part (no_bind ∷ takes 5 ∷ []) 2

-- a uniform buffer with a dynamic offset at slot 3, a texture at slot 2, a sampler under number 5
abbrev group : Call
group =
    bind_group (entry 0 (type.Buffer Uniform true) 3 ∷ entry 1 type.Texture 2 ∷ entry 2 type.Sampler 5 ∷ [])
    (content.Buffer 5 (pos 256) (pos 64) ∷ content.Texture 11 3553 1 start_range ∷ content.Sampler 33 ∷ []) (64 ∷ [])

-- thirteen calls; the one with slot 16 is refused
abbrev worked : List Call
worked =
    bare_pass
    ∷ set_render_pipeline C
    ∷ set_vertex_buffer 0 7 100
    ∷ set_vertex_buffer 1 7 16
    ∷ set_vertex_buffer 16 7 16
    ∷ group
    ∷ draw_at 5
    ∷ draw_at 5
    ∷ set_render_pipeline E
    ∷ set_index_buffer 9 32 Uint16
    ∷ draw_indexed 6 3 (pos 0) 2 1
    ∷ draw_indirect 8 0 2
    ∷ end_render_pass
    ∷ []

-- the attributes of both pipelines
abbrev attributes : List Command
attributes =
    SetVertexAttribute None (record { step = Vertex; stride = 12 }) (attribute 0 0 0)
    ∷ SetVertexAttribute None (record { step = Instance; stride = 8 }) (attribute 3 4 1)
    ∷ []

-- slot 1 is moved on by five, two and no instances; sampler 33 goes to the unit that the pipeline has for number 5
its-list : list_of worked
    ≡ ResetFramebuffer false
    ∷ SetScissor (rect (pos 0) (pos 0) (pos 4) (pos 3))
    ∷ SetViewport (rect (pos 0) (pos 0) (pos 4) (pos 3)) full_depth
    ∷ SetDrawColorBuffers 0
    ∷ attributes
    ++ SetProgram 1
    ∷ BindSampler 2 None
    ∷ SetPrimitive (record { front_face = 2304; cull_face = 0; unclipped_depth = false; polygon_mode = 6914 })
    ∷ ConfigureDepthStencil 0
    ∷ BindBuffer 35345 3 5 (pos 320) (pos 64)
    ∷ BindTexture 2 11 3553 1 start_range
    ∷ BindSampler 2 (Some 33)
    ∷ bound 0 100 Vertex 12
    ∷ bound 1 56 Instance 8
    ∷ drawn 5
    ∷ drawn 5
    ∷ attributes
    ++ SetProgram 2
    ∷ BindSampler 1 (Some 33)
    ∷ BindSampler 2 None
    ∷ ConfigureDepthStencil 0
    ∷ SetIndexBuffer 9
    ∷ bound 1 32 Instance 8
    ∷ DrawIndexed 4 5123 3 44 (pos 0) 2 1 None
    ∷ bound 1 16 Instance 8
    ∷ DrawIndirect 4 8 0 None
    ∷ DrawIndirect 4 8 16 None
    ∷ []
unfolding record_calls fed book_of enter_group outcome_of smallest some? bad_units among twice test_bit bit_at set_bit without mask_of places_from mask_by tabulate
    buffer_commands zipped group_commands group_state textures_named samplers_named offsets_used group_over sampler_commands changed_units same_targets
    begin_render_commands attach_colors resolves_from invalidations clear_colors indirect_commands
its-list = refl

-- of a view: command, program, fetches, the uniform buffer of slot 3, the samplers of units 0 to 2, the index buffer
pub record Shown : Type 0 where
  pub command : Command
  pub program : Option ℕ
  pub fetches : List (Option Fetch)
  pub range : Option BufferRange
  pub samplers : List (Option ℕ)
  pub index : Option ℕ

abbrev show : View → Shown
show v =
    record { command = v.command; program = v.program; fetches = v.fetches; range = v.buffers 35345 3; samplers = take 3 v.samplers; index = v.index }

-- slot 0 from byte 100, slot 1 from the given byte on
abbrev shown : Command → ℕ → ℕ → List (Option ℕ) → Option ℕ → Shown
shown c program first samplers index =
    record {
      command = c;
      program = Some program;
      fetches =
          Some (record { location = 0; format = floats; slot = 0; source = Some (record { buffer = 7; stride = 12; step = Vertex; first = 100 }) })
          ∷ Some (record { location = 3; format = floats; slot = 1; source = Some (record { buffer = 7; stride = 8; step = Instance; first = first }) })
          ∷ [];
      range = Some (record { buffer = 5; offset = pos 320; size = pos 64 });
      samplers = samplers;
      index = index;
    }

-- attribute offset 4, buffer offset 16, working instance times 8
abbrev its_draws : List Shown
its_draws =
    shown (drawn 5) 1 60 (None ∷ None ∷ Some 33 ∷ []) None
    ∷ shown (drawn 5) 1 60 (None ∷ None ∷ Some 33 ∷ []) None
    ∷ shown (DrawIndexed 4 5123 3 44 (pos 0) 2 1 None) 2 36 (None ∷ Some 33 ∷ None ∷ []) (Some 9)
    ∷ shown (DrawIndirect 4 8 0 None) 2 20 (None ∷ Some 33 ∷ None ∷ []) None
    ∷ shown (DrawIndirect 4 8 16 None) 2 20 (None ∷ Some 33 ∷ None ∷ []) None
    ∷ []

-- what they find on the machine, and what the book names
its-draws-are : (map show (found_by worked) ≡ its_draws) × (map show (named_by worked) ≡ its_draws)
unfolding record_calls fed book_of enter_group outcome_of smallest some? bad_units among twice test_bit bit_at set_bit without mask_of places_from mask_by tabulate
    buffer_commands zipped group_commands group_state textures_named samplers_named offsets_used group_over sampler_commands changed_units same_targets
    begin_render_commands attach_colors resolves_from invalidations clear_colors indirect_commands
its-draws-are = (refl, refl)

-- its premises hold: both pipelines describe slots 0 and 1, and these have buffers at each draw
its-premises : Premises emulated empty (fed_of worked)
unfolding Premises record_calls fed book_of enter_group outcome_of smallest some? bad_units among twice test_bit bit_at set_bit without mask_of places_from mask_by
    tabulate buffer_commands zipped group_commands group_state textures_named samplers_named offsets_used group_over sampler_commands changed_units same_targets
    begin_render_commands attach_colors resolves_from invalidations clear_colors indirect_commands
its-premises =
    (λ a. tt)
    ⨾ (λ a. tt)
    ⨾ (λ a. tt)
    ⨾ (λ a. tt)
    ⨾ (λ a. tt)
    ⨾ (λ a. tt)
    ⨾ (λ a st. ready-2 C refl refl refl refl)
    ⨾ (λ a st. ready-2 C refl refl refl refl)
    ⨾ (λ a. tt)
    ⨾ (λ a. tt)
    ⨾ (λ a st. ready-2 E refl refl refl refl)
    ⨾ (λ a st some. ready-2 E refl refl refl refl)
    ⨾ (λ a. tt)
    ⨾ tt

-- so, by the theorem, all of each view
its-views : found_by worked ≡ named_by worked
unfolding outcome_of smallest some? bad_units among twice test_bit
its-views = (order emulated rooms start_state worked refl its-premises).1

-- ---- pipelines that describe different slots
-- B describes no slot, so the draw at 5 does not mark slot 0; A's next draw does, since slot 0 was last bound with 0
abbrev mixed : List Call
mixed =
    bare_pass
    ∷ set_render_pipeline (fetching 0)
    ∷ set_vertex_buffer 0 7 16
    ∷ draw_at 0
    ∷ set_render_pipeline B
    ∷ draw_at 5
    ∷ set_render_pipeline (fetching 0)
    ∷ draw_at 5
    ∷ []

-- the fetch of the attribute from the given byte on
abbrev from : ℕ → Option Fetch
from first = Some (record { location = 0; format = floats; slot = 0; source = Some (record { buffer = 7; stride = 8; step = Instance; first = first }) })

abbrev fetches_of : List View → List (List (Option Fetch))
fetches_of vs = map (λ (v : View). v.fetches) vs

-- the third draw fetches from byte 56
mixed-fetches :
    (fetches_of (found_by mixed) ≡ (from 16 ∷ []) ∷ [] ∷ (from 56 ∷ []) ∷ [])
    × (fetches_of (named_by mixed) ≡ (from 16 ∷ []) ∷ [] ∷ (from 56 ∷ []) ∷ [])
unfolding record_calls fed book_of enter_group outcome_of smallest some? bad_units among twice test_bit bit_at set_bit without mask_of places_from mask_by tabulate
    buffer_commands zipped group_commands group_state textures_named samplers_named offsets_used group_over sampler_commands changed_units same_targets
    begin_render_commands attach_colors resolves_from invalidations clear_colors indirect_commands
mixed-fetches = (refl, refl)

-- its premises hold, so the theorem says it of all of each view
mixed-premises : Premises emulated empty (fed_of mixed)
unfolding Premises record_calls fed book_of enter_group outcome_of smallest some? bad_units among twice test_bit bit_at set_bit without mask_of places_from mask_by
    tabulate buffer_commands sampler_commands changed_units same_targets begin_render_commands attach_colors resolves_from invalidations clear_colors
mixed-premises =
    (λ a. tt)
    ⨾ (λ a. tt)
    ⨾ (λ a. tt)
    ⨾ (λ a st. ready-1 (fetching 0) refl refl refl)
    ⨾ (λ a. tt)
    ⨾ (λ a st. ready-0 B refl refl)
    ⨾ (λ a. tt)
    ⨾ (λ a st. ready-1 (fetching 0) refl refl refl)
    ⨾ tt

mixed-views : found_by mixed ≡ named_by mixed
unfolding outcome_of smallest some? bad_units among twice test_bit
mixed-views = (order emulated rooms start_state mixed refl mixed-premises).1

-- ---- "the first render pass" is needed
-- `end_render_pass` forgets the first instance and the masks, and the slot keeps its offset: at 0 in the next pass nothing is marked
abbrev two_passes : List Call
two_passes =
    bare_pass
    ∷ set_render_pipeline (fetching 0)
    ∷ set_vertex_buffer 0 7 16
    ∷ draw_at 5
    ∷ end_render_pass
    ∷ bare_pass
    ∷ set_render_pipeline (fetching 0)
    ∷ draw_at 0
    ∷ []

-- the list ends with the second pass's draw: there the machine has byte 56 at location 0, and the book names 16
two-passes-fetch :
    (fetch_at (play fresh (list_of two_passes)).gl.vertices 0 ≡ from 56)
    × (named_fetch (book_of emulated empty (fed_of two_passes)) (working emulated 0) (attribute 0 0 0) ≡ from 16)
unfolding record_calls fed book_of enter_group outcome_of smallest some? bad_units among twice test_bit bit_at set_bit without mask_of places_from mask_by tabulate
    buffer_commands zipped group_commands group_state textures_named samplers_named offsets_used group_over sampler_commands changed_units same_targets
    begin_render_commands attach_colors resolves_from invalidations clear_colors indirect_commands
two-passes-fetch = (refl, refl)
