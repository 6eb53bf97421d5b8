-- Two recordings under `later-passes`, on three boards: one with a wall, bindings and a compute pass before the classroom, and one that begins with it. The premises hold
-- together, the draws find the same by the theorem and by computation, what the pass has not set differs, and each of the four things that it must set is needed. Assumes nothing.
use Prim.Native.Nat.{ℕ}
use mathlib.Core.Path.{◌≡◌, refl, sym, subst}
use mathlib.Core.Bool.{true, false}
use mathlib.Core.List.{List, [], ◌∷◌, ◌++◌, map}
use Rattle.std.specs.Prelude.{Option, None, Some}
use lib.Ieee.{binary32, of_bits}
use lib.IntN.{pos}
use Rattle.tables.specs.Tabulate.{tabulate}
use Rattle.mask.specs.Mask.{test_bit, bit_at, set_bit, without, mask_of, places_from}
use Rattle.mask.specs.By.{mask_by}
use Rattle.names.specs.declared.wgt.FrontFace.TheVariants.{Ccw}
use Rattle.records.specs.Start.{start_state, start_range}
use Rattle.records.specs.Outcome.{smallest}
use Rattle.records.specs.Check.{some?, bad_units, among, twice}
use Rattle.records.specs.declared.binding.BindingType.TheVariants as type
use Rattle.records.specs.declared.binding.BufferBindingType.TheVariants.{Uniform}
use Rattle.records.specs.declared.binding.RawBinding.TheVariants as content
use Rattle.records.specs.declared.command.ColorF32.{ColorF32}
use Rattle.records.specs.declared.command.Command.TheVariants.{DrawIndexed}
use Rattle.records.specs.declared.command.VertexStepMode.{VertexStepMode}
use Rattle.records.specs.declared.command.VertexStepMode.TheVariants.{Vertex, Instance}
use Rattle.records.specs.declared.pipeline.PrivateCapabilities.{PrivateCapabilities}
use Rattle.records.specs.declared.pipeline.RenderPipeline.{RenderPipeline}
use Rattle.records.specs.declared.state.IndexFormat.TheVariants.{Uint16, Uint32}
use Rattle.slots.specs.Prepare.{buffer_commands, sent_of, attribute_commands}
use Rattle.bindings.specs.Group.{zipped, group_commands, group_state, textures_named, samplers_named, offsets_used, group_over}
use Rattle.bindings.specs.Units.{sampler_commands}
use Rattle.pipeline.specs.Inner.{no_bind, changed_units}
use Rattle.pipeline.specs.Fixed.{same_targets}
use Rattle.pass.specs.Render.{begin_render_commands, attach_colors, resolves_from, invalidations, clear_colors}
use Rattle.calls.specs.Call.{Call, begin_encoding, end_encoding, end_render_pass, begin_compute_pass, end_compute_pass, set_render_pipeline, set_compute_pipeline, set_index_buffer, set_vertex_buffer, set_blend_constants, draw_indexed, draw_indirect}
use Rattle.calls.specs.Draws.{indirect_commands}
use Rattle.calls.specs.Step.{outcome_of}
use Rattle.machine.specs.View.{Fetch, View}
use Rattle.machine.specs.Machine.{Gl, Shot}
use Rattle.lists.specs.Shots.{shots_from}
use Rattle.book.specs.Book.{enter_group, book_of}
use Rattle.book.specs.FirstPass.{found}
use Rattle.book.specs.Run.{carried, record_calls, fed, begun}
use Rattle.cases.specs.Samples.{emulated, full, bare, rooms, no_label, no_queries, entry, bind_group, by_vertex, by_instance, floats, attribute, takes, inner_of, pipeline, pipeline_of, pass_of, bare_pass, draw_at}
use Rattle.cases.specs.Worked.{ready-1, ready-2, ◌⨾◌}
use Rattle.later_passes.specs.Pass.{Inside, Sets, SetsAll, taken, own}
use Rattle.later_passes.specs.Alike.{FindSame}
use Rattle.later_passes.specs.Claim.{pass_draws, NoneRefused}
use Rattle.later_passes.proofs.Theorem.{later-passes}

-- ---- two pipelines: of slot 0, and of slots 0 and 1, the latter by instance; unit 2 of the second takes sampler 5
abbrev one : RenderPipeline
one = pipeline 1 (by_vertex 12 ∷ []) (attribute 0 0 0 ∷ [])

abbrev two : RenderPipeline
two = pipeline_of (inner_of 2 (no_bind ∷ no_bind ∷ takes 5 ∷ []) []) (by_vertex 12 ∷ by_instance 8 ∷ []) (attribute 0 0 0 ∷ attribute 3 4 1 ∷ []) None Ccw

abbrev dark : ColorF32
dark = record { r = of_bits binary32 0; g = of_bits binary32 0; b = of_bits binary32 0; a = of_bits binary32 0 }

abbrev bright : ColorF32
bright = record { r = of_bits binary32 0x3f80_0000; g = of_bits binary32 0x3f80_0000; b = of_bits binary32 0x3f80_0000; a = of_bits binary32 0x3f80_0000 }

-- a uniform buffer at slot 3, a texture at slot 2, a sampler under number 5
abbrev group : Call
group =
    bind_group (entry 0 (type.Buffer Uniform false) 3 ∷ entry 1 type.Texture 2 ∷ entry 2 type.Sampler 5 ∷ [])
    (content.Buffer 5 (pos 256) (pos 64) ∷ content.Texture 11 3553 1 start_range ∷ content.Sampler 33 ∷ []) []

-- before the classroom: a wall drawn from instance 5 on, and a compute pass
abbrev wall : List Call
wall =
    bare_pass
    ∷ set_render_pipeline two
    ∷ set_vertex_buffer 0 3 0
    ∷ set_vertex_buffer 1 4 24
    ∷ group
    ∷ set_index_buffer 6 2 Uint32
    ∷ set_blend_constants bright
    ∷ draw_at 5
    ∷ end_render_pass
    ∷ begin_compute_pass None no_label no_queries
    ∷ set_compute_pipeline (record { inner = inner_of 9 [] [] })
    ∷ end_compute_pass
    ∷ []

-- the classroom: slot 1 has a buffer before a pipeline describes it, and the working instance changes in between
abbrev classroom : List Call
classroom =
    set_render_pipeline one
    ∷ set_vertex_buffer 0 7 100
    ∷ set_vertex_buffer 1 7 16
    ∷ set_index_buffer 9 32 Uint16
    ∷ set_blend_constants dark
    ∷ draw_at 0
    ∷ draw_at 5
    ∷ set_render_pipeline two
    ∷ draw_at 5
    ∷ draw_indexed 6 3 (pos 0) 2 1
    ∷ draw_indirect 8 0 2
    ∷ []

-- ---- the premises
inside : Inside classroom
inside = refl ⨾ refl ⨾ refl ⨾ refl ⨾ refl ⨾ refl ⨾ refl ⨾ refl ⨾ refl ⨾ refl ⨾ refl ⨾ tt

sets : (caps : PrivateCapabilities) → SetsAll caps bare_pass classroom
unfolding Sets
sets caps =
    tt
    ⨾ tt
    ⨾ tt
    ⨾ tt
    ⨾ tt
    ⨾ (λ l. record { ready = ready-1 one refl refl refl; index = refl; blend = refl })
    ⨾ (λ l. record { ready = ready-1 one refl refl refl; index = refl; blend = refl })
    ⨾ tt
    ⨾ (λ l. record { ready = ready-2 two refl refl refl refl; index = refl; blend = refl })
    ⨾ (λ l. record { ready = ready-2 two refl refl refl refl; index = refl; blend = refl })
    ⨾ (λ l. record { ready = ready-2 two refl refl refl refl; index = refl; blend = refl })
    ⨾ tt

-- layouts with emulated instancing, layouts with full instancing, no layouts
pub data Board : Type 0 where
  layouts instancing plain : Board

abbrev flags : Board → PrivateCapabilities
flags layouts = emulated
flags instancing = full
flags plain = bare

-- with the wall before it, and closed after it; and alone, up to its last draw
abbrev long : List Call
long = wall ++ bare_pass ∷ classroom ++ end_render_pass ∷ end_encoding ∷ []

abbrev short : List Call
short = bare_pass ∷ classroom ++ []

starts : (k : Board) → carried (flags k) rooms start_state begin_encoding ≡ true
unfolding outcome_of smallest some? bad_units twice test_bit
starts layouts = refl
starts instancing = refl
starts plain = refl

accepted-long : (k : Board) → fed (flags k) rooms (begun (flags k) rooms start_state).state long ≡ taken long
unfolding record_calls shots_from fed book_of enter_group outcome_of smallest some? bad_units among twice test_bit bit_at set_bit without mask_of places_from mask_by tabulate
    buffer_commands sent_of attribute_commands zipped group_commands group_state textures_named samplers_named offsets_used group_over sampler_commands changed_units same_targets
    begin_render_commands attach_colors resolves_from invalidations clear_colors indirect_commands
accepted-long layouts = refl
accepted-long instancing = refl
accepted-long plain = refl

accepted-short : (k : Board) → fed (flags k) rooms (begun (flags k) rooms start_state).state short ≡ taken short
unfolding record_calls shots_from fed book_of enter_group outcome_of smallest some? bad_units among twice test_bit bit_at set_bit without mask_of places_from mask_by tabulate
    buffer_commands sent_of attribute_commands zipped group_commands group_state textures_named samplers_named offsets_used group_over sampler_commands changed_units same_targets
    begin_render_commands attach_colors resolves_from invalidations clear_colors indirect_commands
accepted-short layouts = refl
accepted-short instancing = refl
accepted-short plain = refl

all-taken : (cs : List Call) → NoneRefused (taken cs)
all-taken [] = tt
all-taken (c ∷ cs) = (refl, all-taken cs)

-- so the theorem says it, on each board
abbrev draws_in : Board → List Call → List Call → List Call → List Shot
draws_in k earlier body after = pass_draws (flags k) rooms start_state earlier bare_pass body after

find-same-here : (k : Board) → FindSame (own (flags k) bare_pass classroom) (draws_in k wall classroom (end_render_pass ∷ end_encoding ∷ [])) (draws_in k [] classroom [])
find-same-here k =
    later-passes (flags k) rooms rooms start_state start_state wall [] (end_render_pass ∷ end_encoding ∷ []) [] (pass_of 0 [] None) no_label no_queries classroom
    inside (sets (flags k)) (refl ⨾ refl ⨾ tt) tt
    (starts k) (subst NoneRefused (sym (accepted-long k)) (all-taken long)) (starts k) (subst NoneRefused (sym (accepted-short k)) (all-taken short))

-- ---- what they find, by computation: the fetches of each draw
abbrev fetches_in : Board → List Call → List (List (Option Fetch))
fetches_in k earlier = map (λ (v : View). v.fetches) (found (own (flags k) bare_pass classroom) (draws_in k earlier classroom []))

abbrev from : ℕ → ℕ → ℕ → VertexStepMode → ℕ → Option Fetch
from location slot stride step byte = Some (record { location = location; format = floats; slot = slot; source = Some (record { buffer = 7; stride = stride; step = step; first = byte }) })

-- slot 0 from byte 100; slot 1 from byte 20 on, moved on by five, by two and by no instances of 8 bytes
abbrev moved : ℕ → List (Option Fetch)
moved byte = from 0 0 12 Vertex 100 ∷ from 3 1 8 Instance byte ∷ []

abbrev expected : Board → List (List (Option Fetch))
expected layouts = (from 0 0 12 Vertex 100 ∷ []) ∷ (from 0 0 12 Vertex 100 ∷ []) ∷ moved 60 ∷ moved 36 ∷ moved 20 ∷ moved 20 ∷ []
expected instancing = (from 0 0 12 Vertex 100 ∷ []) ∷ (from 0 0 12 Vertex 100 ∷ []) ∷ moved 20 ∷ moved 20 ∷ moved 20 ∷ moved 20 ∷ []
expected plain = (from 0 0 12 Vertex 100 ∷ []) ∷ (from 0 0 12 Vertex 100 ∷ []) ∷ moved 60 ∷ moved 36 ∷ moved 20 ∷ moved 20 ∷ []

after-wall : (k : Board) → fetches_in k wall ≡ expected k
unfolding record_calls shots_from fed book_of enter_group outcome_of smallest some? bad_units among twice test_bit bit_at set_bit without mask_of places_from mask_by tabulate
    buffer_commands sent_of attribute_commands zipped group_commands group_state textures_named samplers_named offsets_used group_over sampler_commands changed_units same_targets
    begin_render_commands attach_colors resolves_from invalidations clear_colors indirect_commands
after-wall layouts = refl
after-wall instancing = refl
after-wall plain = refl

alone : (k : Board) → fetches_in k [] ≡ expected k
unfolding record_calls shots_from fed book_of enter_group outcome_of smallest some? bad_units among twice test_bit bit_at set_bit without mask_of places_from mask_by tabulate
    buffer_commands sent_of attribute_commands zipped group_commands group_state textures_named samplers_named offsets_used group_over sampler_commands changed_units same_targets
    begin_render_commands attach_colors resolves_from invalidations clear_colors indirect_commands
alone layouts = refl
alone instancing = refl
alone plain = refl

-- ---- what is needed
abbrev seen : {A : Type 0} → (Gl → A) → List Call → List Call → List A
seen look earlier body = map (λ (x : Shot). look x.gl) (draws_in layouts earlier body [])

-- a pass that sets all four, and draws once
abbrev ready : List Call
ready = set_render_pipeline two ∷ set_vertex_buffer 0 7 100 ∷ set_vertex_buffer 1 7 16 ∷ set_index_buffer 9 32 Uint16 ∷ set_blend_constants dark ∷ draw_at 0 ∷ []

-- what it has not set differs: the sampler of unit 2, whose number 5 names a sampler that was set before the pass, a buffer, a texture
others-differ :
    (seen (λ g. g.bindings.samplers 2) wall ready ≡ Some 33 ∷ []) × (seen (λ g. g.bindings.samplers 2) [] ready ≡ None ∷ [])
    × (seen (λ g. g.bindings.buffers 35345 3) wall ready ≡ Some (record { buffer = 5; offset = pos 256; size = pos 64 }) ∷ []) × (seen (λ g. g.bindings.buffers 35345 3) [] ready ≡ None ∷ [])
    × (seen (λ g. g.bindings.textures 2) wall ready ≡ Some (record { texture = 11; target = 3553; aspects = 1; mips = start_range }) ∷ []) × (seen (λ g. g.bindings.textures 2) [] ready ≡ None ∷ [])
unfolding record_calls shots_from fed book_of enter_group outcome_of smallest some? bad_units among twice test_bit bit_at set_bit without mask_of places_from mask_by tabulate
    buffer_commands sent_of attribute_commands zipped group_commands group_state textures_named samplers_named offsets_used group_over sampler_commands changed_units same_targets
    begin_render_commands attach_colors resolves_from invalidations clear_colors indirect_commands
others-differ = (refl, refl, refl, refl, refl, refl)

-- the pipeline is needed: without it the draw finds the program of the compute pass
pipeline-needed : (seen (λ g. g.fixed.program) wall (draw_at 0 ∷ []) ≡ Some 9 ∷ []) × (seen (λ g. g.fixed.program) [] (draw_at 0 ∷ []) ≡ None ∷ [])
unfolding record_calls shots_from fed book_of enter_group outcome_of smallest some? bad_units among twice test_bit bit_at set_bit without mask_of places_from mask_by tabulate
    buffer_commands sent_of attribute_commands zipped group_commands group_state textures_named samplers_named offsets_used group_over sampler_commands changed_units same_targets
    begin_render_commands attach_colors resolves_from invalidations clear_colors indirect_commands
pipeline-needed = (refl, refl)

-- the buffer of a described slot: without it slot 1 has what it had at the wall's draw, byte 24 and five instances of 8 bytes
abbrev slot_1_left : List Call
slot_1_left = set_render_pipeline two ∷ set_vertex_buffer 0 7 100 ∷ set_index_buffer 9 32 Uint16 ∷ set_blend_constants dark ∷ draw_at 0 ∷ []

buffer-needed :
    (seen (λ g. g.vertices.buffer 1) wall slot_1_left ≡ Some (record { binding = record { raw = 4; offset = 64 }; desc = record { step = Instance; stride = 8 } }) ∷ [])
    × (seen (λ g. g.vertices.buffer 1) [] slot_1_left ≡ None ∷ [])
unfolding record_calls shots_from fed book_of enter_group outcome_of smallest some? bad_units among twice test_bit bit_at set_bit without mask_of places_from mask_by tabulate
    buffer_commands sent_of attribute_commands zipped group_commands group_state textures_named samplers_named offsets_used group_over sampler_commands changed_units same_targets
    begin_render_commands attach_colors resolves_from invalidations clear_colors indirect_commands
buffer-needed = (refl, refl)

-- the index buffer, of an indexed draw: the buffer, and the command with its type and offset
abbrev index_left : List Call
index_left = set_render_pipeline one ∷ set_vertex_buffer 0 7 100 ∷ set_blend_constants dark ∷ draw_indexed 6 3 (pos 0) 0 1 ∷ []

index-needed :
    (seen (λ g. g.bindings.index) wall index_left ≡ Some 6 ∷ []) × (seen (λ g. g.bindings.index) [] index_left ≡ None ∷ [])
    × (map (λ (x : Shot). x.command) (draws_in layouts wall index_left []) ≡ DrawIndexed 4 5125 3 26 (pos 0) 0 1 None ∷ [])
    × (map (λ (x : Shot). x.command) (draws_in layouts [] index_left []) ≡ DrawIndexed 4 5125 3 24 (pos 0) 0 1 None ∷ [])
unfolding record_calls shots_from fed book_of enter_group outcome_of smallest some? bad_units among twice test_bit bit_at set_bit without mask_of places_from mask_by tabulate
    buffer_commands sent_of attribute_commands zipped group_commands group_state textures_named samplers_named offsets_used group_over sampler_commands changed_units same_targets
    begin_render_commands attach_colors resolves_from invalidations clear_colors indirect_commands
index-needed = (refl, refl, refl, refl)

-- the blend constants
abbrev blend_left : List Call
blend_left = set_render_pipeline one ∷ set_vertex_buffer 0 7 100 ∷ set_index_buffer 9 32 Uint16 ∷ draw_at 0 ∷ []

blend-needed : (seen (λ g. g.screen.blend) wall blend_left ≡ bright ∷ []) × (seen (λ g. g.screen.blend) [] blend_left ≡ dark ∷ [])
unfolding record_calls shots_from fed book_of enter_group outcome_of smallest some? bad_units among twice test_bit bit_at set_bit without mask_of places_from mask_by tabulate
    buffer_commands sent_of attribute_commands zipped group_commands group_state textures_named samplers_named offsets_used group_over sampler_commands changed_units same_targets
    begin_render_commands attach_colors resolves_from invalidations clear_colors indirect_commands
blend-needed = (refl, refl)
