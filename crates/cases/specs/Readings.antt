-- Readings of document 01 at its edges, each beside its neighbour, by computation (docs/DECISIONS.md, D3, D5, D8, D9). Assumes nothing.
use Rattle.std.specs.Prelude.{ℕ, ◌^◌, ◌-◌, ◌≡◌, refl, Bool, true, false, List, [], ◌∷◌, ◌++◌, map, pos, replicate, None}
use Rattle.std.specs.Float.Ieee.{of_bits}
use Rattle.mask.specs.Mask.{test_bit, bit_at, set_bit, without, mask_of, places_from}
use Rattle.mask.specs.By.{mask_by}
use Rattle.tables.specs.Tabulate.{tabulate}
use Rattle.records.specs.Start.{start_state, start_immediate, start_immediates}
use Rattle.records.specs.Outcome.{number, smallest}
use Rattle.records.specs.Check.{some?, bad_units, among, twice}
use Rattle.records.specs.declared.binding.BindingType.TheVariants as type
use Rattle.records.specs.declared.binding.BufferBindingType.TheVariants.{Uniform}
use Rattle.records.specs.declared.binding.GroupShape.{GroupShape}
use Rattle.records.specs.declared.binding.RawBinding.TheVariants as content
use Rattle.records.specs.declared.command.Command.TheVariants.{BindBuffer, ResetFramebuffer, SetDrawColorBuffers}
use Rattle.records.specs.declared.state.Phase.TheVariants.{Render}
use Rattle.records.specs.declared.state.State.{State}
use Rattle.slots.specs.Prepare.{buffer_commands, attribute_commands, sent_of}
use Rattle.bindings.specs.Group.{no_group, zipped, group_commands, group_state, textures_named, samplers_named, offsets_used, group_over}
use Rattle.bindings.specs.Immediates.{filter, immediate_commands, immediate_bytes, immediates_over}
use Rattle.numbers.specs.Bytes.{bytes_of}
use Rattle.bindings.specs.Units.{sampler_commands}
use Rattle.pass.specs.Marks.{Label}
use Rattle.pass.specs.Render.{begin_render_commands, attach_colors, resolves_from, invalidations, clear_colors}
use Rattle.calls.specs.Call.{Call, begin_render_pass, begin_compute_pass, copy_query_results, set_bind_group, set_immediates, set_vertex_buffer}
use Rattle.calls.specs.Parts.{with_progress, with_immediates}
use Rattle.calls.specs.Step.{meaning, outcome_of}
use Rattle.book.specs.Run.{record_calls, fed}
use Rattle.cases.specs.Samples.{emulated, rooms, padded, lent, no_queries, entry, pass_of, bare_pass}
use Rattle.cases.specs.Cases.{Case, seen, said, all_accepted, records, refused, extents}
use Rattle.cases.specs.EdgeSamples.{two_queries, buffer, bind_one, shape, vertices, described}

-- a label of so many bytes over an empty run, there or not; a render and a compute pass with it
abbrev label_of : Bool → ℕ → Label
label_of present count = record { present = present; bytes = record { run = []; count = count } }

abbrev rendering : Label → Call
rendering label = begin_render_pass (pass_of 0 [] None) label no_queries

abbrev computing : Label → Call
computing label = begin_compute_pass None label no_queries

-- one dynamic uniform buffer at slot 3, and so many of these offsets
abbrev dynamic : List ℕ → ℕ → Call
dynamic offsets count =
    set_bind_group (record { groups = padded 8 no_group (shape 1 ∷ []); group_count = 1 }) 0
    (record { entries = replicate 64 (entry 0 (type.Buffer Uniform true) 3) })
    (record { contents = replicate 64 (record { binding = buffer (pos 0) }); content_count = 1 })
    (record { run = offsets; count = count })

-- group 0, of one uniform buffer, of a layout whose group 1 is this
abbrev beside : GroupShape → Call
beside other =
    set_bind_group (record { groups = padded 8 no_group (shape 1 ∷ other ∷ []); group_count = 2 }) 0
    (record { entries = replicate 64 (entry 0 (type.Buffer Uniform false) 3) })
    (record { contents = replicate 64 (record { binding = buffer (pos 0) }); content_count = 1 })
    (lent [])

-- all queries of a set that counts 2 to the 32 less 1, over an empty run
abbrev all_queries : Call
all_queries = copy_query_results (record { queries = record { run = []; count = 4294967295 }; target = 35976 }) 0 4294967295 vertices 0

abbrev readings : List Case
readings =
    -- "a count above its lent run by 7", whatever the run is for
    records emulated [] (rendering (label_of false 0)) (ResetFramebuffer false ∷ extents ++ SetDrawColorBuffers 0 ∷ [])
    ∷ refused 7 emulated [] (rendering (label_of false 1))
    ∷ records emulated [] (computing (label_of false 0)) []
    ∷ refused 7 emulated [] (computing (label_of false 1))
    -- a dynamic offset is absent where the count has none for it: there, not counted, counted and not lent
    ∷ records emulated (bare_pass ∷ []) (dynamic (64 ∷ []) 1) (BindBuffer 35345 3 6 (pos 64) (pos 16) ∷ [])
    ∷ refused 4 emulated (bare_pass ∷ []) (dynamic (64 ∷ []) 0)
    ∷ refused 7 emulated (bare_pass ∷ []) (dynamic [] 1)
    -- 65 entries of a group without a record, and of one with
    ∷ records emulated (bare_pass ∷ []) (beside (record { present = false; entry_count = 65 })) (BindBuffer 35345 3 6 (pos 0) (pos 16) ∷ [])
    ∷ refused 2 emulated (bare_pass ∷ []) (beside (shape 65))
    -- the end of a label's bytes: 2 to the 32, and 1 less; of no label it is not needed
    ∷ refused 6 emulated [] (rendering (label_of true 4294967296))
    ∷ refused 7 emulated [] (rendering (label_of true 4294967295))
    ∷ refused 7 emulated [] (rendering (label_of false 4294967296))
    ∷ refused 6 emulated [] (computing (label_of true 4294967296))
    ∷ refused 7 emulated [] (computing (label_of true 4294967295))
    -- the end of the queries: 2 to the 32 where one is used before, and 1 less
    ∷ refused 6 emulated (copy_query_results two_queries 0 1 vertices 0 ∷ []) all_queries
    ∷ refused 7 emulated [] all_queries
    -- buffer number 0: recorded in a bind group, absent as a vertex buffer
    ∷ records emulated (bare_pass ∷ []) (bind_one (type.Buffer Uniform false) 3 (content.Buffer 0 (pos 0) (pos 16))) (BindBuffer 35345 3 0 (pos 0) (pos 16) ∷ [])
    ∷ refused 4 emulated (bare_pass ∷ []) (set_vertex_buffer 0 0 16)
    ∷ []

pub all-readings : map seen readings ≡ map said readings
unfolding all_accepted record_calls fed outcome_of smallest some? bad_units among twice test_bit bit_at set_bit without mask_of places_from mask_by tabulate of_bits
    buffer_commands attribute_commands sent_of sampler_commands zipped group_commands group_state textures_named samplers_named offsets_used group_over
    begin_render_commands attach_colors resolves_from invalidations clear_colors
all-readings = refl

-- a handed-in state in a render pass with so many marker bytes used, and one descriptor of four bytes, sent or not
abbrev used : Bool → ℕ → State
used sent bytes =
    with_progress (record { phase = Render; commands = 0; bytes = bytes; queries = 0 })
    (with_immediates (record { descs = described 0 4 ∷ replicate 191 start_immediate; count = 1; words = start_immediates.words; sent = sent }) start_state)

abbrev answer : Bool → ℕ → ℕ
answer sent bytes = number (outcome_of rooms (used sent bytes) (meaning emulated (used sent bytes) (set_immediates 0 (lent []))))

-- the end of a descriptor's bytes: 2 to the 32, and 1 less, which is still above the limit of the marker bytes; and within it; a descriptor that is not sent again has no end
pub marker-end : (answer false (2 ^ 32 - 4) ≡ 6) × (answer false (2 ^ 32 - 5) ≡ 7) × (answer false 65532 ≡ 0) × (answer true (2 ^ 32 - 4) ≡ 7)
unfolding outcome_of smallest some? bad_units among twice test_bit bytes_of filter immediate_commands immediate_bytes immediates_over
marker-end = (refl, refl, refl, refl)
