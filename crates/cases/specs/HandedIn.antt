-- States that are handed in and states that a run leaves: the premises of `OwnRefusalOfRun` and `RestOfRun` (order/specs/Claim.antt) are needed, and each has a list to speak of. Assumes nothing.
use Rattle.std.specs.Prelude.{ℕ, ◌≡◌, refl, List, [], ◌∷◌, ◌++◌, replicate}
use Rattle.mask.specs.Mask.{test_bit, bit_at, set_bit, without, mask_of, places_from}
use Rattle.mask.specs.By.{mask_by}
use Rattle.tables.specs.Tabulate.{tabulate}
use Rattle.records.specs.Check.{some?, bad_units, among, twice}
use Rattle.records.specs.Outcome.{number, smallest}
use Rattle.records.specs.Start.{start_state}
use Rattle.records.specs.declared.state.Phase.{Phase}
use Rattle.records.specs.declared.state.Phase.TheVariants.{Render, Compute}
use Rattle.records.specs.declared.state.State.{State}
use Rattle.records.specs.declared.state.VertexState.{VertexState}
use Rattle.slots.specs.Vertex.{stepped}
use Rattle.slots.specs.Prepare.{buffer_commands}
use Rattle.bindings.specs.Units.{sampler_commands}
use Rattle.pipeline.specs.Inner.{changed_units}
use Rattle.pipeline.specs.Fixed.{same_targets}
use Rattle.pass.specs.Render.{begin_render_commands, attach_colors, resolves_from, invalidations, clear_colors}
use Rattle.calls.specs.Call.{Call, end_render_pass, end_compute_pass, set_vertex_buffer}
use Rattle.calls.specs.Parts.{with_progress, with_vertex}
use Rattle.calls.specs.Step.{outcome_of, step}
use Rattle.book.specs.Run.{record_calls, begun}
use Rattle.cases.specs.Samples.{emulated, rooms, A, bare_pass, draw_at}
use Rattle.cases.specs.Cases.{with}

abbrev after : List Call → State
after calls = (record_calls emulated rooms (begun emulated rooms start_state) calls).state

-- the starting state in another phase, with other slots
abbrev handed : Phase → VertexState → State
handed p v = with_progress (record { phase = p; commands = 0; bytes = 0; queries = 0 }) (with_vertex v start_state)

-- ---- the slots' numbers
abbrev five : List ℕ
five = 5 ∷ replicate 15 0

-- inside of a render pass slot 0 has the number of its draw, outside none has one
pub numbers : ((after (with A ++ draw_at 5 ∷ [])).vertex.instances ≡ five) × ((after (with A ++ draw_at 5 ∷ end_render_pass ∷ [])).vertex.instances ≡ replicate 16 0)
unfolding record_calls outcome_of smallest some? bad_units among twice test_bit bit_at set_bit without mask_of places_from mask_by tabulate buffer_commands sampler_commands changed_units same_targets
    begin_render_commands attach_colors resolves_from invalidations clear_colors
numbers = (refl, refl)

-- a state of a compute pass with a number, which no run leaves, keeps it at the pass's end (D88)
pub kept-number : (step emulated rooms (handed Compute (stepped start_state.vertex 0 five)) end_compute_pass).state.vertex.instances ≡ five
unfolding outcome_of smallest some? bad_units among twice test_bit
kept-number = refl

-- ---- whose refusal it is
-- seventeen attributes
abbrev crowded : VertexState
crowded =
    record {
      described = 0;
      bound = 0;
      by_instance = 0;
      dirty_vbuf_mask = 0;
      buffers = start_state.vertex.buffers;
      attribute_count = 17;
      instances = replicate 16 0;
      instance_vbuf_mask = 0;
      attributes = start_state.vertex.attributes;
    }

-- slot 16 is refused with 3, for itself, in a run, and with 2 on a state that is handed in with too many attributes
pub refusals : (number (step emulated rooms (after (bare_pass ∷ [])) (set_vertex_buffer 16 7 0)).outcome ≡ 3)
    × (number (step emulated rooms (handed Render crowded) (set_vertex_buffer 16 7 0)).outcome ≡ 2)
unfolding record_calls outcome_of smallest some? bad_units among twice test_bit bit_at set_bit without mask_of places_from mask_by tabulate sampler_commands changed_units same_targets
    begin_render_commands attach_colors resolves_from invalidations clear_colors
refusals = (refl, refl)
