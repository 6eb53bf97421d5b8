-- The working instance that each slot was last bound with, after some calls, by computation: document 02, request 5. Assumes nothing.
use Rattle.std.specs.Prelude.{ℕ, ◌≡◌, refl, List, [], ◌∷◌, ◌++◌, map, replicate}
use Rattle.mask.specs.Mask.{test_bit, bit_at, set_bit, without, mask_of, places_from}
use Rattle.mask.specs.By.{mask_by}
use Rattle.tables.specs.Tabulate.{tabulate}
use Rattle.records.specs.Check.{some?, bad_units, among, twice, broken_limits}
use Rattle.records.specs.Outcome.{smallest}
use Rattle.records.specs.Start.{start_state}
use Rattle.records.specs.declared.pipeline.PrivateCapabilities.{PrivateCapabilities}
use Rattle.records.specs.declared.pipeline.RenderPipeline.{RenderPipeline}
use Rattle.records.specs.declared.state.State.{State}
use Rattle.slots.specs.Vertex.{stepped}
use Rattle.slots.specs.Prepare.{buffer_commands, attribute_commands, sent_of}
use Rattle.bindings.specs.Units.{sampler_commands}
use Rattle.pipeline.specs.Inner.{changed_units}
use Rattle.pipeline.specs.Fixed.{same_targets}
use Rattle.pass.specs.Render.{begin_render_commands, attach_colors, resolves_from, invalidations, clear_colors}
use Rattle.calls.specs.Call.{Call, begin_encoding, end_encoding, end_render_pass, set_render_pipeline, set_vertex_buffer, draw_indirect}
use Rattle.calls.specs.Draws.{indirect_commands}
use Rattle.calls.specs.Parts.{with_vertex}
use Rattle.calls.specs.Step.{outcome_of}
use Rattle.book.specs.Run.{record_calls, begun}
use Rattle.cases.specs.Samples.{emulated, full, bare, rooms, by_vertex, by_instance, attribute, pipeline, A, B, fetching, bare_pass, draw_at}
use Rattle.cases.specs.Cases.{with}
use Rattle.cases.specs.EdgeSamples.{stepping, last_slot}

-- a handed-in state may have any numbers: the check does not look at them
any-numbers : (ns : List ℕ) (s : State) → broken_limits (with_vertex (stepped s.vertex s.vertex.dirty_vbuf_mask ns) s) ≡ broken_limits s
any-numbers ns s = refl

pub record Row : Type 0 where
  pub board : PrivateCapabilities
  pub calls : List Call
  pub numbers : List ℕ

abbrev pub seen : Row → List ℕ
seen r = (record_calls r.board rooms (begun r.board rooms start_state) r.calls).state.vertex.instances

abbrev on : PrivateCapabilities → List Call → List ℕ → Row
on b cs ns = record { board = b; calls = cs; numbers = ns }

abbrev none_bound : List ℕ
none_bound = replicate 16 0

-- slot 0 alone was bound, with that number
abbrev slot_0 : ℕ → List ℕ
slot_0 n = n ∷ replicate 15 0

-- slots 0 and 1 by instance, and an attribute of slot 1 alone
abbrev second_alone : RenderPipeline
second_alone = pipeline 1 (by_instance 8 ∷ by_instance 8 ∷ []) (attribute 0 0 1 ∷ [])

abbrev rows : List Row
rows =
    -- a bound slot remembers, by instance and by vertex, the last slot too; a vertex buffer that is set leaves the number
    on emulated (with A ++ draw_at 5 ∷ []) (slot_0 5)
    ∷ on emulated (with (stepping (by_vertex 8)) ++ draw_at 5 ∷ []) (slot_0 5)
    ∷ on emulated (bare_pass ∷ set_render_pipeline last_slot ∷ set_vertex_buffer 15 7 16 ∷ draw_at 5 ∷ []) (replicate 15 0 ++ 5 ∷ [])
    ∷ on emulated (with A ++ draw_at 5 ∷ set_vertex_buffer 0 7 32 ∷ []) (slot_0 5)
    ∷ on emulated (with A ++ draw_at 5 ∷ draw_indirect 7 4 0 ∷ []) none_bound
    -- a slot that is passed by, or not bound, or whose draw is refused, does not
    ∷ on emulated (with A ++ draw_at 0 ∷ set_render_pipeline B ∷ draw_at 5 ∷ []) none_bound
    ∷ on emulated (bare_pass ∷ set_render_pipeline A ∷ draw_at 5 ∷ []) none_bound
    ∷ on emulated (with (stepping (by_instance 65536)) ++ draw_at 65536 ∷ []) none_bound
    -- A at 0, B at 5, A at 5; and a slot of A that B's draw binds
    ∷ on emulated (with A ++ draw_at 0 ∷ set_render_pipeline B ∷ draw_at 5 ∷ set_render_pipeline A ∷ draw_at 5 ∷ []) (slot_0 5)
    ∷ on emulated (with A ++ set_render_pipeline B ∷ draw_at 5 ∷ []) (slot_0 5)
    -- a pass's end sets all back, and so does a new list
    ∷ on emulated (with A ++ draw_at 5 ∷ end_render_pass ∷ []) none_bound
    ∷ on emulated (with A ++ draw_at 5 ∷ end_render_pass ∷ end_encoding ∷ begin_encoding ∷ []) none_bound
    -- without layout the slots of which an attribute is set; with full instancing none
    ∷ on bare (with (fetching 4) ++ draw_at 5 ∷ []) (slot_0 5)
    ∷ on bare (bare_pass ∷ set_render_pipeline second_alone ∷ set_vertex_buffer 0 7 0 ∷ set_vertex_buffer 1 7 0 ∷ draw_at 5 ∷ []) (0 ∷ 5 ∷ replicate 14 0)
    ∷ on full (with A ++ draw_at 5 ∷ []) none_bound
    ∷ []

pub all-numbers : map seen rows ≡ map (λ (r : Row). r.numbers) rows
unfolding record_calls outcome_of smallest some? bad_units among twice test_bit bit_at set_bit without mask_of places_from mask_by tabulate buffer_commands
    attribute_commands sent_of sampler_commands changed_units same_targets begin_render_commands attach_colors resolves_from invalidations clear_colors indirect_commands
all-numbers = refl
