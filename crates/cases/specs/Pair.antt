-- Two different lists under `same-order`, by computation: another pass record, an earlier buffer in slot 0, another pipeline before, a refused call, and a pipeline that differs
-- past a count and in its immediates; the same draw, and the same page at it. Assumes nothing.
use Rattle.std.specs.Prelude.{ℕ, ◌≡◌, refl, Bool, true, false, cond, List, [], ◌∷◌, map, eqb, pos, length, Option, None, Some}
use Rattle.std.proofs.Common.{sym, ap, ◌∙◌, subst}
use Rattle.std.specs.Float.{binary32}
use Rattle.std.specs.Float.Ieee.{of_bits}
use Rattle.mask.specs.Mask.{test_bit, bit_at, set_bit, without, mask_of, places_from}
use Rattle.mask.specs.By.{mask_by}
use Rattle.tables.specs.Tabulate.{tabulate, upd}
use Rattle.numbers.specs.Convert.{clamp_to}
use Rattle.records.specs.Start.{start_attribute, start_state}
use Rattle.records.specs.Outcome.{smallest}
use Rattle.records.specs.Check.{some?, bad_units, among, twice}
use Rattle.records.specs.declared.command.BufferBinding.{BufferBinding}
use Rattle.records.specs.declared.command.Command.{Command}
use Rattle.records.specs.declared.command.DepthRange.{DepthRange}
use Rattle.records.specs.declared.pass.RenderPassDescriptor.{RenderPassDescriptor}
use Rattle.records.specs.declared.pipeline.RenderPipeline.{RenderPipeline}
use Rattle.records.specs.declared.state.IndexFormat.TheVariants.{Uint32}
use Rattle.slots.specs.Prepare.{buffer_commands}
use Rattle.bindings.specs.Units.{sampler_commands}
use Rattle.pipeline.specs.Inner.{changed_units}
use Rattle.pipeline.specs.Fixed.{same_targets}
use Rattle.pass.specs.Render.{no_place, begin_render_commands, attach_colors, resolves_from, invalidations, clear_colors}
use Rattle.calls.specs.Call.{Call, begin_render_pass, set_render_pipeline, set_vertex_buffer, set_viewport, set_scissor_rect}
use Rattle.calls.specs.Step.{outcome_of}
use Rattle.book.specs.Book.{Fed, empty}
use Rattle.cases.specs.Worked.{ready-1, ◌⨾◌}
use Rattle.book.specs.Run.{record_calls, fed, Premises, begun}
use Rattle.book.specs.Pages.{Page, trimmed, note_calls, draw_calls, calls_of, pages_of}
use Rattle.book.specs.FirstPass.{found, shots, entries}
use Rattle.order.proofs.Same.{same-order}
use Rattle.cases.specs.Samples.{emulated, rooms, padded, no_label, no_queries, inner_of, attribute, fetching, bare_pass, draw_at, rect}

abbrev whole_depth : DepthRange
whole_depth = record { start = of_bits binary32 0; end = of_bits binary32 0x3f80_0000 }

-- 8 by 6, without attachments
abbrev wide : RenderPassDescriptor
wide =
    record {
      extent = record { width = 8; height = 6; depth_or_array_layers = 1 };
      sample_count = 1;
      color_attachments = padded 8 no_place [];
      color_attachment_count = 0;
      depth_stencil_attachment = None;
      timestamp_writes = None;
    }

-- viewport and scissor of the narrow pass
abbrev narrow_viewport : Call
narrow_viewport = set_viewport (record { x = of_bits binary32 0; y = of_bits binary32 0; w = of_bits binary32 0x4080_0000; h = of_bits binary32 0x4040_0000 }) whole_depth

abbrev narrow_scissor : Call
narrow_scissor = set_scissor_rect (record { x = 0; y = 0; w = 4; h = 3 })

-- the pipeline `fetching 0` with an attribute past its count and an immediate
abbrev strewn : RenderPipeline
strewn =
    record {
      inner = inner_of 1 [] (record { location = 7; ty = 5126; offset = 0; size_bytes = 4 } ∷ []);
      topology = (fetching 0).topology;
      primitive = (fetching 0).primitive;
      vertex_buffers = (fetching 0).vertex_buffers;
      vertex_buffer_count = 1;
      vertex_attributes = padded 16 start_attribute (attribute 0 0 0 ∷ attribute 3 8 0 ∷ []);
      vertex_attribute_count = 1;
      color_targets = (fetching 0).color_targets;
      color_target_count = 0;
      depth = (fetching 0).depth;
      depth_bias = (fetching 0).depth_bias;
      stencil = (fetching 0).stencil;
      alpha_to_coverage_enabled = false;
    }

abbrev done : Call → Fed
done c = record { call = c; accepted = true }

-- the calls, and what the books are fed of them
abbrev short_fed : List Fed
short_fed = done bare_pass ∷ done (set_render_pipeline (fetching 0)) ∷ done (set_vertex_buffer 0 7 16) ∷ done (draw_at 5) ∷ []

-- buffer 6 is that of an earlier wall; slot 16 is refused
abbrev long_fed : List Fed
long_fed =
    done (begin_render_pass wide no_label no_queries)
    ∷ done (set_render_pipeline (fetching 4))
    ∷ done (set_vertex_buffer 0 6 0)
    ∷ record { call = set_vertex_buffer 16 7 16; accepted = false }
    ∷ done narrow_viewport
    ∷ done narrow_scissor
    ∷ done (set_render_pipeline strewn)
    ∷ done (set_vertex_buffer 0 7 16)
    ∷ done (draw_at 5)
    ∷ []

abbrev calls_in : List Fed → List Call
calls_in fs = map (λ (f : Fed). f.call) fs

abbrev short : List Call
short = calls_in short_fed

abbrev long : List Call
long = calls_in long_fed

abbrev fed_of : List Call → List Fed
fed_of calls = fed emulated rooms (begun emulated rooms start_state).state calls

abbrev list_of : List Call → List Command
list_of calls = (record_calls emulated rooms (begun emulated rooms start_state) calls).list

-- the lists differ: 10 commands, and 15
lengths : (length (list_of short) ≡ 10) × (length (list_of long) ≡ 15)
unfolding record_calls outcome_of smallest some? bad_units among twice test_bit bit_at set_bit without mask_of places_from mask_by tabulate clamp_to of_bits
    buffer_commands sampler_commands changed_units same_targets begin_render_commands attach_colors resolves_from invalidations clear_colors
lengths = (refl, refl)

fed-are : (fed_of short ≡ short_fed) × (fed_of long ≡ long_fed)
unfolding fed outcome_of smallest some? bad_units among twice test_bit bit_at set_bit without mask_of places_from mask_by tabulate
    buffer_commands sampler_commands changed_units same_targets begin_render_commands attach_colors resolves_from invalidations clear_colors
fed-are = (refl, refl)

-- ---- the premises
short-premises : Premises emulated empty short_fed
unfolding Premises
short-premises = (λ a. tt) ⨾ (λ a. tt) ⨾ (λ a. tt) ⨾ (λ a st. ready-1 (fetching 0) refl refl refl) ⨾ tt

long-premises : Premises emulated empty long_fed
unfolding Premises
long-premises =
    (λ a. tt) ⨾ (λ a. tt) ⨾ (λ a. tt) ⨾ (λ a. tt) ⨾ (λ a. tt) ⨾ (λ a. tt) ⨾ (λ a. tt) ⨾ (λ a. tt) ⨾ (λ a st. ready-1 strewn refl refl refl) ⨾ tt

-- ---- the draw call and its page
same-calls : calls_of (draw_calls emulated short_fed) ≡ calls_of (draw_calls emulated long_fed)
unfolding note_calls
same-calls = refl

abbrev binding : ℕ → ℕ → Option BufferBinding
binding raw offset = Some (record { raw = raw; offset = offset })

-- what slot 0 held before is gone
rebound : (i : ℕ) → upd (λ k. None) 0 (binding 7 16) i ≡ upd (upd (λ k. None) 0 (binding 6 0)) 0 (binding 7 16) i
rebound i = go (eqb i 0)
  where
    go : (t : Bool) → cond t (binding 7 16) None ≡ cond t (binding 7 16) (cond t (binding 6 0) None)
    go true = refl
    go false = refl

same-pages : pages_of (draw_calls emulated short_fed) ≡ pages_of (draw_calls emulated long_fed)
unfolding note_calls clamp_to of_bits
same-pages =
    λ j.
    record {
      pipeline = Some (trimmed (fetching 0));
      reference = None;
      buffer = λ i. rebound i j;
      index = None;
      format = Uint32;
      offset = 0;
      bound = empty.bound;
      viewport = Some (record { rect = rect (pos 0) (pos 0) (pos 4) (pos 3); depth = whole_depth });
      scissor = Some (rect (pos 0) (pos 0) (pos 4) (pos 3));
      blend = empty.blend;
    }
    ∷ []

-- so no draw differs
pub no-draw-differs : (length (shots emulated rooms start_state short) ≡ length (shots emulated rooms start_state long))
    × (found (entries emulated rooms start_state short) (shots emulated rooms start_state short) ≡ found (entries emulated rooms start_state long) (shots emulated rooms start_state long))
unfolding outcome_of smallest some? bad_units among twice test_bit
no-draw-differs =
    same-order emulated rooms rooms start_state start_state short long refl (premised fed-are.0 short-premises) refl (premised fed-are.1 long-premises)
    (ap calls fed-are.0 ∙ same-calls ∙ sym (ap calls fed-are.1)) (ap pages fed-are.0 ∙ same-pages ∙ sym (ap pages fed-are.1))
  where
    premised : {fs gs : List Fed} → fs ≡ gs → Premises emulated empty gs → Premises emulated empty fs
    premised e P = subst (Premises emulated empty) (sym e) P

    calls : List Fed → List Call
    calls fs = calls_of (draw_calls emulated fs)

    pages : List Fed → List Page
    pages fs = pages_of (draw_calls emulated fs)
