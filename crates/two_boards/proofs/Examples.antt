-- The premises of `two-boards` hold together, of a draw that fetches by instance, with minus zero and a NaN among the blend constants; and three of them
-- are needed: that both boards emulate instancing or both do not, that no draw follows the first pass, and that a float is like itself.
-- Worked out by computation. Assumes nothing.
use Prim.Native.Nat.{ℕ, zero, suc, ◌<◌}
use mathlib.Core.Path.{◌≡◌, refl, sym, ap, ◌∙◌, subst}
use mathlib.Core.Bool.{Bool, true, false, cond}
use mathlib.Core.List.{List, [], ◌∷◌}
use Rattle.std.specs.Prelude.{Option, None, Some}
use native.Mathlib.Omega.{arith}
use lib.Ieee.{binary32, to_bits, of_bits, eq}
use lib.IntN.{pos}
use lib.ListN.{get_or, replicate}
use borrow.Author.Tests.{le-ltb}
use Rattle.tables.specs.Tabulate.{tabulate, upd}
use Rattle.mask.specs.Mask.{test_bit, bit_at, set_bit, without, mask_of, places_from}
use Rattle.mask.specs.By.{mask_by}
use Rattle.numbers.specs.Convert.{bits32}
use Rattle.names.specs.declared.wgt.FrontFace.TheVariants.{Ccw}
use Rattle.names.specs.declared.wgt.CullMode.TheVariants as cull
use Rattle.names.specs.declared.wgt.PolygonMode.TheVariants.{Fill}
use Rattle.names.specs.declared.wgt.PrimitiveTopology.TheVariants.{TriangleList}
use Rattle.records.specs.Check.{some?, bad_units, among, twice}
use Rattle.records.specs.Outcome.{smallest}
use Rattle.records.specs.Start.{start_attribute, start_depth_bias, start_immediate, start_state, start_target}
use Rattle.records.specs.declared.check.Rooms.{Rooms}
use Rattle.records.specs.declared.command.BufferBinding.{BufferBinding}
use Rattle.records.specs.declared.command.ColorF32.{ColorF32}
use Rattle.records.specs.declared.command.VertexAttribKind.TheVariants.{Float}
use Rattle.records.specs.declared.command.VertexStepMode.TheVariants.{Instance}
use Rattle.records.specs.declared.pass.RenderPassDescriptor.{RenderPassDescriptor}
use Rattle.records.specs.declared.pipeline.PrivateCapabilities.{PrivateCapabilities}
use Rattle.records.specs.declared.pipeline.RenderPipeline.{RenderPipeline}
use Rattle.slots.specs.Prepare.{buffer_commands, sent_of, attribute_commands}
use Rattle.bindings.specs.Units.{sampler_commands}
use Rattle.pipeline.specs.Inner.{no_bind, changed_units}
use Rattle.pipeline.specs.Vertex.{no_layout}
use Rattle.pipeline.specs.Fixed.{same_targets}
use Rattle.pass.specs.Marks.{Lent}
use Rattle.pass.specs.Render.{no_place, attach_colors, resolves_from, invalidations, clear_colors, begin_render_commands}
use Rattle.calls.specs.Call.{Call, begin_encoding, begin_render_pass, end_render_pass, set_render_pipeline, set_vertex_buffer, set_blend_constants, draw}
use Rattle.calls.specs.Step.{outcome_of}
use Rattle.machine.proofs.Lists.{false-true}
use Rattle.lists.specs.Limits.{Handed}
use Rattle.lists.specs.Shots.{shots_from}
use Rattle.book.specs.Book.{Fed, empty, given, describes, known}
use Rattle.book.specs.Run.{carried, record_calls, fed, Premises, begun}
use Rattle.boards.specs.declared.compare.Compared.TheVariants.{Equal, Differs}
use Rattle.boards.specs.Alike.{same_bits, all_below}
use Rattle.boards.specs.Compared.{first_off, compared}
use Rattle.recorded.specs.Recorded.{recorded_of}
use Rattle.two_boards.specs.Late.{late_draws}
use Rattle.two_boards.proofs.Theorem.{two-boards-by-bits}

-- with layout or without, with instancing or emulating it
abbrev board : Bool → Bool → PrivateCapabilities
board layouts instancing =
    record {
      memory_barriers = false;
      vertex_buffer_layout = layouts;
      fully_featured_instancing = instancing;
      multisampled_render_to_texture = false;
    }

abbrev rooms : Rooms
rooms = record { commands = 4096; bytes = 65536; queries = 1024 }

abbrev lent_none : Lent
lent_none = record { run = []; count = 0 }

-- a pass of 4 by 3 without places
abbrev plain_pass : RenderPassDescriptor
plain_pass =
    record {
      extent = record { width = 4; height = 3; depth_or_array_layers = 1 };
      sample_count = 1;
      color_attachments = replicate 8 no_place;
      color_attachment_count = 0;
      depth_stencil_attachment = None;
      timestamp_writes = None;
    }

-- location 1 is fetched from slot 0, which steps 8 bytes by instance
abbrev pipeline : RenderPipeline
pipeline =
    record {
      inner =
          record {
            program = 9;
            sampler_map = replicate 16 no_bind;
            first_instance_location = None;
            immediates_descs = replicate 192 start_immediate;
            immediates_count = 0;
            clip_distance_count = 0;
          };
      topology = TriangleList;
      primitive = record { front_face = Ccw; cull_mode = cull.None; unclipped_depth = false; polygon_mode = Fill };
      vertex_buffers = record { desc = Some (record { step = Instance; stride = 8 }) } ∷ replicate 15 no_layout;
      vertex_buffer_count = 1;
      vertex_attributes =
          record { location = 1; offset = 4; buffer_index = 0; format_desc = record { element_count = pos 2; element_format = 5126; attrib_kind = Float } }
          ∷ replicate 15 start_attribute;
      vertex_attribute_count = 1;
      color_targets = replicate 8 start_target;
      color_target_count = 0;
      depth = None;
      depth_bias = start_depth_bias;
      stencil = None;
      alpha_to_coverage_enabled = false;
    }

-- minus zero, a NaN, zero and one
abbrev constants : ColorF32
constants = record { r = of_bits binary32 0x8000_0000; g = of_bits binary32 0x7fc0_0000; b = of_bits binary32 0; a = of_bits binary32 0x3f80_0000 }

-- buffer 7 from byte 16 on; one triangle, from instance 5 on
abbrev calls : List Call
calls =
    begin_render_pass plain_pass (record { present = false; bytes = lent_none }) lent_none
    ∷ set_vertex_buffer 0 7 16
    ∷ set_render_pipeline pipeline
    ∷ set_blend_constants constants
    ∷ draw 0 3 5 1
    ∷ []

abbrev all_accepted : List Call → List Fed
all_accepted [] = []
all_accepted (c ∷ cs) = record { call = c; accepted = true } ∷ all_accepted cs

abbrev recorded : PrivateCapabilities → List Call → Handed
recorded caps calls = recorded_of rooms (record_calls caps rooms (begun caps rooms start_state) calls)

-- ---- the premises, on a board with layout and on one without that both emulate instancing
begins : (layouts instancing : Bool) → carried (board layouts instancing) rooms start_state begin_encoding ≡ true
unfolding outcome_of smallest some? bad_units twice test_bit
begins layouts instancing = refl

accepts : (layouts instancing : Bool) → fed (board layouts instancing) rooms (begun (board layouts instancing) rooms start_state).state calls ≡ all_accepted calls
unfolding fed outcome_of smallest some? bad_units among twice tabulate test_bit bit_at set_bit without mask_of places_from mask_by
    buffer_commands sent_of attribute_commands sampler_commands changed_units same_targets begin_render_commands attach_colors clear_colors resolves_from invalidations
accepts true true = refl
accepts true false = refl
accepts false true = refl
accepts false false = refl

-- the pipeline describes slot 0 alone
bound : (f : ℕ → Option BufferBinding) (x : BufferBinding) (i : ℕ) → i < 16 → known (describes pipeline i) ≡ true → known (upd f 0 (Some x) i) ≡ true
bound f x zero l h = refl
bound f x (suc i) l h =
    false-true (sym (ap (λ (t : Bool). known (cond t (given (get_or pipeline.vertex_buffers (suc i) no_layout).desc) None)) (le-ltb (suc i) 1 (omega arith))) ∙ h)

premises : (layouts instancing : Bool) → Premises (board layouts instancing) empty (all_accepted calls)
unfolding Premises
premises layouts instancing = ((λ e. tt), ((λ e. tt), ((λ e. tt), ((λ e. tt), ((λ e st. record { pipeline = pipeline; is = refl; bound = bound _ _ }), tt)))))

in-first : (layouts instancing : Bool) → late_draws (board layouts instancing) empty false (all_accepted calls) ≡ false
unfolding late_draws
in-first layouts instancing = refl

-- so the theorem says something of them
equal-here : compared same_bits (recorded (board true false) calls) (recorded (board false false) calls) ≡ Equal
equal-here =
    let a = accepts true false in
    let b = accepts false false in
    two-boards-by-bits (board true false) (board false false) refl refl rooms rooms start_state start_state calls (begins true false) (begins false false)
    (a ∙ sym b) (subst (Premises (board true false) empty) (sym a) (premises true false)) (ap (late_draws (board true false) empty false) a ∙ in-first true false)

-- ---- the premise on instancing is needed: all others hold of these two, and draw 0 fetches from byte 20 on the one board and from byte 60 on the other
others-hold : fed (board true true) rooms (begun (board true true) rooms start_state).state calls ≡ fed (board false false) rooms (begun (board false false) rooms start_state).state calls
others-hold = accepts true true ∙ sym (accepts false false)

differs-here : compared same_bits (recorded (board true true) calls) (recorded (board false false) calls) ≡ Differs 0
unfolding record_calls shots_from first_off all_below bits32 to_bits of_bits outcome_of smallest some? bad_units among twice tabulate test_bit bit_at set_bit without mask_of places_from mask_by
    buffer_commands sent_of attribute_commands sampler_commands changed_units same_targets begin_render_commands attach_colors clear_colors resolves_from invalidations
differs-here = refl

-- ---- that a float is like itself is needed: by IEEE 754's `=` the NaN differs, on these two boards
not-by-equality : compared eq (recorded (board true false) calls) (recorded (board false false) calls) ≡ Differs 0
unfolding record_calls shots_from first_off all_below eq of_bits outcome_of smallest some? bad_units among twice tabulate test_bit bit_at set_bit without mask_of places_from mask_by
    buffer_commands sent_of attribute_commands sampler_commands changed_units same_targets begin_render_commands attach_colors clear_colors resolves_from invalidations
not-by-equality = refl

-- ---- and so is that on the draws: a second pass, whose draw follows a buffer that was set after the first pass's draw. A pass's end leaves no slot dirty
abbrev passes : List Call
passes =
    begin_render_pass plain_pass (record { present = false; bytes = lent_none }) lent_none
    ∷ set_vertex_buffer 0 7 16
    ∷ set_render_pipeline pipeline
    ∷ draw 0 3 0 1
    ∷ set_vertex_buffer 0 8 16
    ∷ end_render_pass
    ∷ begin_render_pass plain_pass (record { present = false; bytes = lent_none }) lent_none
    ∷ set_render_pipeline pipeline
    ∷ draw 0 3 0 1
    ∷ []

passes-accepted : (layouts : Bool) → fed (board layouts false) rooms (begun (board layouts false) rooms start_state).state passes ≡ all_accepted passes
unfolding fed outcome_of smallest some? bad_units among twice tabulate test_bit bit_at set_bit without mask_of places_from mask_by
    buffer_commands sent_of attribute_commands sampler_commands changed_units same_targets begin_render_commands attach_colors clear_colors resolves_from invalidations
passes-accepted true = refl
passes-accepted false = refl

passes-ready : Premises (board true false) empty (all_accepted passes)
unfolding Premises
passes-ready = (
  (λ e. tt),
  (
    (λ e. tt),
    (
      (λ e. tt),
      (
        (λ e st. record { pipeline = pipeline; is = refl; bound = bound _ _ }),
        ((λ e. tt), ((λ e. tt), ((λ e. tt), ((λ e. tt), ((λ e st. record { pipeline = pipeline; is = refl; bound = bound _ _ }), tt))))),
      ),
    ),
  ),
)

passes-late : late_draws (board true false) empty false (all_accepted passes) ≡ true
unfolding late_draws
passes-late = refl

passes-differ : compared same_bits (recorded (board true false) passes) (recorded (board false false) passes) ≡ Differs 1
unfolding record_calls shots_from first_off all_below bits32 to_bits of_bits outcome_of smallest some? bad_units among twice tabulate test_bit bit_at set_bit without mask_of places_from mask_by
    buffer_commands sent_of attribute_commands sampler_commands changed_units same_targets begin_render_commands attach_colors clear_colors resolves_from invalidations
passes-differ = refl
