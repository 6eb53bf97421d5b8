-- Demand 3's second sentence: the accepted draw calls of the first render pass, and the book at each of them. Definitions only.
use Rattle.std.specs.Prelude.{ℕ, cond, List, [], ◌∷◌, map, take, Option, None, Some}
use Rattle.records.specs.declared.command.BufferBinding.{BufferBinding}
use Rattle.records.specs.declared.command.ColorF32.{ColorF32}
use Rattle.records.specs.declared.command.RectI32.{RectI32}
use Rattle.records.specs.declared.pipeline.PrivateCapabilities.{PrivateCapabilities}
use Rattle.records.specs.declared.pipeline.RenderPipeline.{RenderPipeline}
use Rattle.records.specs.declared.state.IndexFormat.{IndexFormat}
use Rattle.calls.specs.Call.{Call, begin_encoding, end_encoding, begin_render_pass, end_render_pass, begin_compute_pass, end_compute_pass, transition_buffers, transition_textures, clear_buffer, copy_buffer_to_buffer, copy_query_results, begin_query, end_query, write_timestamp, reset_queries, set_bind_group, set_immediates, set_render_pipeline, set_compute_pipeline, set_index_buffer, set_vertex_buffer, set_viewport, set_scissor_rect, set_stencil_reference, set_blend_constants, draw, draw_indexed, draw_indirect, draw_indexed_indirect, dispatch_workgroups, dispatch_workgroups_indirect}
use Rattle.machine.specs.View.{Viewport}
use Rattle.book.specs.Book.{References, Bound, Book, empty, in_first, Fed, enter_fed}

-- every entry of the book
pub record Page : Type 0 where
  pub pipeline : Option RenderPipeline
  pub reference : Option References
  pub buffer : ℕ → Option BufferBinding
  pub index : Option ℕ
  pub format : IndexFormat
  pub offset : ℕ
  pub bound : Bound
  pub viewport : Option Viewport
  pub scissor : Option RectI32
  pub blend : ColorF32

abbrev pub page_of : Book → Page
page_of b =
    record {
      pipeline = b.pipeline;
      reference = b.reference;
      buffer = b.buffer;
      index = b.index;
      format = b.format;
      offset = b.offset;
      bound = b.bound;
      viewport = b.viewport;
      scissor = b.scissor;
      blend = b.blend;
    }

-- a draw call, and the book at it
pub record DrawCall : Type 0 where
  pub call : Call
  pub page : Page

-- an accepted draw call of the first render pass is noted; a new list begins anew
abbrev pub note_call : Book → List DrawCall → Call → List DrawCall
note_call b ds begin_encoding = []
note_call b ds end_encoding = ds
note_call b ds end_render_pass = ds
note_call b ds end_compute_pass = ds
note_call b ds (begin_render_pass d label set) = ds
note_call b ds (begin_compute_pass t label set) = ds
note_call b ds (transition_buffers l) = ds
note_call b ds (transition_textures l) = ds
note_call b ds (clear_buffer x range) = ds
note_call b ds (copy_buffer_to_buffer src dst l) = ds
note_call b ds (copy_query_results set start end dst offset) = ds
note_call b ds (begin_query set i) = ds
note_call b ds (end_query set i) = ds
note_call b ds (write_timestamp set i) = ds
note_call b ds (reset_queries set start end) = ds
note_call b ds (set_bind_group l i e g os) = ds
note_call b ds (set_immediates offset ws) = ds
note_call b ds (set_render_pipeline p) = ds
note_call b ds (set_compute_pipeline p) = ds
note_call b ds (set_index_buffer raw offset format) = ds
note_call b ds (set_vertex_buffer i raw offset) = ds
note_call b ds (set_viewport r d) = ds
note_call b ds (set_scissor_rect r) = ds
note_call b ds (set_stencil_reference v) = ds
note_call b ds (set_blend_constants c) = ds
note_call b ds (draw vertex vertices instance instances) = in_first b.stage (record { call = draw vertex vertices instance instances; page = page_of b } ∷ []) ds
note_call b ds (draw_indexed fst count base instance instances) = in_first b.stage (record { call = draw_indexed fst count base instance instances; page = page_of b } ∷ []) ds
note_call b ds (draw_indirect raw offset n) = in_first b.stage (record { call = draw_indirect raw offset n; page = page_of b } ∷ []) ds
note_call b ds (draw_indexed_indirect raw offset n) = in_first b.stage (record { call = draw_indexed_indirect raw offset n; page = page_of b } ∷ []) ds
note_call b ds (dispatch_workgroups x y z) = ds
note_call b ds (dispatch_workgroups_indirect raw offset) = ds

-- what is noted of all calls, each with whether it was accepted
unfoldable pub note_calls : PrivateCapabilities → Book → List DrawCall → List Fed → List DrawCall
note_calls caps b ds [] = ds
note_calls caps b ds (f ∷ fs) = note_calls caps (enter_fed caps b f) (cond f.accepted (note_call b ds f.call) ds) fs

abbrev pub draw_calls : PrivateCapabilities → List Fed → List DrawCall
draw_calls caps fs = note_calls caps empty [] fs

-- ---- when two pages agree
-- what a pipeline says: the places up to its counts, and no immediates, which demand 3 leaves aside
abbrev pub trimmed : RenderPipeline → RenderPipeline
trimmed p =
    record {
      inner =
          record {
            program = p.inner.program;
            sampler_map = p.inner.sampler_map;
            first_instance_location = p.inner.first_instance_location;
            immediates_descs = [];
            immediates_count = 0;
            clip_distance_count = p.inner.clip_distance_count;
          };
      topology = p.topology;
      primitive = p.primitive;
      vertex_buffers = take p.vertex_buffer_count p.vertex_buffers;
      vertex_buffer_count = p.vertex_buffer_count;
      vertex_attributes = take p.vertex_attribute_count p.vertex_attributes;
      vertex_attribute_count = p.vertex_attribute_count;
      color_targets = take p.color_target_count p.color_targets;
      color_target_count = p.color_target_count;
      depth = p.depth;
      depth_bias = p.depth_bias;
      stencil = p.stencil;
      alpha_to_coverage_enabled = p.alpha_to_coverage_enabled;
    }

abbrev pub trimmed_if : Option RenderPipeline → Option RenderPipeline
trimmed_if None = None
trimmed_if (Some p) = Some (trimmed p)

abbrev pub with_pipeline : Page → Option RenderPipeline → Page
with_pipeline g o =
    record {
      pipeline = o;
      reference = g.reference;
      buffer = g.buffer;
      index = g.index;
      format = g.format;
      offset = g.offset;
      bound = g.bound;
      viewport = g.viewport;
      scissor = g.scissor;
      blend = g.blend;
    }

-- the page, its pipeline by what it says
abbrev pub trimmed_page : Page → Page
trimmed_page g = with_pipeline g (trimmed_if g.pipeline)

-- "the same accepted draw calls in the same order", and "books that agree at each draw in every entry"
abbrev pub calls_of : List DrawCall → List Call
calls_of ds = map (λ (d : DrawCall). d.call) ds

abbrev pub pages_of : List DrawCall → List Page
pages_of ds = map (λ (d : DrawCall). trimmed_page d.page) ds
