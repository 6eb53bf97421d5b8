-- Document 01's premises, of one accepted call, in the book's words. Definitions only.
use Rattle.std.specs.Prelude.{ℕ, ◌<◌, ◌≡◌, true, Some}
use Rattle.records.specs.declared.pipeline.RenderPipeline.{RenderPipeline}
use Rattle.calls.specs.Call.{Call, begin_encoding, end_encoding, begin_render_pass, end_render_pass, begin_compute_pass, end_compute_pass, transition_buffers, transition_textures, clear_buffer, copy_buffer_to_buffer, copy_query_results, begin_query, end_query, write_timestamp, reset_queries, set_bind_group, set_immediates, set_render_pipeline, set_compute_pipeline, set_index_buffer, set_vertex_buffer, set_viewport, set_scissor_rect, set_stencil_reference, set_blend_constants, draw, draw_indexed, draw_indirect, draw_indexed_indirect, dispatch_workgroups, dispatch_workgroups_indirect}
use Rattle.machine.specs.View.{first}
use Rattle.book.specs.Book.{Book, describes, known}

-- "the book has a pipeline and a buffer for each slot that this describes"
pub record Ready (b : Book) : Type 0 where
  pub pipeline : RenderPipeline
  pub is : b.pipeline ≡ Some pipeline
  pub bound : (i : ℕ) → i < 16 → known (describes pipeline i) ≡ true → known (b.buffer i) ≡ true

-- "at each accepted draw of the first render pass"; an indirect call with count 0 makes no draw
abbrev pub Premise : Book → Call → Type 0
Premise b begin_encoding = Unit {0}
Premise b end_encoding = Unit {0}
Premise b end_render_pass = Unit {0}
Premise b end_compute_pass = Unit {0}
Premise b (begin_render_pass d label set) = Unit {0}
Premise b (begin_compute_pass t label set) = Unit {0}
Premise b (transition_buffers l) = Unit {0}
Premise b (transition_textures l) = Unit {0}
Premise b (clear_buffer x range) = Unit {0}
Premise b (copy_buffer_to_buffer src dst l) = Unit {0}
Premise b (copy_query_results set start end dst offset) = Unit {0}
Premise b (begin_query set i) = Unit {0}
Premise b (end_query set i) = Unit {0}
Premise b (write_timestamp set i) = Unit {0}
Premise b (reset_queries set start end) = Unit {0}
Premise b (set_bind_group l i e g os) = Unit {0}
Premise b (set_immediates offset ws) = Unit {0}
Premise b (set_render_pipeline p) = Unit {0}
Premise b (set_compute_pipeline p) = Unit {0}
Premise b (set_index_buffer raw offset format) = Unit {0}
Premise b (set_vertex_buffer i raw offset) = Unit {0}
Premise b (set_viewport r d) = Unit {0}
Premise b (set_scissor_rect r) = Unit {0}
Premise b (set_stencil_reference v) = Unit {0}
Premise b (set_blend_constants c) = Unit {0}
Premise b (draw vertex vertices instance instances) = b.stage ≡ first → Ready b
Premise b (draw_indexed fst count base instance instances) = b.stage ≡ first → Ready b
Premise b (draw_indirect raw offset n) = b.stage ≡ first → 0 < n → Ready b
Premise b (draw_indexed_indirect raw offset n) = b.stage ≡ first → 0 < n → Ready b
Premise b (dispatch_workgroups x y z) = Unit {0}
Premise b (dispatch_workgroups_indirect raw offset) = Unit {0}
