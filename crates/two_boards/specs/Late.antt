-- Whether a list has a draw outside of its first render pass, told from the calls. Definitions only.
use Rattle.std.specs.Prelude.{Bool, true, false, cond, ◌&&◌, ◌||◌, List, [], ◌∷◌, ltb}
use Rattle.records.specs.declared.pipeline.PrivateCapabilities.{PrivateCapabilities}
use Rattle.calls.specs.Call.{Call, begin_encoding, end_encoding, begin_render_pass, end_render_pass, begin_compute_pass, end_compute_pass, transition_buffers, transition_textures}
use Rattle.calls.specs.Call.{clear_buffer, copy_buffer_to_buffer, copy_query_results, begin_query, end_query, write_timestamp, reset_queries, set_bind_group, set_immediates}
use Rattle.calls.specs.Call.{set_render_pipeline, set_compute_pipeline, set_index_buffer, set_vertex_buffer, set_viewport, set_scissor_rect, set_stencil_reference, set_blend_constants}
use Rattle.calls.specs.Call.{draw, draw_indexed, draw_indirect, draw_indexed_indirect, dispatch_workgroups, dispatch_workgroups_indirect}
use Rattle.machine.specs.View.{Stage, before, first, later}
use Rattle.book.specs.Book.{Book, Fed, enter_fed}

abbrev pub outside : Stage → Bool
outside before = true
outside first = false
outside later = true

-- an accepted call, with the book before it; a new list begins anew. An indirect call with count 0 makes no draw
abbrev pub late : Book → Bool → Call → Bool
late b t begin_encoding = false
late b t end_encoding = t
late b t end_render_pass = t
late b t end_compute_pass = t
late b t (begin_render_pass d label set) = t
late b t (begin_compute_pass w label set) = t
late b t (transition_buffers l) = t
late b t (transition_textures l) = t
late b t (clear_buffer x range) = t
late b t (copy_buffer_to_buffer src dst l) = t
late b t (copy_query_results set start end dst offset) = t
late b t (begin_query set i) = t
late b t (end_query set i) = t
late b t (write_timestamp set i) = t
late b t (reset_queries set start end) = t
late b t (set_bind_group l i e g os) = t
late b t (set_immediates offset ws) = t
late b t (set_render_pipeline p) = t
late b t (set_compute_pipeline p) = t
late b t (set_index_buffer raw offset format) = t
late b t (set_vertex_buffer i raw offset) = t
late b t (set_viewport r d) = t
late b t (set_scissor_rect r) = t
late b t (set_stencil_reference v) = t
late b t (set_blend_constants c) = t
late b t (draw vertex vertices instance instances) = t || outside b.stage
late b t (draw_indexed fst count base instance instances) = t || outside b.stage
late b t (draw_indirect raw offset n) = t || (ltb 0 n && outside b.stage)
late b t (draw_indexed_indirect raw offset n) = t || (ltb 0 n && outside b.stage)
late b t (dispatch_workgroups x y z) = t
late b t (dispatch_workgroups_indirect raw offset) = t

-- of all calls, each with whether it was accepted
unfoldable pub late_draws : PrivateCapabilities → Book → Bool → List Fed → Bool
late_draws caps b t [] = t
late_draws caps b t (f ∷ fs) = late_draws caps (enter_fed caps b f) (cond f.accepted (late b t f.call) t) fs
