-- Document 01, "Phases: closed, open, render, compute": the phase after a list of calls, told from the accepted ones alone. Definitions only.
use Rattle.std.specs.Prelude.{cond, List, [], ◌∷◌}
use Rattle.records.specs.declared.state.Phase.{Phase}
use Rattle.records.specs.declared.state.Phase.TheVariants.{Closed, Open, Render, Compute}
use Rattle.calls.specs.Call.{Call, begin_encoding, end_encoding, begin_render_pass, end_render_pass, begin_compute_pass, end_compute_pass, transition_buffers, transition_textures, clear_buffer, copy_buffer_to_buffer, copy_query_results, begin_query, end_query, write_timestamp, reset_queries, set_bind_group, set_immediates, set_render_pipeline, set_compute_pipeline, set_index_buffer, set_vertex_buffer, set_viewport, set_scissor_rect, set_stencil_reference, set_blend_constants, draw, draw_indexed, draw_indirect, draw_indexed_indirect, dispatch_workgroups, dispatch_workgroups_indirect}
use Rattle.book.specs.Book.{Fed}

-- beginnings and ends lead to another phase, every other call stays
abbrev pub phase_after : Phase → Call → Phase
phase_after p begin_encoding = Open
phase_after p end_encoding = Closed
phase_after p (begin_render_pass d label set) = Render
phase_after p end_render_pass = Open
phase_after p (begin_compute_pass t label set) = Compute
phase_after p end_compute_pass = Open
phase_after p (transition_buffers l) = p
phase_after p (transition_textures l) = p
phase_after p (clear_buffer x range) = p
phase_after p (copy_buffer_to_buffer src dst l) = p
phase_after p (copy_query_results set start end dst offset) = p
phase_after p (begin_query set i) = p
phase_after p (end_query set i) = p
phase_after p (write_timestamp set i) = p
phase_after p (reset_queries set start end) = p
phase_after p (set_bind_group l i e g os) = p
phase_after p (set_immediates offset ws) = p
phase_after p (set_render_pipeline q) = p
phase_after p (set_compute_pipeline q) = p
phase_after p (set_index_buffer raw offset format) = p
phase_after p (set_vertex_buffer i raw offset) = p
phase_after p (set_viewport r d) = p
phase_after p (set_scissor_rect r) = p
phase_after p (set_stencil_reference v) = p
phase_after p (set_blend_constants c) = p
phase_after p (draw vertex vertices instance instances) = p
phase_after p (draw_indexed fst count base instance instances) = p
phase_after p (draw_indirect raw offset n) = p
phase_after p (draw_indexed_indirect raw offset n) = p
phase_after p (dispatch_workgroups x y z) = p
phase_after p (dispatch_workgroups_indirect raw offset) = p

unfoldable pub phase_told : Phase → List Fed → Phase
phase_told p [] = p
phase_told p (f ∷ fs) = phase_told (cond f.accepted (phase_after p f.call) p) fs
