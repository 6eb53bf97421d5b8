-- What a call is to the immediates, and the premise of document 02, request 6. Definitions only.
use Rattle.std.specs.Prelude.{ℕ, ◌≡◌, true, List, [], ◌∷◌, take}
use Rattle.records.specs.declared.command.ImmediateDesc.{ImmediateDesc}
use Rattle.records.specs.declared.pipeline.PipelineInner.{PipelineInner}
use Rattle.pass.specs.Marks.{Lent}
use Rattle.calls.specs.Call.{Call, begin_encoding, end_encoding, begin_render_pass, end_render_pass, begin_compute_pass, end_compute_pass, transition_buffers, transition_textures, clear_buffer, copy_buffer_to_buffer, copy_query_results, begin_query, end_query, write_timestamp, reset_queries, set_bind_group, set_immediates, set_render_pipeline, set_compute_pipeline, set_index_buffer, set_vertex_buffer, set_viewport, set_scissor_rect, set_stencil_reference, set_blend_constants, draw, draw_indexed, draw_indirect, draw_indexed_indirect, dispatch_workgroups, dispatch_workgroups_indirect}
use Rattle.machine.specs.Each.{Each}
use Rattle.book.specs.Book.{Fed}

-- it starts a new list, brings a pipeline's descriptors, writes words, or neither
pub data Kind : Type 0 where
  begins : Kind
  pipes : PipelineInner → Kind
  writes : ℕ → Lent → Kind
  other : Kind

abbrev pub kind_of : Call → Kind
kind_of begin_encoding = begins
kind_of end_encoding = other
kind_of end_render_pass = other
kind_of end_compute_pass = other
kind_of (begin_render_pass d label set) = other
kind_of (begin_compute_pass t label set) = other
kind_of (transition_buffers l) = other
kind_of (transition_textures l) = other
kind_of (clear_buffer x range) = other
kind_of (copy_buffer_to_buffer src dst l) = other
kind_of (copy_query_results set start end dst offset) = other
kind_of (begin_query set i) = other
kind_of (end_query set i) = other
kind_of (write_timestamp set i) = other
kind_of (reset_queries set start end) = other
kind_of (set_bind_group l i e g os) = other
kind_of (set_immediates offset ws) = writes offset ws
kind_of (set_render_pipeline p) = pipes p.inner
kind_of (set_compute_pipeline p) = pipes p.inner
kind_of (set_index_buffer raw offset format) = other
kind_of (set_vertex_buffer i raw offset) = other
kind_of (set_viewport r d) = other
kind_of (set_scissor_rect r) = other
kind_of (set_stencil_reference v) = other
kind_of (set_blend_constants c) = other
kind_of (draw vertex vertices instance instances) = other
kind_of (draw_indexed fst count base instance instances) = other
kind_of (draw_indirect raw offset n) = other
kind_of (draw_indexed_indirect raw offset n) = other
kind_of (dispatch_workgroups x y z) = other
kind_of (dispatch_workgroups_indirect raw offset) = other

-- ---- the premise: "no location twice among a pipeline's descriptors"
abbrev pub Apart : List ImmediateDesc → Type 0
Apart [] = Unit {0}
Apart (d ∷ ds) = Each (λ (e : ImmediateDesc). e.location ≡ d.location → ⊥) ds × Apart ds

abbrev pub ApartIn : Kind → Type 0
ApartIn begins = Unit {0}
ApartIn (pipes p) = Apart (take p.immediates_count p.immediates_descs)
ApartIn (writes offset ws) = Unit {0}
ApartIn other = Unit {0}

-- at each accepted call
unfoldable pub Apartness : List Fed → Type 0
Apartness [] = Unit {0}
Apartness (f ∷ fs) = (f.accepted ≡ true → ApartIn (kind_of f.call)) × Apartness fs
