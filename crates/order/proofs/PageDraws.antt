-- The draws of the book are a function of the draw calls and their pages. Assumes nothing.
use mathlib.Core.Path.{◌≡◌, refl, sym, ap, ap₂, ◌∙◌}
use mathlib.Core.Bool.{Bool, true, false, cond}
use mathlib.Core.List.{List, [], ◌∷◌, ◌++◌, append-nil, append_assoc}
use Rattle.records.specs.declared.pipeline.PrivateCapabilities.{PrivateCapabilities}
use Rattle.calls.specs.Call.{Call, begin_encoding, end_encoding, begin_render_pass, end_render_pass, begin_compute_pass, end_compute_pass, transition_buffers, transition_textures, clear_buffer, copy_buffer_to_buffer, copy_query_results, begin_query, end_query, write_timestamp, reset_queries, set_bind_group, set_immediates, set_render_pipeline, set_compute_pipeline, set_index_buffer, set_vertex_buffer, set_viewport, set_scissor_rect, set_stencil_reference, set_blend_constants, draw, draw_indexed, draw_indirect, draw_indexed_indirect, dispatch_workgroups, dispatch_workgroups_indirect}
use Rattle.machine.specs.View.{Stage, before, first, later}
use Rattle.book.specs.Book.{Entered, Book, empty, in_first, enter, Fed, enter_fed, book_of}
use Rattle.book.specs.Pages.{Page, page_of, DrawCall, note_call, note_calls, draw_calls}

-- the book at a draw of the first render pass, with no draw yet
abbrev pub opened : Page → Book
opened p =
    record {
      stage = first;
      pipeline = p.pipeline;
      reference = p.reference;
      buffer = p.buffer;
      index = p.index;
      format = p.format;
      offset = p.offset;
      bound = p.bound;
      viewport = p.viewport;
      scissor = p.scissor;
      blend = p.blend;
      draws = [];
    }

unfoldable pub draws_of : PrivateCapabilities → List DrawCall → List Entered
draws_of caps [] = []
draws_of caps (m ∷ ms) = (enter caps (opened m.page) m.call).draws ++ draws_of caps ms

one_more : (caps : PrivateCapabilities) (ms : List DrawCall) (m : DrawCall) → draws_of caps (ms ++ (m ∷ [])) ≡ draws_of caps ms ++ (enter caps (opened m.page) m.call).draws
unfolding draws_of
one_more caps [] m = append-nil (enter caps (opened m.page) m.call).draws
one_more caps (x ∷ ms) m =
    ap (λ (l : List Entered). (enter caps (opened x.page) x.call).draws ++ l) (one_more caps ms m)
    ∙ sym (append_assoc (enter caps (opened x.page) x.call).draws (draws_of caps ms) (enter caps (opened m.page) m.call).draws)

drew : (caps : PrivateCapabilities) (st : Stage) (ds xs : List Entered) (ms : List DrawCall) (m : DrawCall) → ds ≡ draws_of caps ms → xs ≡ (enter caps (opened m.page) m.call).draws
    → in_first st xs ds ≡ draws_of caps (in_first st (m ∷ []) ms)
drew caps before ds xs ms m e q = e
drew caps first ds xs ms m e q = ap₂ (λ (a b : List Entered). a ++ b) e q ∙ sym (one_more caps ms m)
drew caps later ds xs ms m e q = e

entered_by : (caps : PrivateCapabilities) (b : Book) (ms : List DrawCall) (c : Call) → b.draws ≡ draws_of caps ms → (enter caps b c).draws ≡ draws_of caps (note_call b ms c)
unfolding draws_of
entered_by caps b ms begin_encoding e = refl
entered_by caps b ms end_encoding e = e
entered_by caps b ms end_render_pass e = e
entered_by caps b ms end_compute_pass e = e
entered_by caps b ms (begin_render_pass d label set) e = e
entered_by caps b ms (begin_compute_pass t label set) e = e
entered_by caps b ms (transition_buffers l) e = e
entered_by caps b ms (transition_textures l) e = e
entered_by caps b ms (clear_buffer x range) e = e
entered_by caps b ms (copy_buffer_to_buffer src dst l) e = e
entered_by caps b ms (copy_query_results set start end dst offset) e = e
entered_by caps b ms (begin_query set i) e = e
entered_by caps b ms (end_query set i) e = e
entered_by caps b ms (write_timestamp set i) e = e
entered_by caps b ms (reset_queries set start end) e = e
entered_by caps b ms (set_bind_group l i x g os) e = e
entered_by caps b ms (set_immediates offset ws) e = e
entered_by caps b ms (set_render_pipeline p) e = e
entered_by caps b ms (set_compute_pipeline p) e = e
entered_by caps b ms (set_index_buffer raw offset format) e = e
entered_by caps b ms (set_vertex_buffer i raw offset) e = e
entered_by caps b ms (set_viewport r d) e = e
entered_by caps b ms (set_scissor_rect r) e = e
entered_by caps b ms (set_stencil_reference v) e = e
entered_by caps b ms (set_blend_constants c) e = e
entered_by caps b ms (draw vertex vertices instance instances) e = drew caps b.stage b.draws _ ms (record { call = draw vertex vertices instance instances; page = page_of b }) e refl
entered_by caps b ms (draw_indexed fst count base instance instances) e =
    drew caps b.stage b.draws _ ms (record { call = draw_indexed fst count base instance instances; page = page_of b }) e refl
entered_by caps b ms (draw_indirect raw offset n) e = drew caps b.stage b.draws _ ms (record { call = draw_indirect raw offset n; page = page_of b }) e refl
entered_by caps b ms (draw_indexed_indirect raw offset n) e = drew caps b.stage b.draws _ ms (record { call = draw_indexed_indirect raw offset n; page = page_of b }) e refl
entered_by caps b ms (dispatch_workgroups x y z) e = e
entered_by caps b ms (dispatch_workgroups_indirect raw offset) e = e

all_noted : (caps : PrivateCapabilities) (b : Book) (ms : List DrawCall) (fs : List Fed) → b.draws ≡ draws_of caps ms → (book_of caps b fs).draws ≡ draws_of caps (note_calls caps b ms fs)
unfolding book_of note_calls
all_noted caps b ms [] e = e
all_noted caps b ms (f ∷ fs) e = all_noted caps (enter_fed caps b f) (cond f.accepted (note_call b ms f.call) ms) fs (go f.accepted)
  where
    go : (t : Bool) → (cond t (enter caps b f.call) b).draws ≡ draws_of caps (cond t (note_call b ms f.call) ms)
    go true = entered_by caps b ms f.call e
    go false = e

pub draws-are : (caps : PrivateCapabilities) (fs : List Fed) → (book_of caps empty fs).draws ≡ draws_of caps (draw_calls caps fs)
unfolding draws_of
draws-are caps fs = all_noted caps empty [] fs refl
