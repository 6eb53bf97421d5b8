-- An accepted call of a render pass that is not its end neither begins nor ends anything, and leaves the pass open. Assumes nothing.
use mathlib.Core.Path.{◌≡◌, refl, ap, ◌∙◌, subst}
use mathlib.Core.Bool.{Bool, true, false, cond}
use mathlib.Core.List.{List, [], ◌∷◌}
use Rattle.records.specs.declared.check.Rooms.{Rooms}
use Rattle.records.specs.declared.pipeline.PrivateCapabilities.{PrivateCapabilities}
use Rattle.records.specs.declared.state.Phase.{Phase}
use Rattle.records.specs.declared.state.Phase.TheVariants.{Render}
use Rattle.records.specs.declared.state.State.{State}
use Rattle.calls.specs.Call.{Call, begin_encoding, end_encoding, begin_render_pass, end_render_pass, begin_compute_pass, end_compute_pass, transition_buffers, transition_textures}
use Rattle.calls.specs.Call.{clear_buffer, copy_buffer_to_buffer, copy_query_results, begin_query, end_query, write_timestamp, reset_queries, set_bind_group, set_immediates}
use Rattle.calls.specs.Call.{set_render_pipeline, set_compute_pipeline, set_index_buffer, set_vertex_buffer, set_viewport, set_scissor_rect, set_stencil_reference, set_blend_constants}
use Rattle.calls.specs.Call.{draw, draw_indexed, draw_indirect, draw_indexed_indirect, dispatch_workgroups, dispatch_workgroups_indirect}
use Rattle.calls.specs.Parts.{with_progress}
use Rattle.calls.specs.Step.{meaning, progress_after, step}
use Rattle.machine.specs.Each.{Each}
use Rattle.machine.proofs.Lists.{false-true}
use Rattle.book.specs.Run.{fed}
use Rattle.order.proofs.Accepted.{in-phase}
use Rattle.later_passes.specs.Pass.{Role, starts, ends, bounds, blends, draws, sets, role_of, inside, Inside}
use Rattle.later_passes.specs.Claim.{NoneRefused}

abbrev pub within : Role → Bool
within starts = false
within ends = false
within bounds = false
within blends = true
within (draws n) = true
within sets = true

abbrev pub Within : List Call → Type 0
Within cs = Each (λ (c : Call). within (role_of c) ≡ true) cs

stays : (caps : PrivateCapabilities) (s : State) (c : Call) → inside (role_of c) ≡ true → (meaning caps s c).allowed Render ≡ true
    → (within (role_of c) ≡ true) × ((meaning caps s c).phase ≡ s.progress.phase)
stays caps s begin_encoding I A = false-true A
stays caps s end_encoding I A = false-true A
stays caps s end_render_pass I A = false-true I
stays caps s end_compute_pass I A = false-true A
stays caps s (begin_render_pass d label set) I A = false-true A
stays caps s (begin_compute_pass t label set) I A = false-true A
stays caps s (transition_buffers l) I A = (refl, refl)
stays caps s (transition_textures l) I A = (refl, refl)
stays caps s (clear_buffer x range) I A = (refl, refl)
stays caps s (copy_buffer_to_buffer src dst l) I A = (refl, refl)
stays caps s (copy_query_results set start end dst offset) I A = (refl, refl)
stays caps s (begin_query set i) I A = (refl, refl)
stays caps s (end_query set i) I A = (refl, refl)
stays caps s (write_timestamp set i) I A = (refl, refl)
stays caps s (reset_queries set start end) I A = (refl, refl)
stays caps s (set_bind_group l i e g os) I A = (refl, refl)
stays caps s (set_immediates offset ws) I A = (refl, refl)
stays caps s (set_render_pipeline p) I A = (refl, refl)
stays caps s (set_compute_pipeline p) I A = (refl, refl)
stays caps s (set_index_buffer raw offset format) I A = (refl, refl)
stays caps s (set_vertex_buffer i raw offset) I A = (refl, refl)
stays caps s (set_viewport r d) I A = (refl, refl)
stays caps s (set_scissor_rect r) I A = (refl, refl)
stays caps s (set_stencil_reference v) I A = (refl, refl)
stays caps s (set_blend_constants k) I A = (refl, refl)
stays caps s (draw vertex vertices instance instances) I A = (refl, refl)
stays caps s (draw_indexed fst count base instance instances) I A = (refl, refl)
stays caps s (draw_indirect raw offset n) I A = (refl, refl)
stays caps s (draw_indexed_indirect raw offset n) I A = (refl, refl)
stays caps s (dispatch_workgroups x y z) I A = (refl, refl)
stays caps s (dispatch_workgroups_indirect raw offset) I A = (refl, refl)

pub all-within : (caps : PrivateCapabilities) (rooms : Rooms) (s : State) (cs : List Call) → s.progress.phase ≡ Render → Inside cs → NoneRefused (fed caps rooms s cs) → Within cs
unfolding fed
all-within caps rooms s [] p I N = tt
all-within caps rooms s (c ∷ cs) p I N =
    let A : (meaning caps s c).allowed Render ≡ true = subst (λ (x : Phase). (meaning caps s c).allowed x ≡ true) p (in-phase rooms s (meaning caps s c) N.0) in
    let S = stays caps s c I.0 A in
    let q : (step caps rooms s c).state.progress.phase ≡ Render =
    ap (λ (t : Bool). (cond t (with_progress (progress_after (meaning caps s c)) (meaning caps s c).after) s).progress.phase) N.0 ∙ S.1 ∙ p in
    (S.0, all-within caps rooms (step caps rooms s c).state cs q I.1 N.1)
