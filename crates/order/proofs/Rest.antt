-- Outside of a render pass no slot is dirty and none has a number: document 02, request 5, "a pass end sets all sixteen back to 0", of either pass. Assumes nothing.
use mathlib.Core.Path.{◌≡◌, refl, sym, ap, ◌∙◌, subst}
use mathlib.Core.Bool.{Bool, true, false, cond}
use mathlib.Core.List.{List, [], ◌∷◌}
use lib.ListN.{replicate}
use Rattle.records.specs.Outcome.{accepted}
use Rattle.records.specs.declared.check.Rooms.{Rooms}
use Rattle.records.specs.declared.pipeline.PrivateCapabilities.{PrivateCapabilities}
use Rattle.records.specs.declared.state.Phase.{Phase}
use Rattle.records.specs.declared.state.Phase.TheVariants.{Closed, Open, Render, Compute}
use Rattle.records.specs.declared.state.State.{State}
use Rattle.records.specs.declared.state.VertexState.{VertexState}
use Rattle.calls.specs.Call.{Call, begin_encoding, end_encoding, begin_render_pass, end_render_pass, begin_compute_pass, end_compute_pass, transition_buffers, transition_textures, clear_buffer, copy_buffer_to_buffer, copy_query_results, begin_query, end_query, write_timestamp, reset_queries, set_bind_group, set_immediates, set_render_pipeline, set_compute_pipeline, set_index_buffer, set_vertex_buffer, set_viewport, set_scissor_rect, set_stencil_reference, set_blend_constants, draw, draw_indexed, draw_indirect, draw_indexed_indirect, dispatch_workgroups, dispatch_workgroups_indirect}
use Rattle.calls.specs.Did.{rooms_of}
use Rattle.calls.specs.Meaning.{Meaning, in_open, in_render, in_compute}
use Rattle.calls.specs.Parts.{with_progress}
use Rattle.calls.specs.Step.{meaning, progress_after}
use Rattle.machine.proofs.Lists.{false-true, true-false}
use Rattle.book.specs.Run.{carried, Recording, beginning, record_call, record_calls, begun}
use Rattle.order.specs.Claim.{RestOfRun}
use Rattle.order.proofs.Accepted.{in-phase}
use Rattle.order.proofs.OfRun.{ran-begun, begun-run}

-- no slot is dirty, and none has a number
abbrev pub Quiet : VertexState → Type 0
Quiet v = (v.dirty_vbuf_mask ≡ 0) × (v.instances ≡ replicate 16 0)

-- outside of a render pass
abbrev pub Rested : Phase → VertexState → Type 0
Rested p v = in_render p ≡ false → Quiet v

-- a call that needs another phase finds the slots at rest
not-open : (p : Phase) (v : VertexState) → in_open p ≡ true → Rested p v → Quiet v
not-open Closed v e R = false-true e
not-open Open v e R = R refl
not-open Render v e R = false-true e
not-open Compute v e R = false-true e

not-compute : (p : Phase) (v : VertexState) → in_compute p ≡ true → Rested p v → Quiet v
not-compute Closed v e R = false-true e
not-compute Open v e R = false-true e
not-compute Render v e R = false-true e
not-compute Compute v e R = R refl

-- a call that needs the render phase and stays in it
inside : (caps : PrivateCapabilities) (rooms : Rooms) (s : State) (c : Call) → carried caps rooms s c ≡ true
    → (meaning caps s c).allowed s.progress.phase ≡ in_render (meaning caps s c).phase → Rested (meaning caps s c).phase (meaning caps s c).after.vertex
inside caps rooms s c e q k = true-false (sym (in-phase rooms s (meaning caps s c) e) ∙ q ∙ k)

rested : (caps : PrivateCapabilities) (rooms : Rooms) (s : State) (c : Call) → carried caps rooms s c ≡ true → Rested s.progress.phase s.vertex
    → Rested (meaning caps s c).phase (meaning caps s c).after.vertex
rested caps rooms s begin_encoding e R = λ q. (refl, refl)
rested caps rooms s end_encoding e R = λ q. not-open s.progress.phase s.vertex (in-phase rooms s (meaning caps s end_encoding) e) R
rested caps rooms s end_render_pass e R = λ q. (refl, refl)
rested caps rooms s end_compute_pass e R = λ q. not-compute s.progress.phase s.vertex (in-phase rooms s (meaning caps s end_compute_pass) e) R
rested caps rooms s (begin_render_pass d label set) e R = λ q. true-false q
rested caps rooms s (begin_compute_pass t label set) e R = λ q. not-open s.progress.phase s.vertex (in-phase rooms s (meaning caps s (begin_compute_pass t label set)) e) R
rested caps rooms s (transition_buffers l) e R = R
rested caps rooms s (transition_textures l) e R = R
rested caps rooms s (clear_buffer x range) e R = R
rested caps rooms s (copy_buffer_to_buffer src dst l) e R = R
rested caps rooms s (copy_query_results set start end dst offset) e R = R
rested caps rooms s (begin_query set i) e R = R
rested caps rooms s (end_query set i) e R = R
rested caps rooms s (write_timestamp set i) e R = R
rested caps rooms s (reset_queries set start end) e R = R
rested caps rooms s (set_bind_group l i x g os) e R = R
rested caps rooms s (set_immediates offset ws) e R = R
rested caps rooms s (set_render_pipeline p) e R = inside caps rooms s (set_render_pipeline p) e refl
rested caps rooms s (set_compute_pipeline p) e R = R
rested caps rooms s (set_index_buffer raw offset format) e R = R
rested caps rooms s (set_vertex_buffer i raw offset) e R = inside caps rooms s (set_vertex_buffer i raw offset) e refl
rested caps rooms s (set_viewport r d) e R = R
rested caps rooms s (set_scissor_rect r) e R = R
rested caps rooms s (set_stencil_reference x) e R = R
rested caps rooms s (set_blend_constants x) e R = R
rested caps rooms s (draw vertex vertices instance instances) e R = inside caps rooms s (draw vertex vertices instance instances) e refl
rested caps rooms s (draw_indexed fst count base instance instances) e R = inside caps rooms s (draw_indexed fst count base instance instances) e refl
rested caps rooms s (draw_indirect raw offset n) e R = inside caps rooms s (draw_indirect raw offset n) e refl
rested caps rooms s (draw_indexed_indirect raw offset n) e R = inside caps rooms s (draw_indexed_indirect raw offset n) e refl
rested caps rooms s (dispatch_workgroups x y z) e R = R
rested caps rooms s (dispatch_workgroups_indirect raw offset) e R = R

pub all-rested : (caps : PrivateCapabilities) (rooms : Rooms) (r : Recording) (cs : List Call) → Rested r.state.progress.phase r.state.vertex
    → Rested (record_calls caps rooms r cs).state.progress.phase (record_calls caps rooms r cs).state.vertex
unfolding record_calls
all-rested caps rooms r [] R = R
all-rested caps rooms r (c ∷ cs) R = all-rested caps rooms (record_call caps rooms r c) cs (go (carried caps rooms r.state c) refl)
  where
    m : Meaning
    m = meaning caps r.state c

    go : (t : Bool) → carried caps rooms r.state c ≡ t
        → Rested (cond t (with_progress (progress_after m) m.after) r.state).progress.phase (cond t (with_progress (progress_after m) m.after) r.state).vertex
    go true e = rested caps rooms r.state c e R
    go false e = R

-- where a list begins
pub begun-rested : (caps : PrivateCapabilities) (rooms : Rooms) (s : State) → carried caps rooms s begin_encoding ≡ true
    → Rested (begun caps rooms s).state.progress.phase (begun caps rooms s).state.vertex
begun-rested caps rooms s e = go (carried caps rooms s begin_encoding) e
  where
    m : Meaning
    m = meaning caps s begin_encoding

    go : (t : Bool) → t ≡ true → Rested (cond t (with_progress (progress_after m) m.after) s).progress.phase (cond t (with_progress (progress_after m) m.after) s).vertex
    go true q = λ k. (refl, refl)
    go false q = false-true q

-- of what the functions hand back
pub rest-of-run : RestOfRun
rest-of-run caps s₀ s' r₀ r r' a calls d e R =
    subst (λ (x : Recording). Rested x.state.progress.phase x.state.vertex) (sym (ran-begun caps (begun-run caps s₀ r₀ r a d e) R))
    (all-rested caps (rooms_of r) (beginning a.state) calls
    (subst (λ (x : State). Rested x.progress.phase x.vertex) (sym d.state) (begun-rested caps (rooms_of r₀) s₀ (ap accepted (sym d.outcome ∙ e)))))
