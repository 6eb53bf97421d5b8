-- All draws of a recorded list are those that the machine notes in its first render pass, where no draw is made outside of it (`late_draws`). Assumes nothing.
use Prim.Native.Nat.{ℕ, ◌≤◌}
use mathlib.Core.Path.{◌≡◌, refl, sym, ap, ap₂, ◌∙◌, subst}
use mathlib.Core.Bool.{Bool, true, false, cond, ◌&&◌, ◌||◌, true≢false}
use mathlib.Core.List.{List, [], ◌∷◌, ◌++◌, map}
use native.Mathlib.Omega.{arith}
use lib.Dec.{ltb}
use lib.ListN.{take}
use lib.Seq.{take-length}
use borrow.Author.Tests.{ltb-false}
use Rattle.tables.specs.Tabulate.{tabulate}
use Rattle.records.specs.declared.check.Rooms.{Rooms}
use Rattle.records.specs.declared.command.Command.{Command}
use Rattle.records.specs.declared.pipeline.PrivateCapabilities.{PrivateCapabilities}
use Rattle.records.specs.declared.state.State.{State}
use Rattle.records.specs.declared.state.VertexState.{VertexState}
use Rattle.slots.specs.Prepare.{prepared, rebound, sent, buffer_command, buffer_commands, attribute_command, attribute_commands}
use Rattle.mask.specs.Mask.{places}
use Rattle.calls.specs.Call.{Call, begin_encoding, end_encoding, begin_render_pass, end_render_pass, begin_compute_pass, end_compute_pass, transition_buffers, transition_textures}
use Rattle.calls.specs.Call.{clear_buffer, copy_buffer_to_buffer, copy_query_results, begin_query, end_query, write_timestamp, reset_queries, set_bind_group, set_immediates}
use Rattle.calls.specs.Call.{set_render_pipeline, set_compute_pipeline, set_index_buffer, set_vertex_buffer, set_viewport, set_scissor_rect, set_stencil_reference, set_blend_constants}
use Rattle.calls.specs.Call.{draw, draw_indexed, draw_indirect, draw_indexed_indirect, dispatch_workgroups, dispatch_workgroups_indirect}
use Rattle.calls.specs.Draws.{DrawArgs, indirect_commands, indexed_indirect_commands}
use Rattle.calls.specs.Parts.{draw_args}
use Rattle.calls.specs.Step.{meaning, progress_after}
use Rattle.machine.specs.Each.{Each}
use Rattle.machine.specs.View.{Stage, before, first, later}
use Rattle.machine.proofs.Lists.{or_left, or_right}
use Rattle.book.specs.Book.{Book, enter_fed}
use Rattle.book.specs.Run.{carried, Recording, record_call, record_calls, fed, Premises}
use Rattle.order.proofs.Induction.{Right, one-call}
use Rattle.recorded.specs.Recorded.{used_of}
use Rattle.recorded.proofs.Good.{is_draw_call, Good}
use Rattle.recorded.proofs.Shapes.{each_append, each-so}
use Rattle.recorded.proofs.Commands.{Whole, each-command}
use Rattle.two_boards.specs.Late.{outside, late, late_draws}
use Rattle.two_boards.proofs.Noted.{Calm, Stays, AllNoted, noted-empty, noted-calm, noted-first}

-- ---- what a draw prepares draws nothing
mapped : {A : Type 0} (f : A → Command) → ((x : A) → Calm (f x)) → (l : List A) → Each Calm (map f l)
mapped f h [] = tt
mapped f h (x ∷ l) = (h x, mapped f h l)

calm-prepared : (caps : PrivateCapabilities) (v : VertexState) (w : ℕ) → Each Calm (prepared caps v w)
unfolding buffer_commands attribute_commands
calm-prepared caps v w = go caps.vertex_buffer_layout
  where
    go : (t : Bool) → Each Calm (cond t (buffer_commands v w) (attribute_commands v w))
    go true = mapped (buffer_command v w) (λ i. refl) (places (rebound v w))
    go false = mapped (attribute_command v w) (λ a. refl) (sent v w)

-- an indirect call with count 0 makes no draw
calm-indirect : (a : DrawArgs) (raw offset n : ℕ) → n ≡ 0 → Each Calm (indirect_commands a raw offset n)
unfolding indirect_commands tabulate
calm-indirect a raw offset n e = subst (λ (k : ℕ). Each Calm (indirect_commands a raw offset k)) (sym e) tt

calm-indexed : (a : DrawArgs) (raw offset n : ℕ) → n ≡ 0 → Each Calm (indexed_indirect_commands a raw offset n)
unfolding indexed_indirect_commands tabulate
calm-indexed a raw offset n e = subst (λ (k : ℕ). Each Calm (indexed_indirect_commands a raw offset k)) (sym e) tt

-- ---- what a call does to the list and to the flag
data Turn (caps : PrivateCapabilities) (s : State) (b : Book) (t : Bool) (c : Call) : Type 0 where
  anew : (meaning caps s c).commands ≡ [] → (meaning caps s c).after.progress.commands ≡ 0 → Turn caps s b t c
  calm : (meaning caps s c).after.progress.commands ≡ s.progress.commands → is_draw_call c ≡ false → late b t c ≡ t → Turn caps s b t c
  shoots : (meaning caps s c).after.progress.commands ≡ s.progress.commands → is_draw_call c ≡ true → late b t c ≡ t || outside b.stage → Turn caps s b t c
  counts : (n : ℕ) → (meaning caps s c).after.progress.commands ≡ s.progress.commands → is_draw_call c ≡ true → late b t c ≡ t || (ltb 0 n && outside b.stage)
      → (n ≡ 0 → Each Calm (meaning caps s c).commands) → Turn caps s b t c

turn : (caps : PrivateCapabilities) (s : State) (b : Book) (t : Bool) (c : Call) → Turn caps s b t c
turn caps s b t begin_encoding = anew refl refl
turn caps s b t end_encoding = calm refl refl refl
turn caps s b t end_render_pass = calm refl refl refl
turn caps s b t end_compute_pass = calm refl refl refl
turn caps s b t (begin_render_pass d label set) = calm refl refl refl
turn caps s b t (begin_compute_pass w label set) = calm refl refl refl
turn caps s b t (transition_buffers l) = calm refl refl refl
turn caps s b t (transition_textures l) = calm refl refl refl
turn caps s b t (clear_buffer x range) = calm refl refl refl
turn caps s b t (copy_buffer_to_buffer src dst l) = calm refl refl refl
turn caps s b t (copy_query_results set start end dst offset) = calm refl refl refl
turn caps s b t (begin_query set i) = calm refl refl refl
turn caps s b t (end_query set i) = calm refl refl refl
turn caps s b t (write_timestamp set i) = calm refl refl refl
turn caps s b t (reset_queries set start end) = calm refl refl refl
turn caps s b t (set_bind_group l i e g os) = calm refl refl refl
turn caps s b t (set_immediates offset ws) = calm refl refl refl
turn caps s b t (set_render_pipeline p) = calm refl refl refl
turn caps s b t (set_compute_pipeline p) = calm refl refl refl
turn caps s b t (set_index_buffer raw offset format) = calm refl refl refl
turn caps s b t (set_vertex_buffer i raw offset) = calm refl refl refl
turn caps s b t (set_viewport r d) = calm refl refl refl
turn caps s b t (set_scissor_rect r) = calm refl refl refl
turn caps s b t (set_stencil_reference v) = calm refl refl refl
turn caps s b t (set_blend_constants c) = calm refl refl refl
turn caps s b t (draw vertex vertices instance instances) = shoots refl refl refl
turn caps s b t (draw_indexed fst count base instance instances) = shoots refl refl refl
turn caps s b t (draw_indirect raw offset n) =
    counts n refl refl refl (λ e. each_append Calm (prepared caps s.vertex 0) (indirect_commands (draw_args s.draw) raw offset n) (calm-prepared caps s.vertex 0)
    (calm-indirect (draw_args s.draw) raw offset n e))
turn caps s b t (draw_indexed_indirect raw offset n) =
    counts n refl refl refl (λ e. each_append Calm (prepared caps s.vertex 0) (indexed_indirect_commands (draw_args s.draw) raw offset n) (calm-prepared caps s.vertex 0)
    (calm-indexed (draw_args s.draw) raw offset n e))
turn caps s b t (dispatch_workgroups x y z) = calm refl refl refl
turn caps s b t (dispatch_workgroups_indirect raw offset) = calm refl refl refl

inside : (st : Stage) → outside st ≡ false → st ≡ first
inside before h = absurd (true≢false h)
inside first h = refl
inside later h = absurd (true≢false h)

none_left : (n : ℕ) → n ≤ 0 → n ≡ 0
none_left n h = omega arith

-- ---- one call, and all calls
one-noted : (caps : PrivateCapabilities) (rooms : Rooms) (r : Recording) (b : Book) (t : Bool) (c : Call) → Right caps r b → (t ≡ false → AllNoted r.list)
    → cond (carried caps rooms r.state c) (late b t c) t ≡ false → AllNoted (record_call caps rooms r c).list
one-noted caps rooms r b t c R w = go (carried caps rooms r.state c) refl
  where
    s : State
    s = r.state

    cs : List Command
    cs = (meaning caps s c).commands

    at : ℕ
    at = (meaning caps s c).after.progress.commands

    -- the list is kept
    kept : at ≡ s.progress.commands → AllNoted (r.list ++ cs) → AllNoted (take at r.list ++ cs)
    kept p h = subst (λ (l : List Command). AllNoted (l ++ cs)) (sym (ap (λ (k : ℕ). take k r.list) (p ∙ sym R.counted) ∙ take-length r.list)) h

    in-first : carried caps rooms s c ≡ true → is_draw_call c ≡ true → t ≡ false → outside b.stage ≡ false → AllNoted (r.list ++ cs)
    in-first e d f o =
        noted-first r.list cs (w f) (R.tied.stage ∙ inside b.stage o)
        (each-so (Good (Whole s) (used_of (progress_after (meaning caps s c))) (is_draw_call c)) Stays cs (λ k g. g.stays d) (each-command caps rooms s c e))

    on : carried caps rooms s c ≡ true → late b t c ≡ false → Turn caps s b t c → AllNoted (take at r.list ++ cs)
    on e h (anew p q) = subst AllNoted (sym (ap₂ (λ (k : ℕ) (l : List Command). take k r.list ++ l) q p)) noted-empty
    on e h (calm p d l) =
        kept p
        (noted-calm r.list cs (w (sym l ∙ h))
        (each-so (Good (Whole s) (used_of (progress_after (meaning caps s c))) (is_draw_call c)) Calm cs (λ k g. g.calm d) (each-command caps rooms s c e)))
    on e h (shoots p d l) = kept p (in-first e d (or_left t (outside b.stage) (sym l ∙ h)) (or_right t (outside b.stage) (sym l ∙ h)))
    on e h (counts n p d l z) = kept p (count (ltb 0 n) refl (or_right t (ltb 0 n && outside b.stage) (sym l ∙ h)))
      where
        f : t ≡ false
        f = or_left t (ltb 0 n && outside b.stage) (sym l ∙ h)

        count : (i : Bool) → ltb 0 n ≡ i → i && outside b.stage ≡ false → AllNoted (r.list ++ cs)
        count true q o = in-first e d f o
        count false q o = noted-calm r.list cs (w f) (z (none_left n (ltb-false 0 n q)))

    go : (i : Bool) → carried caps rooms s c ≡ i → cond i (late b t c) t ≡ false → AllNoted (cond i (take at r.list ++ cs) r.list)
    go true e h = on e h (turn caps s b t c)
    go false e h = w h

pub all_noted : (caps : PrivateCapabilities) (rooms : Rooms) (r : Recording) (b : Book) (t : Bool) (cs : List Call) → Right caps r b
    → Premises caps b (fed caps rooms r.state cs) → (t ≡ false → AllNoted r.list) → late_draws caps b t (fed caps rooms r.state cs) ≡ false
    → AllNoted (record_calls caps rooms r cs).list
unfolding record_calls fed Premises late_draws
all_noted caps rooms r b t [] R P w h = w h
all_noted caps rooms r b t (c ∷ cs) R P w h =
    all_noted caps rooms (record_call caps rooms r c) (enter_fed caps b (record { call = c; accepted = carried caps rooms r.state c }))
    (cond (carried caps rooms r.state c) (late b t c) t) cs (one-call caps rooms r b c R P.0) P.1 (one-noted caps rooms r b t c R w) h
