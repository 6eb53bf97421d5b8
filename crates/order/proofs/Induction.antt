-- The induction over the calls. Assumes nothing.
use Prim.Native.Nat.{ℕ, suc, ◌+◌}
use mathlib.Core.Path.{◌≡◌, refl, sym, ap, ap₂, ◌∙◌, subst}
use mathlib.Core.Bool.{Bool, true, false, cond}
use mathlib.Core.List.{List, [], ◌∷◌, ◌++◌, map}
use mathlib.Core.Logic.{◌⊎◌, inl, inr}
use lib.ListN.{length, take, length-append}
use lib.Seq.{take-length}
use Rattle.records.specs.Start.{start_progress}
use Rattle.records.specs.declared.check.Rooms.{Rooms}
use Rattle.records.specs.declared.command.Command.{Command}
use Rattle.records.specs.declared.pipeline.PrivateCapabilities.{PrivateCapabilities}
use Rattle.records.specs.declared.state.Progress.{Progress}
use Rattle.records.specs.declared.state.State.{State}
use Rattle.calls.specs.Call.{Call, begin_encoding, end_encoding, begin_render_pass, end_render_pass, begin_compute_pass, end_compute_pass, transition_buffers, transition_textures, clear_buffer, copy_buffer_to_buffer, copy_query_results, begin_query, end_query, write_timestamp, reset_queries, set_bind_group, set_immediates, set_render_pipeline, set_compute_pipeline, set_index_buffer, set_vertex_buffer, set_viewport, set_scissor_rect, set_stencil_reference, set_blend_constants, draw, draw_indexed, draw_indirect, draw_indexed_indirect, dispatch_workgroups, dispatch_workgroups_indirect}
use Rattle.calls.specs.Parts.{with_progress}
use Rattle.calls.specs.Step.{meaning, progress_after}
use Rattle.machine.specs.View.{View}
use Rattle.machine.specs.Machine.{Shot, Machine, fresh, play}
use Rattle.book.specs.Book.{Entered, Book, empty, enter, enter_fed, book_of}
use Rattle.machine.proofs.Sweep.{play-append}
use Rattle.order.proofs.Invariant.{Agree, Spare, Tied}
use Rattle.order.proofs.Keeps.{started}
use Rattle.book.specs.Premise.{Premise}
use Rattle.order.proofs.Accept.{resumed, accepts}
use Rattle.book.specs.FirstPass.{found}
use Rattle.book.specs.Run.{carried, Recording, beginning, record_call, record_calls, fed, Premises, begun}

-- a call goes on with the list, or starts a new one
abbrev pub Goes : PrivateCapabilities → State → Call → Type 0
Goes caps s c =
    (((meaning caps s c).after.progress ≡ s.progress) × ((m : Machine) → resumed c m ≡ m)) ⊎ (((meaning caps s c).after.progress ≡ start_progress) × ((m : Machine) → resumed c m ≡ fresh))

pub goes : (caps : PrivateCapabilities) (s : State) (c : Call) → Goes caps s c
goes caps s begin_encoding = inr (refl, λ m. refl)
goes caps s end_encoding = inl (refl, λ m. refl)
goes caps s end_render_pass = inl (refl, λ m. refl)
goes caps s end_compute_pass = inl (refl, λ m. refl)
goes caps s (begin_render_pass d label set) = inl (refl, λ m. refl)
goes caps s (begin_compute_pass t label set) = inl (refl, λ m. refl)
goes caps s (transition_buffers l) = inl (refl, λ m. refl)
goes caps s (transition_textures l) = inl (refl, λ m. refl)
goes caps s (clear_buffer x range) = inl (refl, λ m. refl)
goes caps s (copy_buffer_to_buffer src dst l) = inl (refl, λ m. refl)
goes caps s (copy_query_results set start end dst offset) = inl (refl, λ m. refl)
goes caps s (begin_query set i) = inl (refl, λ m. refl)
goes caps s (end_query set i) = inl (refl, λ m. refl)
goes caps s (write_timestamp set i) = inl (refl, λ m. refl)
goes caps s (reset_queries set start end) = inl (refl, λ m. refl)
goes caps s (set_bind_group l i e g os) = inl (refl, λ m. refl)
goes caps s (set_immediates offset ws) = inl (refl, λ m. refl)
goes caps s (set_render_pipeline p) = inl (refl, λ m. refl)
goes caps s (set_compute_pipeline p) = inl (refl, λ m. refl)
goes caps s (set_index_buffer raw offset format) = inl (refl, λ m. refl)
goes caps s (set_vertex_buffer i raw offset) = inl (refl, λ m. refl)
goes caps s (set_viewport r d) = inl (refl, λ m. refl)
goes caps s (set_scissor_rect r) = inl (refl, λ m. refl)
goes caps s (set_stencil_reference v) = inl (refl, λ m. refl)
goes caps s (set_blend_constants k) = inl (refl, λ m. refl)
goes caps s (draw vertex vertices instance instances) = inl (refl, λ m. refl)
goes caps s (draw_indexed fst count base instance instances) = inl (refl, λ m. refl)
goes caps s (draw_indirect raw offset n) = inl (refl, λ m. refl)
goes caps s (draw_indexed_indirect raw offset n) = inl (refl, λ m. refl)
goes caps s (dispatch_workgroups x y z) = inl (refl, λ m. refl)
goes caps s (dispatch_workgroups_indirect raw offset) = inl (refl, λ m. refl)

-- what is kept of the list is all of it, or nothing
pub kept-list : (caps : PrivateCapabilities) (s : State) (c : Call) (l : List Command) → length l ≡ s.progress.commands
    → (play fresh (take (meaning caps s c).after.progress.commands l) ≡ resumed c (play fresh l)) × (length (take (meaning caps s c).after.progress.commands l) ≡ (meaning caps s c).after.progress.commands)
kept-list caps s c l e = go (goes caps s c)
  where
    whole : (n : ℕ) → n ≡ length l → take n l ≡ l
    whole n q = ap (λ (k : ℕ). take k l) q ∙ take-length l

    go : Goes caps s c → (play fresh (take (meaning caps s c).after.progress.commands l) ≡ resumed c (play fresh l)) × (length (take (meaning caps s c).after.progress.commands l) ≡ (meaning caps s c).after.progress.commands)
    go (inl (p, h)) =
        let q = ap (λ (x : Progress). x.commands) p in
        let w = whole (meaning caps s c).after.progress.commands (q ∙ sym e) in
        (ap (play fresh) w ∙ sym (h (play fresh l)), ap length w ∙ e ∙ sym q)
    go (inr (p, h)) =
        let q = ap (λ (x : Progress). x.commands) p in
        (ap (λ (k : ℕ). play fresh (take k l)) q ∙ sym (h (play fresh l)), ap (λ (k : ℕ). length (take k l)) q ∙ sym q)

-- ---- one call
pub record Right (caps : PrivateCapabilities) (r : Recording) (b : Book) : Type 0 where
  pub counted : length r.list ≡ r.state.progress.commands
  pub tied : Tied caps r.state (play fresh r.list) b

pub one-call : (caps : PrivateCapabilities) (rooms : Rooms) (r : Recording) (b : Book) (c : Call) → Right caps r b → (carried caps rooms r.state c ≡ true → Premise b c)
    → Right caps (record_call caps rooms r c) (enter_fed caps b (record { call = c; accepted = carried caps rooms r.state c }))
one-call caps rooms r b c R P = go (carried caps rooms r.state c) refl
  where
    s : State
    s = r.state

    go : (t : Bool) → carried caps rooms s c ≡ t
        → Right caps
        (record {
          state = cond t (with_progress (progress_after (meaning caps s c)) (meaning caps s c).after) s;
          list = cond t (take (meaning caps s c).after.progress.commands r.list ++ (meaning caps s c).commands) r.list;
          bytes = cond t (take (meaning caps s c).after.progress.bytes r.bytes ++ (meaning caps s c).bytes) r.bytes;
          queries = cond t (take (meaning caps s c).after.progress.queries r.queries ++ (meaning caps s c).queries) r.queries;
        })
        (cond t (enter caps b c) b)
    go true e =
        let K = kept-list caps s c r.list R.counted in
        record {
          counted = length-append (take (meaning caps s c).after.progress.commands r.list) (meaning caps s c).commands ∙ ap (λ (n : ℕ). n + length (meaning caps s c).commands) K.1;
          tied =
              subst (λ (m : Machine). Tied caps (with_progress (progress_after (meaning caps s c)) (meaning caps s c).after) m (enter caps b c))
              (sym (play-append fresh (take (meaning caps s c).after.progress.commands r.list) (meaning caps s c).commands ∙ ap (λ (m : Machine). play m (meaning caps s c).commands) K.0))
              (accepts caps rooms s (play fresh r.list) b R.tied c e (P e));
        }
    go false e = record { counted = R.counted; tied = R.tied }

-- ---- all calls
pub all-calls : (caps : PrivateCapabilities) (rooms : Rooms) (r : Recording) (b : Book) (cs : List Call) → Right caps r b → Premises caps b (fed caps rooms r.state cs)
    → Right caps (record_calls caps rooms r cs) (book_of caps b (fed caps rooms r.state cs))
unfolding record_calls fed Premises book_of
all-calls caps rooms r b [] R P = R
all-calls caps rooms r b (c ∷ cs) R P = all-calls caps rooms (record_call caps rooms r c) (enter_fed caps b (record { call = c; accepted = carried caps rooms r.state c })) cs (one-call caps rooms r b c R P.0) P.1

pub began : (caps : PrivateCapabilities) (rooms : Rooms) (s : State) → carried caps rooms s begin_encoding ≡ true → Right caps (begun caps rooms s) empty
began caps rooms s e = subst (λ (x : State). Right caps (beginning x) empty) (sym (ap (λ (t : Bool). cond t (with_progress (progress_after (meaning caps s begin_encoding)) (meaning caps s begin_encoding).after) s) e)) (record { counted = refl; tied = started caps 0 0 0 })

-- ---- what the whole list leaves
-- at each draw what the book names; without layouts no attribute is set but at its pipeline's locations (request 3)
pub all-agree : (caps : PrivateCapabilities) (rooms : Rooms) (s : State) (calls : List Call) → carried caps rooms s begin_encoding ≡ true → Premises caps empty (fed caps rooms (begun caps rooms s).state calls)
    → Agree caps (play fresh (record_calls caps rooms (begun caps rooms s) calls).list).shots (book_of caps empty (fed caps rooms (begun caps rooms s).state calls)).draws
all-agree caps rooms s calls e P = (all-calls caps rooms (begun caps rooms s) empty calls (began caps rooms s e) P).tied.log

-- and after it, without layouts, none but at the locations of the state's list, which a pass's end empties: the machine between passes (request 13)
pub all-spare : (caps : PrivateCapabilities) (rooms : Rooms) (s : State) (calls : List Call) → carried caps rooms s begin_encoding ≡ true
    → Premises caps empty (fed caps rooms (begun caps rooms s).state calls)
    → Spare caps (record_calls caps rooms (begun caps rooms s) calls).state.vertex (play fresh (record_calls caps rooms (begun caps rooms s) calls).list).gl.vertices
all-spare caps rooms s calls e P = (all-calls caps rooms (begun caps rooms s) empty calls (began caps rooms s e) P).tied.spare

-- ---- the log as an equation
pub as_many : (caps : PrivateCapabilities) (ss : List Shot) (ds : List Entered) → Agree caps ss ds → length ss ≡ length ds
as_many caps [] [] a = refl
as_many caps [] (d ∷ ds) a = absurd a
as_many caps (s ∷ ss) [] a = absurd a
as_many caps (s ∷ ss) (d ∷ ds) a = ap suc (as_many caps ss ds a.1)

pub found-is : (caps : PrivateCapabilities) (ss : List Shot) (ds : List Entered) → Agree caps ss ds → found ds ss ≡ map (λ (d : Entered). d.view) ds
found-is caps [] [] a = refl
found-is caps [] (d ∷ ds) a = absurd a
found-is caps (s ∷ ss) [] a = absurd a
found-is caps (s ∷ ss) (d ∷ ds) a = ap₂ (λ (v : View) (vs : List View). v ∷ vs) a.0.0 (found-is caps ss ds a.1)
