-- THE CLAIM, of the definitions (`recorded-fits`) and of a run of the code (`recorded-fits-of-run`): by induction over the calls. Assumes nothing.
use Prim.Native.Nat.{ℕ, ◌+◌, ◌≤◌, zero-le}
use mathlib.Core.Path.{◌≡◌, refl, sym, ap, ◌∙◌, subst}
use mathlib.Core.Bool.{Bool, true, false, cond, ◌||◌}
use mathlib.Core.List.{List, [], ◌∷◌, ◌++◌, map}
use mathlib.Core.Logic.{◌⊎◌, inl, inr}
use native.Mathlib.Omega.{arith}
use lib.Dec.{ltb}
use lib.ListN.{length, take, length-append, length-map, length-take, length-replicate}
use borrow.Author.Tests.{ltb-false, le-ltb}
use Rattle.records.specs.Outcome.{accepted}
use Rattle.records.specs.Check.{over_room}
use Rattle.records.specs.Start.{start_state}
use Rattle.records.specs.declared.check.Rooms.{Rooms}
use Rattle.records.specs.declared.command.Command.{Command}
use Rattle.records.specs.declared.command.Record.{Record}
use Rattle.records.specs.declared.pipeline.PrivateCapabilities.{PrivateCapabilities}
use Rattle.records.specs.declared.state.Progress.{Progress}
use Rattle.records.specs.declared.state.State.{State}
use Rattle.calls.specs.Call.{Call, begin_encoding, end_encoding, begin_render_pass, end_render_pass, begin_compute_pass, end_compute_pass, transition_buffers, transition_textures}
use Rattle.calls.specs.Call.{clear_buffer, copy_buffer_to_buffer, copy_query_results, begin_query, end_query, write_timestamp, reset_queries, set_bind_group, set_immediates}
use Rattle.calls.specs.Call.{set_render_pipeline, set_compute_pipeline, set_index_buffer, set_vertex_buffer, set_viewport, set_scissor_rect, set_stencil_reference, set_blend_constants}
use Rattle.calls.specs.Call.{draw, draw_indexed, draw_indirect, draw_indexed_indirect, dispatch_workgroups, dispatch_workgroups_indirect}
use Rattle.calls.specs.Did.{rooms_of}
use Rattle.calls.specs.Parts.{with_progress}
use Rattle.calls.specs.Step.{meaning, progress_after}
use Rattle.machine.specs.Each.{Each}
use Rattle.machine.proofs.Lists.{or_left, or_right}
use Rattle.lists.specs.Limits.{keeps, breaks, over_counts, handed}
use Rattle.book.specs.Run.{carried, Recording, beginning, record_call, record_calls, begun}
use Rattle.book.specs.Ran.{recording_of}
use Rattle.order.proofs.Accepted.{in-range, in-room}
use Rattle.order.proofs.Induction.{Goes, goes, kept-list}
use Rattle.order.proofs.OfRun.{begun-run, ran-begun}
use Rattle.recorded.specs.Recorded.{used_of, recorded_of, Fits, FitsOfRun}
use Rattle.recorded.proofs.Good.{is_draw_call, Good}
use Rattle.recorded.proofs.Shapes.{neither, each_append, each_take, each-so}
use Rattle.recorded.proofs.BindingCalls.{words-written}
use Rattle.recorded.proofs.Commands.{Whole, each-command}
use Rattle.recorded.proofs.Growth.{grows, unbroken}

start-whole : Whole start_state
start-whole = length-replicate {A = ℕ} 64 0

-- ---- one call
-- a call that records is handed the list; the words stay whole
record Goes_on (caps : PrivateCapabilities) (rooms : Rooms) (s : State) (c : Call) : Type 0 where
  pub lent : ((meaning caps s c).commands ≡ []) ⊎ (((meaning caps s c).handed rooms).commands ≡ rooms.commands)
  pub whole : Whole s → Whole (meaning caps s c).after

goes_on : (caps : PrivateCapabilities) (rooms : Rooms) (s : State) (c : Call) → carried caps rooms s c ≡ true → Goes_on caps rooms s c
goes_on caps rooms s begin_encoding e = record { lent = inl refl; whole = λ n. start-whole }
goes_on caps rooms s end_encoding e = record { lent = inl refl; whole = λ n. n }
goes_on caps rooms s (reset_queries set start end) e = record { lent = inl refl; whole = λ n. n }
goes_on caps rooms s (set_vertex_buffer i raw offset) e = record { lent = inl refl; whole = λ n. n }
goes_on caps rooms s (set_immediates offset ws) e =
    record { lent = inr refl; whole = λ n. words-written s.immediates.words offset ws (in-range rooms s (meaning caps s (set_immediates offset ws)) e) n }
goes_on caps rooms s end_render_pass e = record { lent = inr refl; whole = λ n. n }
goes_on caps rooms s end_compute_pass e = record { lent = inr refl; whole = λ n. n }
goes_on caps rooms s (begin_render_pass d label set) e = record { lent = inr refl; whole = λ n. n }
goes_on caps rooms s (begin_compute_pass t label set) e = record { lent = inr refl; whole = λ n. n }
goes_on caps rooms s (transition_buffers l) e = record { lent = inr refl; whole = λ n. n }
goes_on caps rooms s (transition_textures l) e = record { lent = inr refl; whole = λ n. n }
goes_on caps rooms s (clear_buffer b range) e = record { lent = inr refl; whole = λ n. n }
goes_on caps rooms s (copy_buffer_to_buffer src dst l) e = record { lent = inr refl; whole = λ n. n }
goes_on caps rooms s (copy_query_results set start end dst offset) e = record { lent = inr refl; whole = λ n. n }
goes_on caps rooms s (begin_query set i) e = record { lent = inr refl; whole = λ n. n }
goes_on caps rooms s (end_query set i) e = record { lent = inr refl; whole = λ n. n }
goes_on caps rooms s (write_timestamp set i) e = record { lent = inr refl; whole = λ n. n }
goes_on caps rooms s (set_bind_group l i x g os) e = record { lent = inr refl; whole = λ n. n }
goes_on caps rooms s (set_render_pipeline p) e = record { lent = inr refl; whole = λ n. n }
goes_on caps rooms s (set_compute_pipeline p) e = record { lent = inr refl; whole = λ n. n }
goes_on caps rooms s (set_index_buffer raw offset format) e = record { lent = inr refl; whole = λ n. n }
goes_on caps rooms s (set_viewport r d) e = record { lent = inr refl; whole = λ n. n }
goes_on caps rooms s (set_scissor_rect r) e = record { lent = inr refl; whole = λ n. n }
goes_on caps rooms s (set_stencil_reference v) e = record { lent = inr refl; whole = λ n. n }
goes_on caps rooms s (set_blend_constants k) e = record { lent = inr refl; whole = λ n. n }
goes_on caps rooms s (draw vertex vertices instance instances) e = record { lent = inr refl; whole = λ n. n }
goes_on caps rooms s (draw_indexed fst count base instance instances) e = record { lent = inr refl; whole = λ n. n }
goes_on caps rooms s (draw_indirect raw offset n) e = record { lent = inr refl; whole = λ k. k }
goes_on caps rooms s (draw_indexed_indirect raw offset n) e = record { lent = inr refl; whole = λ k. k }
goes_on caps rooms s (dispatch_workgroups x y z) e = record { lent = inr refl; whole = λ n. n }
goes_on caps rooms s (dispatch_workgroups_indirect raw offset) e = record { lent = inr refl; whole = λ n. n }

-- the counts within their limits
record Within (p : Progress) : Type 0 where
  pub commands : ltb 4096 p.commands ≡ false
  pub bytes : ltb 65536 p.bytes ≡ false
  pub queries : ltb 1024 p.queries ≡ false

within-room : (p : Progress) (r : Rooms) → over_room p r ≡ false → Within p × (p.commands ≤ r.commands)
within-room p r e =
    let a = or_right (ltb 4096 p.commands) _ e in
    let b = or_right (ltb 65536 p.bytes) _ a in
    let c = or_right (ltb 1024 p.queries) _ b in (
      record { commands = or_left (ltb 4096 p.commands) _ e; bytes = or_left (ltb 65536 p.bytes) _ a; queries = or_left (ltb 1024 p.queries) _ b },
      ltb-false r.commands p.commands (or_left (ltb r.commands p.commands) (ltb r.bytes p.bytes || ltb r.queries p.queries) c),
    )

-- what holds of what is recorded so far
record Right (rooms : Rooms) (r : Recording) : Type 0 where
  pub whole : Whole r.state
  pub counted : length r.list ≡ r.state.progress.commands
  pub within : Within r.state.progress
  pub roomy : r.state.progress.commands ≤ rooms.commands
  pub fits : Each (λ (k : Command). breaks (used_of r.state.progress) k ≡ keeps) r.list

-- the list so far is kept whole, or is dropped
kept : (caps : PrivateCapabilities) (s : State) (c : Call) (l : List Command) → Each (λ (k : Command). breaks (used_of s.progress) k ≡ keeps) l
    → Each (λ (k : Command). breaks (used_of (progress_after (meaning caps s c))) k ≡ keeps) (take (meaning caps s c).after.progress.commands l)
kept caps s c l h = go (goes caps s c)
  where
    P : Progress → Command → Type 0
    P p k = breaks (used_of p) k ≡ keeps

    more : (a b : ℕ) (n : ℕ) → a ≡ b → b ≤ a + n
    more a b n q = omega (arith, q)

    go : Goes caps s c → Each (P (progress_after (meaning caps s c))) (take (meaning caps s c).after.progress.commands l)
    go (inl (p, _)) =
        each-so (P s.progress) (P (progress_after (meaning caps s c))) (take (meaning caps s c).after.progress.commands l)
        (λ k. grows (used_of s.progress) (used_of (progress_after (meaning caps s c))) k
        (more (meaning caps s c).after.progress.bytes s.progress.bytes (length (meaning caps s c).bytes) (ap (λ (x : Progress). x.bytes) p))
        (more (meaning caps s c).after.progress.queries s.progress.queries (length (meaning caps s c).queries) (ap (λ (x : Progress). x.queries) p)))
        (each_take (P s.progress) (meaning caps s c).after.progress.commands l h)
    go (inr (p, _)) = subst (λ (n : ℕ). Each (P (progress_after (meaning caps s c))) (take n l)) (sym (ap (λ (x : Progress). x.commands) p)) tt

-- the list has room for what the call leaves
room-left : (caps : PrivateCapabilities) (rooms : Rooms) (s : State) (c : Call) → s.progress.commands ≤ rooms.commands
    → (progress_after (meaning caps s c)).commands ≤ ((meaning caps s c).handed rooms).commands
    → ((meaning caps s c).commands ≡ []) ⊎ (((meaning caps s c).handed rooms).commands ≡ rooms.commands) → (progress_after (meaning caps s c)).commands ≤ rooms.commands
room-left caps rooms s c old new (inl e) = go (goes caps s c)
  where
    none : length (meaning caps s c).commands ≡ 0
    none = ap length e

    go : Goes caps s c → (progress_after (meaning caps s c)).commands ≤ rooms.commands
    go (inl (p, _)) = omega (arith, ap (λ (x : Progress). x.commands) p, none, old)
    go (inr (p, _)) = omega (arith, ap (λ (x : Progress). x.commands) p, none, old)
room-left caps rooms s c old new (inr e) = omega (arith, new, e)

one-call : (caps : PrivateCapabilities) (rooms : Rooms) (r : Recording) (c : Call) → Right rooms r → Right rooms (record_call caps rooms r c)
one-call caps rooms r c R = go (carried caps rooms r.state c) refl
  where
    s : State
    s = r.state

    go : (t : Bool) → carried caps rooms s c ≡ t
        → Right rooms
        (record {
          state = cond t (with_progress (progress_after (meaning caps s c)) (meaning caps s c).after) s;
          list = cond t (take (meaning caps s c).after.progress.commands r.list ++ (meaning caps s c).commands) r.list;
          bytes = cond t (take (meaning caps s c).after.progress.bytes r.bytes ++ (meaning caps s c).bytes) r.bytes;
          queries = cond t (take (meaning caps s c).after.progress.queries r.queries ++ (meaning caps s c).queries) r.queries;
        })
    go true e =
        let G = goes_on caps rooms s c e in
        let W = within-room (progress_after (meaning caps s c)) ((meaning caps s c).handed rooms) (in-room rooms s (meaning caps s c) e) in
        record {
          whole = G.whole R.whole;
          counted =
              length-append (take (meaning caps s c).after.progress.commands r.list) (meaning caps s c).commands
              ∙ ap (λ (n : ℕ). n + length (meaning caps s c).commands) (kept-list caps s c r.list R.counted).1;
          within = W.0;
          roomy = room-left caps rooms s c R.roomy W.1 G.lent;
          fits =
              each_append (λ (k : Command). breaks (used_of (progress_after (meaning caps s c))) k ≡ keeps) (take (meaning caps s c).after.progress.commands r.list) (meaning caps s c).commands
              (kept caps s c r.list R.fits)
              (each-so (Good (Whole s) (used_of (progress_after (meaning caps s c))) (is_draw_call c))
              (λ (k : Command). breaks (used_of (progress_after (meaning caps s c))) k ≡ keeps) (meaning caps s c).commands
              (λ k g. g.fits R.whole) (each-command caps rooms s c e));
        }
    go false e = record { whole = R.whole; counted = R.counted; within = R.within; roomy = R.roomy; fits = R.fits }

-- ---- all calls
all-calls : (caps : PrivateCapabilities) (rooms : Rooms) (r : Recording) (cs : List Call) → Right rooms r → Right rooms (record_calls caps rooms r cs)
unfolding record_calls
all-calls caps rooms r [] R = R
all-calls caps rooms r (c ∷ cs) R = all-calls caps rooms (record_call caps rooms r c) cs (one-call caps rooms r c R)

-- what has begun has room in any list
began : (caps : PrivateCapabilities) (rooms rooms' : Rooms) (s : State) → carried caps rooms s begin_encoding ≡ true → Right rooms' (begun caps rooms s)
began caps rooms rooms' s e =
    subst (λ (x : State). Right rooms' (beginning x)) (sym (ap (λ (t : Bool). cond t (with_progress (progress_after (meaning caps s begin_encoding)) (meaning caps s begin_encoding).after) s) e))
    (record { whole = start-whole; counted = refl; within = record { commands = refl; bytes = refl; queries = refl }; roomy = zero-le; fits = tt })

-- ---- the claim
counts-in : (room : ℕ) (p : Progress) → Within p → p.commands ≤ room → over_counts room (used_of p) ≡ false
counts-in room p w h = neither w.commands (neither w.bytes (neither w.queries (le-ltb room p.commands h)))

pub recorded-fits : Fits
recorded-fits caps rooms s calls e =
    let R = all-calls caps rooms (begun caps rooms s) calls (began caps rooms rooms s e) in
    let r = record_calls caps rooms (begun caps rooms s) calls in
    unbroken (recorded_of rooms r) (counts-in rooms.commands r.state.progress R.within R.roomy) R.fits

pub recorded-fits-of-run : FitsOfRun
recorded-fits-of-run caps s₀ s' r₀ r r' a calls d e run =
    let B = begun-run caps s₀ r₀ r a d e in
    let R : Right (rooms_of r) (recording_of s' r') =
    subst (Right (rooms_of r)) (sym (ran-begun caps B run))
    (all-calls caps (rooms_of r) (beginning a.state) calls
    (subst (λ (x : State). Right (rooms_of r) (beginning x)) (sym d.state) (began caps (rooms_of r₀) (rooms_of r) s₀ (ap accepted (sym d.outcome ∙ e))))) in
    unbroken (handed r'.commands (used_of s'.progress)) (counts-in (length r'.commands) s'.progress R.within (there s'.progress.commands r'.commands R.counted)) R.fits
  where
    there : (n : ℕ) (l : List Record) → length (map (λ (x : Record). x.command) (take n l)) ≡ n → n ≤ length l
    there n l q = omega (arith, q, length-map (take n l) (λ (x : Record). x.command), length-take n l)
