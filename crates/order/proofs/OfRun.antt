-- The tie to the code: what a run leaves is what the definitions record, and the order theorem of the answers, states and lists of a run. Assumes nothing.
use Prim.Native.Nat.{ℕ, zero, suc, ◌+◌, ◌-◌, ◌≤◌, zero-le}
use mathlib.Core.Path.{◌≡◌, refl, sym, ap, ap₂, ◌∙◌, subst}
use mathlib.Core.Bool.{Bool, true, false, cond, ◌||◌}
use mathlib.Core.List.{List, [], ◌∷◌, ◌++◌, map, map-append, append_assoc, append-nil}
use mathlib.Core.Logic.{◌⊎◌, inl, inr}
use native.Mathlib.Nat.{add-zero, le_of_eq}
use native.Mathlib.Omega.{arith}
use lib.Dec.{ltb}
use lib.ListN.{length, take, drop, length-append, length-drop, take-append-drop, length-map}
use lib.Seq.{length-take-le, take-take, take_at}
use borrow.Author.Tests.{ltb-false}
use Rattle.records.specs.Outcome.{accepted}
use Rattle.records.specs.Check.{over_room}
use Rattle.records.specs.declared.check.Rooms.{Rooms}
use Rattle.records.specs.declared.command.Command.{Command}
use Rattle.records.specs.declared.command.Record.{Record}
use Rattle.records.specs.declared.outcome.Outcome.{Outcome}
use Rattle.records.specs.declared.outcome.Outcome.TheVariants.{Done, WrongPhase, TooMany, OutOfRange, Absent, WrongKind, Overflow, NoRoom}
use Rattle.records.specs.declared.pipeline.PrivateCapabilities.{PrivateCapabilities}
use Rattle.records.specs.declared.state.Answer.{Answer}
use Rattle.records.specs.declared.state.Progress.{Progress}
use Rattle.records.specs.declared.state.State.{State}
use Rattle.calls.specs.Call.{Call, begin_encoding, end_encoding, begin_render_pass, end_render_pass, begin_compute_pass, end_compute_pass, transition_buffers, transition_textures, clear_buffer, copy_buffer_to_buffer, copy_query_results, begin_query, end_query, write_timestamp, reset_queries, set_bind_group, set_immediates, set_render_pipeline, set_compute_pipeline, set_index_buffer, set_vertex_buffer, set_viewport, set_scissor_rect, set_stencil_reference, set_blend_constants, draw, draw_indexed, draw_indirect, draw_indexed_indirect, dispatch_workgroups, dispatch_workgroups_indirect}
use Rattle.calls.specs.Parts.{with_progress}
use Rattle.calls.specs.Meaning.{Meaning}
use Rattle.calls.specs.Step.{meaning, progress_after, step}
use Rattle.calls.specs.Did.{Runs, rooms_of, written, record_of, runs_after, Did}
use Rattle.machine.proofs.Lists.{or_left, or_right}
use Rattle.machine.specs.Machine.{fresh, play}
use Rattle.book.specs.Book.{Entered, Fed, empty, book_of}
use Rattle.order.proofs.Accepted.{in-room}
use Rattle.book.specs.Run.{carried, Recording, beginning, record_call, record_calls, fed, Premises}
use Rattle.book.specs.Ran.{Ran, done, then, is_done, answers, commands_of, marks_of, queries_of, recording_of}
use Rattle.order.specs.Claim.{OrderOfRun}
use Rattle.order.proofs.Invariant.{Agree}
use Rattle.book.specs.FirstPass.{found, named}
use Rattle.order.proofs.Induction.{Goes, goes, Right, began, all-calls, as_many, found-is}

-- ---- a call appends nothing to a run, or it is handed the run and appends behind what the state counts
abbrev pub Lent : {A : Type 0} → List A → ℕ → ℕ → ℕ → ℕ → Type 0
Lent xs handed room after before = (xs ≡ []) ⊎ ((handed ≡ room) × (after ≡ before))

pub lends : (caps : PrivateCapabilities) (rooms : Rooms) (s : State) (c : Call)
    → Lent (meaning caps s c).commands ((meaning caps s c).handed rooms).commands rooms.commands (meaning caps s c).after.progress.commands s.progress.commands
    × Lent (meaning caps s c).bytes ((meaning caps s c).handed rooms).bytes rooms.bytes (meaning caps s c).after.progress.bytes s.progress.bytes
    × Lent (meaning caps s c).queries ((meaning caps s c).handed rooms).queries rooms.queries (meaning caps s c).after.progress.queries s.progress.queries
lends caps rooms s begin_encoding = (inl refl, inl refl, inl refl)
lends caps rooms s end_encoding = (inl refl, inl refl, inl refl)
lends caps rooms s (reset_queries set start end) = (inl refl, inl refl, inl refl)
lends caps rooms s (set_vertex_buffer i raw offset) = (inl refl, inl refl, inl refl)
lends caps rooms s (begin_render_pass d label set) = (inr (refl, refl), inr (refl, refl), inl refl)
lends caps rooms s (begin_compute_pass t label set) = (inr (refl, refl), inr (refl, refl), inl refl)
lends caps rooms s (set_immediates offset ws) = (inr (refl, refl), inr (refl, refl), inl refl)
lends caps rooms s (copy_query_results set start end dst offset) = (inr (refl, refl), inl refl, inr (refl, refl))
lends caps rooms s end_render_pass = (inr (refl, refl), inl refl, inl refl)
lends caps rooms s end_compute_pass = (inr (refl, refl), inl refl, inl refl)
lends caps rooms s (transition_buffers l) = (inr (refl, refl), inl refl, inl refl)
lends caps rooms s (transition_textures l) = (inr (refl, refl), inl refl, inl refl)
lends caps rooms s (clear_buffer x range) = (inr (refl, refl), inl refl, inl refl)
lends caps rooms s (copy_buffer_to_buffer src dst l) = (inr (refl, refl), inl refl, inl refl)
lends caps rooms s (begin_query set i) = (inr (refl, refl), inl refl, inl refl)
lends caps rooms s (end_query set i) = (inr (refl, refl), inl refl, inl refl)
lends caps rooms s (write_timestamp set i) = (inr (refl, refl), inl refl, inl refl)
lends caps rooms s (set_bind_group l i e g os) = (inr (refl, refl), inl refl, inl refl)
lends caps rooms s (set_render_pipeline p) = (inr (refl, refl), inl refl, inl refl)
lends caps rooms s (set_compute_pipeline p) = (inr (refl, refl), inl refl, inl refl)
lends caps rooms s (set_index_buffer raw offset format) = (inr (refl, refl), inl refl, inl refl)
lends caps rooms s (set_viewport r d) = (inr (refl, refl), inl refl, inl refl)
lends caps rooms s (set_scissor_rect r) = (inr (refl, refl), inl refl, inl refl)
lends caps rooms s (set_stencil_reference v) = (inr (refl, refl), inl refl, inl refl)
lends caps rooms s (set_blend_constants k) = (inr (refl, refl), inl refl, inl refl)
lends caps rooms s (draw vertex vertices instance instances) = (inr (refl, refl), inl refl, inl refl)
lends caps rooms s (draw_indexed fst count base instance instances) = (inr (refl, refl), inl refl, inl refl)
lends caps rooms s (draw_indirect raw offset n) = (inr (refl, refl), inl refl, inl refl)
lends caps rooms s (draw_indexed_indirect raw offset n) = (inr (refl, refl), inl refl, inl refl)
lends caps rooms s (dispatch_workgroups x y z) = (inr (refl, refl), inl refl, inl refl)
lends caps rooms s (dispatch_workgroups_indirect raw offset) = (inr (refl, refl), inl refl, inl refl)

-- ---- one run
nothing_written : {A : Type 0} (run : List A) (at : ℕ) → written run at [] ≡ run
nothing_written run at = ap (λ (n : ℕ). take at run ++ drop n run) (add-zero at) ∙ take-append-drop at run

written-long : {A : Type 0} (run : List A) (at : ℕ) (xs : List A) → at + length xs ≤ length run → length (written run at xs) ≡ length run
written-long run at xs h =
    length-append (take at run) (xs ++ drop (at + length xs) run)
    ∙ ap₂ (λ (a b : ℕ). a + b) (length-take-le at run (omega arith)) (length-append xs (drop (at + length xs) run) ∙ ap (λ (n : ℕ). length xs + n) (length-drop (at + length xs) run))
    ∙ adds at (length xs) (length run) h
  where
    adds : (a x r : ℕ) → a + x ≤ r → a + (x + (r - (a + x))) ≡ r
    adds a x r h = omega arith

-- the run is as long as before, and what the next state counts of it is what it counted, and then what was appended
lent_run : {A : Type 0} (run : List A) (xs : List A) (handed room after before : ℕ) → Lent xs handed room after before → length run ≡ room → after + length xs ≤ handed → after ≤ before → before ≤ length run
    → (length (written run before xs) ≡ length run) × (take (after + length xs) (written run before xs) ≡ take after (take before run) ++ xs)
lent_run run xs handed room after before (inl e) n h l k = (
  ap (λ (ys : List _). length (written run before ys)) e ∙ ap length (nothing_written run before),
  subst (λ (ys : List _). take (after + length ys) (written run before ys) ≡ take after (take before run) ++ ys) (sym e)
      (ap₂ (λ (i : ℕ) (ys : List _). take i ys) (add-zero after) (nothing_written run before) ∙ sym (take-take after before run l) ∙ sym (append-nil (take after (take before run)))),
)
lent_run run xs handed room after before (inr (p, q)) n h l k = (
  written-long run before xs fits,
  ap (λ (i : ℕ). take (i + length xs) (written run before xs)) q
      ∙ ap (take (before + length xs)) (sym (append_assoc (take before run) xs (drop (before + length xs) run)))
      ∙ take_at (take before run ++ xs) (drop (before + length xs) run) (before + length xs) (length-append (take before run) xs ∙ ap (λ (i : ℕ). i + length xs) (length-take-le before run k))
      ∙ ap (λ (ys : List _). ys ++ xs) (sym (ap (λ (i : ℕ). take i (take before run)) q ∙ take-take before before run (le_of_eq refl))),
)
  where
    fits : before + length xs ≤ length run
    fits = omega arith

-- ---- one call
pub record Within (s : State) (r : Runs) : Type 0 where
  pub commands : s.progress.commands ≤ length r.commands
  pub bytes : s.progress.bytes ≤ length r.bytes
  pub queries : s.progress.queries ≤ length r.queries

-- what a call leaves of the runs: as long as they were, and what is recorded there is the recording's
record Left (caps : PrivateCapabilities) (s : State) (r : Runs) (c : Call) (s' : State) (r' : Runs) : Type 0 where
  pub rooms : rooms_of r' ≡ rooms_of r
  pub within : Within s' r'
  pub list : commands_of s' r' ≡ (record_call caps (rooms_of r) (recording_of s r) c).list
  pub marks : marks_of s' r' ≡ (record_call caps (rooms_of r) (recording_of s r) c).bytes
  pub queries : queries_of s' r' ≡ (record_call caps (rooms_of r) (recording_of s r) c).queries

-- the counts of the state that a call goes on from
pub counts : (caps : PrivateCapabilities) (s : State) (c : Call)
    → ((meaning caps s c).after.progress.commands ≤ s.progress.commands) × ((meaning caps s c).after.progress.bytes ≤ s.progress.bytes) × ((meaning caps s c).after.progress.queries ≤ s.progress.queries)
counts caps s c = go (goes caps s c)
  where
    go : Goes caps s c
        → ((meaning caps s c).after.progress.commands ≤ s.progress.commands) × ((meaning caps s c).after.progress.bytes ≤ s.progress.bytes) × ((meaning caps s c).after.progress.queries ≤ s.progress.queries)
    go (inl (p, h)) = (le_of_eq (ap (λ (x : Progress). x.commands) p), le_of_eq (ap (λ (x : Progress). x.bytes) p), le_of_eq (ap (λ (x : Progress). x.queries) p))
    go (inr (p, h)) = (
      subst (λ (n : ℕ). n ≤ s.progress.commands) (sym (ap (λ (x : Progress). x.commands) p)) zero-le,
      subst (λ (n : ℕ). n ≤ s.progress.bytes) (sym (ap (λ (x : Progress). x.bytes) p)) zero-le,
      subst (λ (n : ℕ). n ≤ s.progress.queries) (sym (ap (λ (x : Progress). x.queries) p)) zero-le,
    )

-- what room an accepted call has
roomy : (p : Progress) (r : Rooms) → over_room p r ≡ false → (p.commands ≤ r.commands) × (p.bytes ≤ r.bytes) × (p.queries ≤ r.queries)
roomy p r e =
    let a = or_right (ltb 1024 p.queries) _ (or_right (ltb 65536 p.bytes) _ (or_right (ltb 4096 p.commands) _ e)) in
    let b = or_right (ltb r.commands p.commands) (ltb r.bytes p.bytes || ltb r.queries p.queries) a in (
      ltb-false r.commands p.commands (or_left (ltb r.commands p.commands) (ltb r.bytes p.bytes || ltb r.queries p.queries) a),
      ltb-false r.bytes p.bytes (or_left (ltb r.bytes p.bytes) (ltb r.queries p.queries) b),
      ltb-false r.queries p.queries (or_right (ltb r.bytes p.bytes) (ltb r.queries p.queries) b),
    )

-- a run that grows to a count stays within it
grown : {A : Type 0} (run xs : List A) (handed room after before : ℕ) → Lent xs handed room after before → length run ≡ room → after + length xs ≤ handed → after ≤ before → before ≤ length run → after + length xs ≤ length run
grown run xs handed room after before (inl e) n h l k = subst (λ (ys : List _). after + length ys ≤ length run) (sym e) (omega arith)
grown run xs handed room after before (inr (p, q)) n h l k = omega arith

pub mapped-back : (cs : List Command) → map (λ (x : Record). x.command) (map record_of cs) ≡ cs
mapped-back [] = refl
mapped-back (c ∷ cs) = ap (λ (l : List Command). c ∷ l) (mapped-back cs)

mapped-empty : (cs : List Command) → cs ≡ [] → map record_of cs ≡ []
mapped-empty cs e = ap (map record_of) e

lent_map : (cs : List Command) (handed room after before : ℕ) → Lent cs handed room after before → Lent (map record_of cs) handed room after before
lent_map cs handed room after before (inl e) = inl (mapped-empty cs e)
lent_map cs handed room after before (inr q) = inr q

carried-through : (caps : PrivateCapabilities) (s : State) (r : Runs) (c : Call) → Within s r → carried caps (rooms_of r) s c ≡ true
    → Left caps s r c (with_progress (progress_after (meaning caps s c)) (meaning caps s c).after)
    (record {
      commands = written r.commands s.progress.commands (map record_of (meaning caps s c).commands);
      bytes = written r.bytes s.progress.bytes (meaning caps s c).bytes;
      queries = written r.queries s.progress.queries (meaning caps s c).queries;
    })
carried-through caps s r c W e =
    record {
      rooms = λ j. record { commands = C.0 j; bytes = B.0 j; queries = Q.0 j };
      within =
          record {
            commands = subst (λ (n : ℕ). n ≤ length (written r.commands s.progress.commands (map record_of q.commands))) (ap (λ (n : ℕ). q.after.progress.commands + n) as_long) (subst (λ (n : ℕ). q.after.progress.commands + length (map record_of q.commands) ≤ n) (sym C.0) c-fits);
            bytes = subst (λ (n : ℕ). q.after.progress.bytes + length q.bytes ≤ n) (sym B.0) (grown r.bytes q.bytes _ _ _ _ L.1 refl fit.1 low.1 W.bytes);
            queries = subst (λ (n : ℕ). q.after.progress.queries + length q.queries ≤ n) (sym Q.0) (grown r.queries q.queries _ _ _ _ L.2 refl fit.2 low.2 W.queries);
          };
      list =
          ap (λ (n : ℕ). map (λ (x : Record). x.command) (take (q.after.progress.commands + n) (written r.commands s.progress.commands (map record_of q.commands)))) (sym as_long)
          ∙ ap (map (λ (x : Record). x.command)) C.1
          ∙ map-append (λ (x : Record). x.command) (take q.after.progress.commands (take s.progress.commands r.commands)) (map record_of q.commands)
          ∙ ap₂ (λ (a b : List Command). a ++ b) (map-take q.after.progress.commands (take s.progress.commands r.commands)) (mapped-back q.commands)
          ∙ sym (ap (λ (t : Bool). cond t (take q.after.progress.commands (commands_of s r) ++ q.commands) (commands_of s r)) e);
      marks = B.1 ∙ sym (ap (λ (t : Bool). cond t (take q.after.progress.bytes (marks_of s r) ++ q.bytes) (marks_of s r)) e);
      queries = Q.1 ∙ sym (ap (λ (t : Bool). cond t (take q.after.progress.queries (queries_of s r) ++ q.queries) (queries_of s r)) e);
    }
  where
    q : Meaning
    q = meaning caps s c

    L : Lent q.commands (q.handed (rooms_of r)).commands (length r.commands) q.after.progress.commands s.progress.commands
        × Lent q.bytes (q.handed (rooms_of r)).bytes (length r.bytes) q.after.progress.bytes s.progress.bytes
        × Lent q.queries (q.handed (rooms_of r)).queries (length r.queries) q.after.progress.queries s.progress.queries
    L = lends caps (rooms_of r) s c

    fit : ((progress_after q).commands ≤ (q.handed (rooms_of r)).commands) × ((progress_after q).bytes ≤ (q.handed (rooms_of r)).bytes) × ((progress_after q).queries ≤ (q.handed (rooms_of r)).queries)
    fit = roomy (progress_after q) (q.handed (rooms_of r)) (in-room (rooms_of r) s q e)

    low : (q.after.progress.commands ≤ s.progress.commands) × (q.after.progress.bytes ≤ s.progress.bytes) × (q.after.progress.queries ≤ s.progress.queries)
    low = counts caps s c

    as_long : length (map record_of q.commands) ≡ length q.commands
    as_long = length-map q.commands record_of

    c-handed : q.after.progress.commands + length (map record_of q.commands) ≤ (q.handed (rooms_of r)).commands
    c-handed = subst (λ (n : ℕ). q.after.progress.commands + n ≤ (q.handed (rooms_of r)).commands) (sym as_long) fit.0

    c-fits : q.after.progress.commands + length (map record_of q.commands) ≤ length r.commands
    c-fits = grown r.commands (map record_of q.commands) _ _ _ _ (lent_map q.commands _ _ _ _ L.0) refl c-handed low.0 W.commands

    C : (length (written r.commands s.progress.commands (map record_of q.commands)) ≡ length r.commands)
        × (take (q.after.progress.commands + length (map record_of q.commands)) (written r.commands s.progress.commands (map record_of q.commands)) ≡ take q.after.progress.commands (take s.progress.commands r.commands) ++ map record_of q.commands)
    C = lent_run r.commands (map record_of q.commands) _ _ _ _ (lent_map q.commands _ _ _ _ L.0) refl c-handed low.0 W.commands

    B : (length (written r.bytes s.progress.bytes q.bytes) ≡ length r.bytes) × (take (q.after.progress.bytes + length q.bytes) (written r.bytes s.progress.bytes q.bytes) ≡ take q.after.progress.bytes (take s.progress.bytes r.bytes) ++ q.bytes)
    B = lent_run r.bytes q.bytes _ _ _ _ L.1 refl fit.1 low.1 W.bytes

    Q : (length (written r.queries s.progress.queries q.queries) ≡ length r.queries) × (take (q.after.progress.queries + length q.queries) (written r.queries s.progress.queries q.queries) ≡ take q.after.progress.queries (take s.progress.queries r.queries) ++ q.queries)
    Q = lent_run r.queries q.queries _ _ _ _ L.2 refl fit.2 low.2 W.queries

    map-take : (n : ℕ) (l : List Record) → map (λ (x : Record). x.command) (take n l) ≡ take n (map (λ (x : Record). x.command) l)
    map-take zero l = refl
    map-take (suc n) [] = refl
    map-take (suc n) (x ∷ l) = ap (λ (k : List Command). x.command ∷ k) (map-take n l)

one-did : (caps : PrivateCapabilities) (s : State) (r : Runs) (c : Call) → Within s r → Left caps s r c (step caps (rooms_of r) s c).state (runs_after s (step caps (rooms_of r) s c) r)
one-did caps s r c W = go (carried caps (rooms_of r) s c) refl
  where
    q : Meaning
    q = meaning caps s c

    go : (t : Bool) → carried caps (rooms_of r) s c ≡ t
        → Left caps s r c (cond t (with_progress (progress_after q) q.after) s)
        (record {
          commands = written r.commands s.progress.commands (map record_of (cond t q.commands []));
          bytes = written r.bytes s.progress.bytes (cond t q.bytes []);
          queries = written r.queries s.progress.queries (cond t q.queries []);
        })
    go true e = carried-through caps s r c W e
    go false e =
        let a = nothing_written r.commands s.progress.commands in
        let b = nothing_written r.bytes s.progress.bytes in
        let d = nothing_written r.queries s.progress.queries in
        subst (λ (x : Runs). Left caps s r c s x) (sym (λ j. record { commands = a j; bytes = b j; queries = d j }))
        (record {
          rooms = refl;
          within = W;
          list = sym (ap (λ (t : Bool). cond t (take q.after.progress.commands (commands_of s r) ++ q.commands) (commands_of s r)) e);
          marks = sym (ap (λ (t : Bool). cond t (take q.after.progress.bytes (marks_of s r) ++ q.bytes) (marks_of s r)) e);
          queries = sym (ap (λ (t : Bool). cond t (take q.after.progress.queries (queries_of s r) ++ q.queries) (queries_of s r)) e);
        })

-- what a call leaves that did what its contract says
left_by : (caps : PrivateCapabilities) (s : State) (r r₁ : Runs) (c : Call) (a : Answer) → Did caps s r c a r₁ → Within s r → Left caps s r c a.state r₁
left_by caps s r r₁ c a d W =
    subst (λ (x : Runs). Left caps s r c a.state x) (sym d.runs)
    (subst (λ (x : State). Left caps s r c x (runs_after s (step caps (rooms_of r) s c) r)) (sym d.state) (one-did caps s r c W))

-- ---- a whole run
pub ran-records : (caps : PrivateCapabilities) {s s' : State} {r r' : Runs} {cs : List Call} → Ran caps s r cs s' r' → Within s r
    → recording_of s' r' ≡ record_calls caps (rooms_of r) (recording_of s r) cs
unfolding record_calls
ran-records caps done W = refl
ran-records caps {s} {s'} {r} {r'} (then {r₁ = r₁} {c = c} {cs = cs} a d R) W =
    let L = left_by caps s r r₁ c a d W in
    let e : recording_of a.state r₁ ≡ record_call caps (rooms_of r) (recording_of s r) c = λ j. record { state = d.state j; list = L.list j; bytes = L.marks j; queries = L.queries j } in
    ran-records caps R L.within ∙ ap₂ (λ (x : Rooms) (y : Recording). record_calls caps x y cs) L.rooms e

-- the runs stay as long as they were, and what the state counts stays within them
pub ran-rooms : (caps : PrivateCapabilities) {s s' : State} {r r' : Runs} {cs : List Call} → Ran caps s r cs s' r' → Within s r → rooms_of r' ≡ rooms_of r
ran-rooms caps done W = refl
ran-rooms caps {s} {s'} {r} {r'} (then {r₁ = r₁} {c = c} a d R) W =
    let L = left_by caps s r r₁ c a d W in
    ran-rooms caps R L.within ∙ L.rooms

pub ran-within : (caps : PrivateCapabilities) {s s' : State} {r r' : Runs} {cs : List Call} → Ran caps s r cs s' r' → Within s r → Within s' r'
ran-within caps done W = W
ran-within caps {s} {s'} {r} {r'} (then {r₁ = r₁} {c = c} a d R) W = ran-within caps R (left_by caps s r r₁ c a d W).within

-- what the functions answered is what the definition says of the calls
done-is : (o : Outcome) → is_done o ≡ accepted o
done-is Done = refl
done-is WrongPhase = refl
done-is TooMany = refl
done-is OutOfRange = refl
done-is Absent = refl
done-is WrongKind = refl
done-is Overflow = refl
done-is NoRoom = refl

pub answers-are : (caps : PrivateCapabilities) {s s' : State} {r r' : Runs} {cs : List Call} (R : Ran caps s r cs s' r') → Within s r → answers R ≡ fed caps (rooms_of r) s cs
unfolding answers fed
answers-are caps done W = refl
answers-are caps {s} {s'} {r} {r'} (then {r₁ = r₁} {c = c} {cs = cs} a d R) W =
    let L = left_by caps s r r₁ c a d W in
    let t : is_done a.outcome ≡ carried caps (rooms_of r) s c = done-is a.outcome ∙ ap accepted d.outcome in
    let I : answers R ≡ fed caps (rooms_of r) (step caps (rooms_of r) s c).state cs = answers-are caps R L.within ∙ ap₂ (λ (x : Rooms) (y : State). fed caps x y cs) L.rooms d.state in
    λ j. record { call = c; accepted = t j } ∷ I j

-- where a run begins: after a `begin_encoding` that answered `Done`
pub record Begun (caps : PrivateCapabilities) (r : Runs) (a : Answer) : Type 0 where
  pub within : Within a.state r
  pub nothing : recording_of a.state r ≡ beginning a.state
  pub right : Right caps (beginning a.state) empty

pub begun-run : (caps : PrivateCapabilities) (s₀ : State) (r₀ r : Runs) (a : Answer) → Did caps s₀ r₀ begin_encoding a r → a.outcome ≡ Done → Begun caps r a
begun-run caps s₀ r₀ r a d e =
    record {
      within = subst (λ (x : State). Within x r) (sym fresh-state) (record { commands = zero-le; bytes = zero-le; queries = zero-le });
      nothing =
          let l = ap (λ (x : State). commands_of x r) fresh-state in
          let b = ap (λ (x : State). marks_of x r) fresh-state in
          let q = ap (λ (x : State). queries_of x r) fresh-state in
          λ j. record { state = a.state; list = l j; bytes = b j; queries = q j };
      right = subst (λ (x : State). Right caps (beginning x) empty) (sym d.state) (began caps (rooms_of r₀) s₀ carries);
    }
  where
    carries : carried caps (rooms_of r₀) s₀ begin_encoding ≡ true
    carries = ap accepted (sym d.outcome ∙ e)

    fresh-state : a.state ≡ with_progress (progress_after (meaning caps s₀ begin_encoding)) (meaning caps s₀ begin_encoding).after
    fresh-state = d.state ∙ ap (λ (t : Bool). cond t (with_progress (progress_after (meaning caps s₀ begin_encoding)) (meaning caps s₀ begin_encoding).after) s₀) carries

-- what such a run has recorded
pub ran-begun : (caps : PrivateCapabilities) {s' : State} {r r' : Runs} {a : Answer} {calls : List Call} → Begun caps r a → Ran caps a.state r calls s' r'
    → recording_of s' r' ≡ record_calls caps (rooms_of r) (beginning a.state) calls
ran-begun caps {r = r} {calls = calls} B R = ran-records caps R B.within ∙ ap (λ (y : Recording). record_calls caps (rooms_of r) y calls) B.nothing

-- THE ORDER THEOREM of the code's own answers, states and lists: for any run after a `begin_encoding` that answered `Done`, in which each call did what its contract says
pub order-of-run : OrderOfRun
order-of-run caps s₀ s' r₀ r r' a calls d e R P =
    subst
    (λ (fs : List Fed). (length (play fresh (commands_of s' r')).shots ≡ length (book_of caps empty fs).draws) × (found (book_of caps empty fs).draws (play fresh (commands_of s' r')).shots ≡ named (book_of caps empty fs).draws))
    (sym same) (as_many caps (play fresh (commands_of s' r')).shots ds agree, found-is caps (play fresh (commands_of s' r')).shots ds agree)
  where
    B : Begun caps r a
    B = begun-run caps s₀ r₀ r a d e

    same : answers R ≡ fed caps (rooms_of r) a.state calls
    same = answers-are caps R B.within

    ds : List Entered
    ds = (book_of caps empty (fed caps (rooms_of r) a.state calls)).draws

    list : commands_of s' r' ≡ (record_calls caps (rooms_of r) (beginning a.state) calls).list
    list = ap (λ (y : Recording). y.list) (ran-begun caps B R)

    agree : Agree caps (play fresh (commands_of s' r')).shots ds
    agree =
        subst (λ (l : List Command). Agree caps (play fresh l).shots ds) (sym list)
        (all-calls caps (rooms_of r) (beginning a.state) empty calls B.right (subst (Premises caps empty) same P)).tied.log
