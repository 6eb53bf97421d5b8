-- No run gets stuck: from an accepted `begin_encoding` on no call is turned away for the state that it is handed, each refusal is the call's own, and the phase is the one that the
-- accepted calls tell. Assumes nothing.
use Prim.Native.Nat.{ℕ, ◌+◌, ◌≤◌, zero-le}
use mathlib.Core.Path.{◌≡◌, refl, sym, ap, ap₂, ◌∙◌, subst}
use mathlib.Core.Bool.{Bool, true, false, cond, ◌||◌}
use mathlib.Core.List.{List, [], ◌∷◌}
use mathlib.Core.Logic.{inl, inr}
use native.Mathlib.Omega.{arith}
use lib.Dec.{ltb}
use lib.ListN.{length}
use borrow.Author.Tests.{ltb-false, le-ltb}
use Rattle.records.specs.Check.{over_room, state_conditions}
use Rattle.records.specs.Outcome.{number, accepted, none_hold, either, Smallest}
use Rattle.records.specs.declared.check.Rooms.{Rooms}
use Rattle.records.specs.declared.outcome.Conditions.{Conditions}
use Rattle.records.specs.declared.pipeline.PrivateCapabilities.{PrivateCapabilities}
use Rattle.records.specs.declared.outcome.Outcome.TheVariants.{Done}
use Rattle.records.specs.declared.state.Answer.{Answer}
use Rattle.records.specs.declared.state.Phase.{Phase}
use Rattle.records.specs.declared.state.Phase.TheVariants.{Open}
use Rattle.records.specs.declared.state.Progress.{Progress}
use Rattle.records.specs.declared.state.State.{State}
use Rattle.calls.specs.Call.{Call, begin_encoding, end_encoding, begin_render_pass, end_render_pass, begin_compute_pass, end_compute_pass, transition_buffers, transition_textures, clear_buffer, copy_buffer_to_buffer, copy_query_results, begin_query, end_query, write_timestamp, reset_queries, set_bind_group, set_immediates, set_render_pipeline, set_compute_pipeline, set_index_buffer, set_vertex_buffer, set_viewport, set_scissor_rect, set_stencil_reference, set_blend_constants, draw, draw_indexed, draw_indirect, draw_indexed_indirect, dispatch_workgroups, dispatch_workgroups_indirect}
use Rattle.calls.specs.Did.{Runs, rooms_of, Did}
use Rattle.calls.specs.Meaning.{Meaning, no_run, list_run, bytes_run, queries_run}
use Rattle.calls.specs.Parts.{with_progress}
use Rattle.calls.specs.Step.{meaning, progress_after, call_conditions, step}
use Rattle.machine.proofs.Lists.{or_left, or_right, false-true}
use Rattle.book.specs.Ran.{Ran, answers, recording_of}
use Rattle.book.specs.Run.{carried, Recording, beginning, record_call, record_calls, fed, begun}
use Rattle.order.specs.Phases.{phase_after, phase_told}
use Rattle.order.specs.Claim.{NeverBroken, NeverBrokenOfRun, OwnRefusalOfRun, PhaseOfRun}
use Rattle.order.proofs.Accepted.{in-room}
use Rattle.order.proofs.OfRun.{Lent, lends, counts, ran-begun, ran-rooms, answers-are, Begun, begun-run}
use Rattle.order.proofs.Unbroken.{Intact, intact-is, all-intact, begun-intact}

-- ---- the counts
-- within the limits of one list, and within the lent runs
record Fits (p : Progress) (r : Rooms) : Type 0 where
  commands : p.commands ≤ 4096
  bytes : p.bytes ≤ 65536
  queries : p.queries ≤ 1024
  lent_commands : p.commands ≤ r.commands
  lent_bytes : p.bytes ≤ r.bytes
  lent_queries : p.queries ≤ r.queries

none : (a b : Bool) → a ≡ false → b ≡ false → a || b ≡ false
none true b p q = p
none false b p q = q

fits-room : (p : Progress) (r : Rooms) → Fits p r → over_room p r ≡ false
fits-room p r F =
    none _ _ (le-ltb 4096 p.commands F.commands)
    (none _ _ (le-ltb 65536 p.bytes F.bytes)
    (none _ _ (le-ltb 1024 p.queries F.queries)
    (none _ _ (le-ltb r.commands p.commands F.lent_commands)
    (none _ _ (le-ltb r.bytes p.bytes F.lent_bytes) (le-ltb r.queries p.queries F.lent_queries)))))

room_fits : (p : Progress) (r : Rooms) → over_room p r ≡ false → Fits p r
room_fits p r e =
    record {
      commands = ltb-false 4096 p.commands (or_left (ltb 4096 p.commands) _ e);
      bytes = ltb-false 65536 p.bytes (or_left (ltb 65536 p.bytes) _ e₁);
      queries = ltb-false 1024 p.queries (or_left (ltb 1024 p.queries) _ e₂);
      lent_commands = ltb-false r.commands p.commands (or_left (ltb r.commands p.commands) _ e₃);
      lent_bytes = ltb-false r.bytes p.bytes (or_left (ltb r.bytes p.bytes) (ltb r.queries p.queries) e₄);
      lent_queries = ltb-false r.queries p.queries (or_right (ltb r.bytes p.bytes) (ltb r.queries p.queries) e₄);
    }
  where
    e₁ : ltb 65536 p.bytes || (ltb 1024 p.queries || (ltb r.commands p.commands || (ltb r.bytes p.bytes || ltb r.queries p.queries))) ≡ false
    e₁ = or_right (ltb 4096 p.commands) _ e

    e₂ : ltb 1024 p.queries || (ltb r.commands p.commands || (ltb r.bytes p.bytes || ltb r.queries p.queries)) ≡ false
    e₂ = or_right (ltb 65536 p.bytes) _ e₁

    e₃ : ltb r.commands p.commands || (ltb r.bytes p.bytes || ltb r.queries p.queries) ≡ false
    e₃ = or_right (ltb 1024 p.queries) _ e₂

    e₄ : ltb r.bytes p.bytes || ltb r.queries p.queries ≡ false
    e₄ = or_right (ltb r.commands p.commands) _ e₃

-- one run: a call appends nothing to it, or it is handed the run
grown : {A : Type 0} (xs : List A) (handed room after before : ℕ) → Lent xs handed room after before → after + length xs ≤ handed → after ≤ before → before ≤ room → after + length xs ≤ room
grown xs handed room after before (inl e) h l k = subst (λ (ys : List _). after + length ys ≤ room) (sym e) (omega arith)
grown xs handed room after before (inr (p, q)) h l k = omega arith

step_fits : (caps : PrivateCapabilities) (rooms : Rooms) (s : State) (c : Call) → Fits s.progress rooms → Fits (step caps rooms s c).state.progress rooms
step_fits caps rooms s c F = go (carried caps rooms s c) refl
  where
    m : Meaning
    m = meaning caps s c

    go : (t : Bool) → carried caps rooms s c ≡ t → Fits (cond t (with_progress (progress_after m) m.after) s).progress rooms
    go true e =
        let G = room_fits (progress_after m) (m.handed rooms) (in-room rooms s m e) in
        let L = lends caps rooms s c in
        let low = counts caps s c in
        record {
          commands = G.commands;
          bytes = G.bytes;
          queries = G.queries;
          lent_commands = grown m.commands _ _ _ _ L.0 G.lent_commands low.0 F.lent_commands;
          lent_bytes = grown m.bytes _ _ _ _ L.1 G.lent_bytes low.1 F.lent_bytes;
          lent_queries = grown m.queries _ _ _ _ L.2 G.lent_queries low.2 F.lent_queries;
        }
    go false e = F

all-fits : (caps : PrivateCapabilities) (rooms : Rooms) (r : Recording) (cs : List Call) → Fits r.state.progress rooms → Fits (record_calls caps rooms r cs).state.progress rooms
unfolding record_calls
all-fits caps rooms r [] F = F
all-fits caps rooms r (c ∷ cs) F = all-fits caps rooms (record_call caps rooms r c) cs (step_fits caps rooms r.state c F)

-- a list begins with nothing
begun-fits : (caps : PrivateCapabilities) (rooms lent : Rooms) (s : State) → carried caps rooms s begin_encoding ≡ true → Fits (begun caps rooms s).state.progress lent
begun-fits caps rooms lent s e = go (carried caps rooms s begin_encoding) e
  where
    m : Meaning
    m = meaning caps s begin_encoding

    go : (t : Bool) → t ≡ true → Fits (cond t (with_progress (progress_after m) m.after) s).progress lent
    go true q = record { commands = zero-le; bytes = zero-le; queries = zero-le; lent_commands = zero-le; lent_bytes = zero-le; lent_queries = zero-le }
    go false q = false-true q

-- ---- no condition of a handed-in state holds
sound : (s : State) (r : Rooms) → Intact s → Fits s.progress r → state_conditions s r ≡ none_hold
sound s r I F =
    let limits = intact-is s I in
    let room = fits-room s.progress r F in
    λ j. record { phase = false; many = (limits j).many; range = (limits j).range; absent = false; kind = (limits j).kind; sum = false; room = room j }

pub never-broken : NeverBroken
never-broken caps rooms s calls e =
    sound (record_calls caps rooms (begun caps rooms s) calls).state rooms (all-intact caps rooms (begun caps rooms s) calls (begun-intact caps rooms s e))
    (all-fits caps rooms (begun caps rooms s) calls (begun-fits caps rooms rooms s e))

-- ---- a run that a call is not handed has room up to its limit
no_run_lem : (r : Rooms) (p : Progress) → Fits p r → Fits p (no_run r)
no_run_lem r p F = record { commands = F.commands; bytes = F.bytes; queries = F.queries; lent_commands = F.commands; lent_bytes = F.bytes; lent_queries = F.queries }

list-run : (r : Rooms) (p : Progress) → Fits p r → Fits p (list_run r)
list-run r p F = record { commands = F.commands; bytes = F.bytes; queries = F.queries; lent_commands = F.lent_commands; lent_bytes = F.bytes; lent_queries = F.queries }

bytes_run_lem : (r : Rooms) (p : Progress) → Fits p r → Fits p (bytes_run r)
bytes_run_lem r p F = record { commands = F.commands; bytes = F.bytes; queries = F.queries; lent_commands = F.lent_commands; lent_bytes = F.lent_bytes; lent_queries = F.queries }

queries-run : (r : Rooms) (p : Progress) → Fits p r → Fits p (queries_run r)
queries-run r p F = record { commands = F.commands; bytes = F.bytes; queries = F.queries; lent_commands = F.lent_commands; lent_bytes = F.bytes; lent_queries = F.lent_queries }

hands : (caps : PrivateCapabilities) (s : State) (c : Call) (rooms : Rooms) (p : Progress) → Fits p rooms → Fits p ((meaning caps s c).handed rooms)
hands caps s begin_encoding rooms p F = no_run_lem rooms p F
hands caps s end_encoding rooms p F = no_run_lem rooms p F
hands caps s (begin_render_pass d label set) rooms p F = bytes_run_lem rooms p F
hands caps s end_render_pass rooms p F = list-run rooms p F
hands caps s (begin_compute_pass t label set) rooms p F = bytes_run_lem rooms p F
hands caps s end_compute_pass rooms p F = list-run rooms p F
hands caps s (transition_buffers l) rooms p F = list-run rooms p F
hands caps s (transition_textures l) rooms p F = list-run rooms p F
hands caps s (clear_buffer x range) rooms p F = list-run rooms p F
hands caps s (copy_buffer_to_buffer src dst l) rooms p F = list-run rooms p F
hands caps s (copy_query_results set start end dst offset) rooms p F = queries-run rooms p F
hands caps s (begin_query set i) rooms p F = list-run rooms p F
hands caps s (end_query set i) rooms p F = list-run rooms p F
hands caps s (write_timestamp set i) rooms p F = list-run rooms p F
hands caps s (reset_queries set start end) rooms p F = no_run_lem rooms p F
hands caps s (set_bind_group l i e g os) rooms p F = list-run rooms p F
hands caps s (set_immediates offset ws) rooms p F = bytes_run_lem rooms p F
hands caps s (set_render_pipeline q) rooms p F = list-run rooms p F
hands caps s (set_compute_pipeline q) rooms p F = list-run rooms p F
hands caps s (set_index_buffer raw offset format) rooms p F = list-run rooms p F
hands caps s (set_vertex_buffer i raw offset) rooms p F = no_run_lem rooms p F
hands caps s (set_viewport r d) rooms p F = list-run rooms p F
hands caps s (set_scissor_rect r) rooms p F = list-run rooms p F
hands caps s (set_stencil_reference v) rooms p F = list-run rooms p F
hands caps s (set_blend_constants c) rooms p F = list-run rooms p F
hands caps s (draw vertex vertices instance instances) rooms p F = list-run rooms p F
hands caps s (draw_indexed fst count base instance instances) rooms p F = list-run rooms p F
hands caps s (draw_indirect raw offset n) rooms p F = list-run rooms p F
hands caps s (draw_indexed_indirect raw offset n) rooms p F = list-run rooms p F
hands caps s (dispatch_workgroups x y z) rooms p F = list-run rooms p F
hands caps s (dispatch_workgroups_indirect raw offset) rooms p F = list-run rooms p F

-- ---- the phase
phase-is : (caps : PrivateCapabilities) (s : State) (c : Call) → (meaning caps s c).phase ≡ phase_after s.progress.phase c
phase-is caps s begin_encoding = refl
phase-is caps s end_encoding = refl
phase-is caps s (begin_render_pass d label set) = refl
phase-is caps s end_render_pass = refl
phase-is caps s (begin_compute_pass t label set) = refl
phase-is caps s end_compute_pass = refl
phase-is caps s (transition_buffers l) = refl
phase-is caps s (transition_textures l) = refl
phase-is caps s (clear_buffer x range) = refl
phase-is caps s (copy_buffer_to_buffer src dst l) = refl
phase-is caps s (copy_query_results set start end dst offset) = refl
phase-is caps s (begin_query set i) = refl
phase-is caps s (end_query set i) = refl
phase-is caps s (write_timestamp set i) = refl
phase-is caps s (reset_queries set start end) = refl
phase-is caps s (set_bind_group l i e g os) = refl
phase-is caps s (set_immediates offset ws) = refl
phase-is caps s (set_render_pipeline q) = refl
phase-is caps s (set_compute_pipeline q) = refl
phase-is caps s (set_index_buffer raw offset format) = refl
phase-is caps s (set_vertex_buffer i raw offset) = refl
phase-is caps s (set_viewport r d) = refl
phase-is caps s (set_scissor_rect r) = refl
phase-is caps s (set_stencil_reference v) = refl
phase-is caps s (set_blend_constants c) = refl
phase-is caps s (draw vertex vertices instance instances) = refl
phase-is caps s (draw_indexed fst count base instance instances) = refl
phase-is caps s (draw_indirect raw offset n) = refl
phase-is caps s (draw_indexed_indirect raw offset n) = refl
phase-is caps s (dispatch_workgroups x y z) = refl
phase-is caps s (dispatch_workgroups_indirect raw offset) = refl

all-phases : (caps : PrivateCapabilities) (rooms : Rooms) (r : Recording) (cs : List Call)
    → (record_calls caps rooms r cs).state.progress.phase ≡ phase_told r.state.progress.phase (fed caps rooms r.state cs)
unfolding record_calls fed phase_told
all-phases caps rooms r [] = refl
all-phases caps rooms r (c ∷ cs) =
    all-phases caps rooms (record_call caps rooms r c) cs ∙ ap (λ (p : Phase). phase_told p (fed caps rooms (step caps rooms r.state c).state cs)) (go (carried caps rooms r.state c))
  where
    m : Meaning
    m = meaning caps r.state c

    go : (t : Bool) → (cond t (with_progress (progress_after m) m.after) r.state).progress.phase ≡ cond t (phase_after r.state.progress.phase c) r.state.progress.phase
    go true = phase-is caps r.state c
    go false = refl

-- ---- of what the functions hand back
module _ (caps : PrivateCapabilities) (s₀ s' : State) (r₀ r r' : Runs) (a : Answer) (calls : List Call)
    (d : Did caps s₀ r₀ begin_encoding a r) (e : a.outcome ≡ Done) (R : Ran caps a.state r calls s' r') where
  B : Begun caps r a
  B = begun-run caps s₀ r₀ r a d e

  begins : carried caps (rooms_of r₀) s₀ begin_encoding ≡ true
  begins = ap accepted (sym d.outcome ∙ e)

  recorded : recording_of s' r' ≡ record_calls caps (rooms_of r) (beginning a.state) calls
  recorded = ran-begun caps B R

  intact : Intact s'
  intact =
      subst (λ (x : Recording). Intact x.state) (sym recorded)
      (all-intact caps (rooms_of r) (beginning a.state) calls (subst Intact (sym d.state) (begun-intact caps (rooms_of r₀) s₀ begins)))

  fits : Fits s'.progress (rooms_of r')
  fits =
      subst (Fits s'.progress) (sym (ran-rooms caps R B.within))
      (subst (λ (x : Recording). Fits x.state.progress (rooms_of r)) (sym recorded)
      (all-fits caps (rooms_of r) (beginning a.state) calls (subst (λ (x : State). Fits x.progress (rooms_of r)) (sym d.state) (begun-fits caps (rooms_of r₀) (rooms_of r) s₀ begins))))

  phase : s'.progress.phase ≡ phase_told Open (answers R)
  phase =
      ap (λ (x : Recording). x.state.progress.phase) recorded
      ∙ all-phases caps (rooms_of r) (beginning a.state) calls
      ∙ ap₂ phase_told (ap (λ (x : State). x.progress.phase) d.state ∙ opened (carried caps (rooms_of r₀) s₀ begin_encoding) begins) (sym (answers-are caps R B.within))
    where
      m : Meaning
      m = meaning caps s₀ begin_encoding

      opened : (t : Bool) → t ≡ true → (cond t (with_progress (progress_after m) m.after) s₀).progress.phase ≡ Open
      opened true q = refl
      opened false q = false-true q

pub never-broken-of-run : NeverBrokenOfRun
never-broken-of-run caps s₀ s' r₀ r r' a calls d e R = sound s' (rooms_of r') (intact caps s₀ s' r₀ r r' a calls d e R) (fits caps s₀ s' r₀ r r' a calls d e R)

pub own-refusal-of-run : OwnRefusalOfRun
own-refusal-of-run caps s₀ s' r₀ r r' a calls d e R c b r'' did =
    subst (λ (x : Conditions). Smallest (either x (call_conditions (rooms_of r') s' (meaning caps s' c))) (number b.outcome))
    (sound s' ((meaning caps s' c).handed (rooms_of r')) (intact caps s₀ s' r₀ r r' a calls d e R)
    (hands caps s' c (rooms_of r') s'.progress (fits caps s₀ s' r₀ r r' a calls d e R)))
    did.smallest

pub phase-of-run : PhaseOfRun
phase-of-run caps s₀ s' r₀ r r' a calls d e R = phase caps s₀ s' r₀ r r' a calls d e R
