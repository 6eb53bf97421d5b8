-- Two recordings of the same calls, by this recorder's rule and by the Rust's: as long as they are even both append the same. Assumes nothing.
-- `all-steps`; PassAsRust.antt has the theorems. `rust-wakes`: the Rust's rule is document 01's sentence.
use Prim.Native.Nat.{ℕ, ◌^◌, ◌<◌}
use mathlib.Core.Path.{◌≡◌, refl, sym, ap, ap₂, ◌∙◌, subst}
use mathlib.Core.Bool.{Bool, true, false, cond, not, ◌&&◌, ◌||◌}
use mathlib.Core.List.{List, [], ◌∷◌, ◌++◌, map}
use Rattle.std.specs.Prelude.{Option, None}
use native.Mathlib.Omega.{arith}
use lib.Bits.{bit_or, or_zero_r}
use lib.Dec.{eqb, ltb, leb}
use lib.ListN.{get_or, take, replicate, get_or-replicate}
use borrow.Author.Tests.{leb-false, lt-leb}
use Rattle.mask.specs.Mask.{test_bit, set_bit, without, places}
use Rattle.mask.specs.By.{mask_by, by-is}
use Rattle.mask.specs.Laws.{test_zero}
use Rattle.records.specs.Check.{some?, bad_mask, bad_attribute, bad_descriptor, bad_resolve, bad_units, attributes_of, descriptors_of, resolves_of, too_many, state_conditions, over_room, broken_limits}
use Rattle.records.specs.Outcome.{accepted, smallest, either}
use Rattle.records.specs.Start.{start_vertex}
use Rattle.records.specs.declared.check.Rooms.{Rooms}
use Rattle.records.specs.declared.command.Command.{Command}
use Rattle.records.specs.declared.outcome.Conditions.{Conditions}
use Rattle.records.specs.declared.pipeline.PrivateCapabilities.{PrivateCapabilities}
use Rattle.records.specs.declared.pipeline.RenderPipeline.{RenderPipeline}
use Rattle.records.specs.declared.state.State.{State}
use Rattle.records.specs.declared.state.VertexState.{VertexState}
use Rattle.slots.specs.Prepare.{working, woken, cleared, slot_over, attribute_over, buffer_command, buffer_commands, attribute_command, attribute_commands, prepared_over, prepared}
use Rattle.pipeline.specs.Vertex.{changed_slots, dirty_before}
use Rattle.calls.specs.Call.{Call, begin_encoding, end_encoding, begin_render_pass, end_render_pass, begin_compute_pass, end_compute_pass, transition_buffers, transition_textures, clear_buffer, copy_buffer_to_buffer, copy_query_results, begin_query, end_query, write_timestamp, reset_queries, set_bind_group, set_immediates, set_render_pipeline, set_compute_pipeline, set_index_buffer, set_vertex_buffer, set_viewport, set_scissor_rect, set_stencil_reference, set_blend_constants, draw, draw_indexed, draw_indirect, draw_indexed_indirect, dispatch_workgroups, dispatch_workgroups_indirect}
use Rattle.calls.specs.Meaning.{Meaning, in_render, refusing, records}
use Rattle.calls.specs.Parts.{with_progress, with_vertex, end_vertex, drawn}
use Rattle.calls.specs.Step.{meaning, progress_after, call_conditions, outcome_of, step, drawing}
use Rattle.machine.proofs.Lists.{false-true, true-false, and-true, and-false}
use Rattle.book.specs.Book.{Fed, known}
use Rattle.book.specs.Run.{carried, Recording, record_call, record_calls, fed}
use Rattle.order.proofs.Accepted.{in-range}
use Rattle.order.specs.OneNumber.{numbered, Turn, draws, passes, turn_of, number_after, next_number, rust_calls, rust_fed, last_pipeline, EvenAt, Even, EvenWhere, SameLists}
use Rattle.order.proofs.Twin.{other, Same, zeroed, rebuffered, alike, redrawn, repiped}

-- the state with that dirty mask, and one number for all slots
abbrev pub put : ℕ → ℕ → State → State
put d n s = with_vertex (other d n s.vertex) s

-- a meaning that leaves another state, with the counts of the first
abbrev leaving : State → Meaning → Meaning
leaving x m =
    record {
      allowed = m.allowed;
      asks = m.asks;
      commands = m.commands;
      bytes = m.bytes;
      queries = m.queries;
      after = with_progress m.after.progress x;
      phase = m.phase;
      handed = m.handed;
    }

-- what one call means to both: the same but for the state that it leaves, and the states are alike again where it is carried through
record Both (caps : PrivateCapabilities) (rooms : Rooms) (o : Option RenderPipeline) (s : State) (d n : ℕ) (c : Call) : Type 0 where
  left : State
  means : meaning caps (put d n s) c ≡ leaving left (meaning caps s c)
  dirty : ℕ
  after : numbered (number_after (turn_of caps c) n) left ≡ put dirty (number_after (turn_of caps c) n) (with_progress left.progress (meaning caps s c).after)
  same : carried caps rooms s c ≡ true → Same caps (last_pipeline o (turn_of caps c)) (meaning caps s c).after.vertex dirty (number_after (turn_of caps c) n)

working-zero : (caps : PrivateCapabilities) (instance : ℕ) → caps.fully_featured_instancing ≡ true → working caps instance ≡ 0
working-zero caps instance e = ap (λ (t : Bool). cond t 0 instance) e

module _ (caps : PrivateCapabilities) (rooms : Rooms) (o : Option RenderPipeline) (s : State) (d n : ℕ) (S : Same caps o s.vertex d n) where
  abbrev v : VertexState
  v = s.vertex

  abbrev t : State
  t = put d n s

  -- the condition, of one call
  abbrev Asked : Call → Type 0
  Asked c = caps.vertex_buffer_layout ≡ true → caps.fully_featured_instancing ≡ false → carried caps rooms s c ≡ true → EvenAt o (turn_of caps c)

  -- a call that leaves the slots alone
  quiet : (c : Call) → meaning caps t c ≡ leaving (meaning caps t c).after (meaning caps s c)
      → numbered n (meaning caps t c).after ≡ put d n (with_progress (meaning caps t c).after.progress (meaning caps s c).after)
      → (meaning caps s c).after.vertex ≡ v → turn_of caps c ≡ passes → Both caps rooms o s d n c
  quiet c e a x l =
      record {
        left = (meaning caps t c).after;
        means = e;
        dirty = d;
        after =
            subst (λ (y : Turn). numbered (number_after y n) (meaning caps t c).after ≡ put d (number_after y n) (with_progress (meaning caps t c).after.progress (meaning caps s c).after))
            (sym l) a;
        same = λ k.
            subst (λ (y : VertexState). Same caps (last_pipeline o (turn_of caps c)) y d (number_after (turn_of caps c) n)) (sym x)
            (subst (λ (y : Turn). Same caps (last_pipeline o y) v d (number_after y n)) (sym l) S);
      }

  -- what a draw prepares
  same_over : (w : ℕ) → prepared_over caps t.vertex w ≡ prepared_over caps v w
  same_over w = alike caps o v d n S w (λ m. some? (slot_over v w) (places m)) (λ l. some? (attribute_over v w) l)

  same-prepared : (w : ℕ) → prepared caps t.vertex w ≡ prepared caps v w
  unfolding buffer_commands attribute_commands
  same-prepared w = alike caps o v d n S w (λ m. map (buffer_command v w) (places m)) (λ l. map (attribute_command v w) l)

  drawing-both : (w : ℕ) (four six : Bool) (cs : List Command) → drawing caps t w four six cs ≡ leaving (drawn caps w t) (drawing caps s w four six cs)
  drawing-both w four six cs =
      ap₂ (λ (b : Bool) (l : List Command). records in_render (refusing false false four false (b || six) false) (l ++ cs) (drawn caps w t)) (same_over w) (same-prepared w)

  drawing-call : (c : Call) (w : ℕ) (made : Bool) → turn_of caps c ≡ draws w made
      → (four six : Bool) (cs : List Command) → meaning caps t c ≡ drawing caps t w four six cs → meaning caps s c ≡ drawing caps s w four six cs
      → (caps.fully_featured_instancing ≡ true → w ≡ 0) → (carried caps rooms s c ≡ true → caps.vertex_buffer_layout ≡ true → o ≡ None → w ≡ 0)
      → Both caps rooms o s d n c
  drawing-call c w made turn four six cs theirs ours full unpiped =
      record {
        left = drawn caps w t;
        means = theirs ∙ drawing-both w four six cs ∙ ap (leaving (drawn caps w t)) (sym ours);
        dirty = still-dirty;
        after =
            ap (λ (x : Turn). numbered (number_after x n) (drawn caps w t)) turn
            ∙ sym (λ j. put still-dirty (number_after (turn j) n) (with_progress t.progress (ours j).after));
        same = λ k.
            subst (λ (x : Turn). Same caps (last_pipeline o x) (meaning caps s c).after.vertex still-dirty (number_after x n)) (sym turn)
            (subst (λ (m : Meaning). Same caps o m.after.vertex still-dirty w) (sym ours) (redrawn caps o v d n S w full (unpiped k)));
      }
    where
      still-dirty : ℕ
      still-dirty = without (woken t.vertex w) (cleared caps t.vertex w)

  direct-zero : (instance : ℕ) (c : Call) → Asked c → turn_of caps c ≡ draws (working caps instance) true → carried caps rooms s c ≡ true
      → caps.vertex_buffer_layout ≡ true → o ≡ None → working caps instance ≡ 0
  direct-zero instance c E e k layout q = go caps.fully_featured_instancing refl
    where
      go : (f : Bool) → caps.fully_featured_instancing ≡ f → working caps instance ≡ 0
      go true f = working-zero caps instance f
      go false f = false-true (sym (ap known q) ∙ subst (EvenAt o) e (E layout f k) refl)

  both : (c : Call) → Asked c → Both caps rooms o s d n c
  both begin_encoding E = record { left = (meaning caps t begin_encoding).after; means = refl; dirty = 0; after = refl; same = λ k. zeroed caps start_vertex refl refl }
  both end_encoding E = quiet end_encoding refl refl refl refl
  both end_render_pass E = record { left = (meaning caps t end_render_pass).after; means = refl; dirty = 0; after = refl; same = λ k. zeroed caps (end_vertex v) refl refl }
  both end_compute_pass E = quiet end_compute_pass refl refl refl refl
  both (begin_render_pass p label set) E = quiet (begin_render_pass p label set) refl refl refl refl
  both (begin_compute_pass p label set) E = quiet (begin_compute_pass p label set) refl refl refl refl
  both (transition_buffers l) E = quiet (transition_buffers l) refl refl refl refl
  both (transition_textures l) E = quiet (transition_textures l) refl refl refl refl
  both (clear_buffer x range) E = quiet (clear_buffer x range) refl refl refl refl
  both (copy_buffer_to_buffer src dst l) E = quiet (copy_buffer_to_buffer src dst l) refl refl refl refl
  both (copy_query_results set start end dst offset) E = quiet (copy_query_results set start end dst offset) refl refl refl refl
  both (begin_query set i) E = quiet (begin_query set i) refl refl refl refl
  both (end_query set i) E = quiet (end_query set i) refl refl refl refl
  both (write_timestamp set i) E = quiet (write_timestamp set i) refl refl refl refl
  both (reset_queries set start end) E = quiet (reset_queries set start end) refl refl refl refl
  both (set_bind_group l i e g os) E = quiet (set_bind_group l i e g os) refl refl refl refl
  both (set_immediates offset ws) E = quiet (set_immediates offset ws) refl refl refl refl
  both (set_render_pipeline p) E =
      record {
        left = (meaning caps t (set_render_pipeline p)).after;
        means = refl;
        dirty = bit_or (dirty_before caps p t.vertex) (changed_slots p v);
        after = refl;
        same = λ k. repiped caps o v d n p S (λ layout f q e i l. E layout f k q e i l);
      }
  both (set_compute_pipeline p) E = quiet (set_compute_pipeline p) refl refl refl refl
  both (set_index_buffer raw offset format) E = quiet (set_index_buffer raw offset format) refl refl refl refl
  both (set_vertex_buffer i raw offset) E =
      record {
        left = (meaning caps t (set_vertex_buffer i raw offset)).after;
        means = refl;
        dirty = set_bit d i;
        after = refl;
        same = λ k. rebuffered caps o v d n i raw offset (leb-false 16 i (in-range rooms s (meaning caps s (set_vertex_buffer i raw offset)) k)) S;
      }
  both (set_viewport r depth) E = quiet (set_viewport r depth) refl refl refl refl
  both (set_scissor_rect r) E = quiet (set_scissor_rect r) refl refl refl refl
  both (set_stencil_reference x) E = quiet (set_stencil_reference x) refl refl refl refl
  both (set_blend_constants x) E = quiet (set_blend_constants x) refl refl refl refl
  both (draw vertex vertices instance instances) E =
      drawing-call (draw vertex vertices instance instances) (working caps instance) true refl false false _ refl refl (working-zero caps instance)
      (direct-zero instance (draw vertex vertices instance instances) E refl)
  both (draw_indexed fst count base instance instances) E =
      drawing-call (draw_indexed fst count base instance instances) (working caps instance) true refl false _ _ refl refl (working-zero caps instance)
      (direct-zero instance (draw_indexed fst count base instance instances) E refl)
  both (draw_indirect raw offset count) E = drawing-call (draw_indirect raw offset count) 0 (ltb 0 count) refl _ _ _ refl refl (λ f. refl) (λ k l e. refl)
  both (draw_indexed_indirect raw offset count) E = drawing-call (draw_indexed_indirect raw offset count) 0 (ltb 0 count) refl _ _ _ refl refl (λ f. refl) (λ k l e. refl)
  both (dispatch_workgroups x y z) E = quiet (dispatch_workgroups x y z) refl refl refl refl
  both (dispatch_workgroups_indirect raw offset) E = quiet (dispatch_workgroups_indirect raw offset) refl refl refl refl

  -- the check of the state does not tell them apart
  same_check : (r : Rooms) → state_conditions t r ≡ state_conditions s r
  same_check r =
      ap (λ (b : Bool). record { phase = false; many = too_many s; range = range b; absent = false; kind = (broken_limits s).kind; sum = false; room = over_room s.progress r })
      (lt-leb (2 ^ 16) d S.other_low ∙ sym (lt-leb (2 ^ 16) v.dirty_vbuf_mask S.low))
    where
      -- `out_of_range`, of whether the dirty mask is too large
      range : Bool → Bool
      range b =
          some? bad_attribute (attributes_of s)
          || (bad_units s.bind.sampled 0 s.bind.texture_slots
          || (some? bad_descriptor (descriptors_of s)
          || (some? bad_resolve (resolves_of s)
          || (bad_mask v.described
          || (bad_mask v.bound
          || (bad_mask v.by_instance
          || (bad_mask v.instance_vbuf_mask
          || (b
          || (bad_mask s.bind.sampler_set
          || (bad_mask s.bind.sampled
          || leb (2 ^ 10) s.pass.invalidate_attachments))))))))))

  same_outcome : (c : Call) → Asked c → outcome_of rooms t (meaning caps t c) ≡ outcome_of rooms s (meaning caps s c)
  unfolding outcome_of
  same_outcome c E =
      ap (outcome_of rooms t) (both c E).means
      ∙ ap (λ (k : Conditions). smallest (either k (call_conditions rooms s (meaning caps s c)))) (same_check ((meaning caps s c).handed rooms))

-- ---- two recordings of the same calls
pub record Twins (caps : PrivateCapabilities) (o : Option RenderPipeline) (s : State) (n : ℕ) (t : State) : Type 0 where
  pub dirty : ℕ
  pub is : t ≡ put dirty n s
  pub same : Same caps o s.vertex dirty n

-- what was recorded before, and the state
abbrev over : State → List Command → List ℕ → List ℕ → Recording
over s l b q = record { state = s; list = l; bytes = b; queries = q }

-- one call: both answer the same, append the same, and are twins again
record Stepped (caps : PrivateCapabilities) (rooms : Rooms) (o : Option RenderPipeline) (s : State) (n : ℕ) (t : State) (c : Call) : Type 0 where
  carries : carried caps rooms t c ≡ carried caps rooms s c
  lists : (l : List Command) → (record_call caps rooms (over t l [] []) c).list ≡ (record_call caps rooms (over s l [] []) c).list
  bytes : (l : List ℕ) → (record_call caps rooms (over t [] l []) c).bytes ≡ (record_call caps rooms (over s [] l []) c).bytes
  queries : (l : List ℕ) → (record_call caps rooms (over t [] [] l) c).queries ≡ (record_call caps rooms (over s [] [] l) c).queries
  twins :
      let k = cond (carried caps rooms t c) (number_after (turn_of caps c) n) n in
      Twins caps (cond (carried caps rooms s c) (last_pipeline o (turn_of caps c)) o) (step caps rooms s c).state k (numbered k (step caps rooms t c).state)

one-step : (caps : PrivateCapabilities) (rooms : Rooms) (o : Option RenderPipeline) (s : State) (d n : ℕ) (S : Same caps o s.vertex d n) (c : Call) → Asked caps rooms o s d n S c
    → Stepped caps rooms o s n (put d n s) c
one-step caps rooms o s d n S c E =
    record {
      carries = carries;
      lists = λ l j. cond (carries j) (take (means j).after.progress.commands l ++ (means j).commands) l;
      bytes = λ l j. cond (carries j) (take (means j).after.progress.bytes l ++ (means j).bytes) l;
      queries = λ l j. cond (carries j) (take (means j).after.progress.queries l ++ (means j).queries) l;
      twins = go (carried caps rooms s c) (carried caps rooms t' c) refl carries;
    }
  where
    t' : State
    t' = put d n s

    B : Both caps rooms o s d n c
    B = both caps rooms o s d n S c E

    m : Meaning
    m = meaning caps s c

    m' : Meaning
    m' = meaning caps t' c

    means : m' ≡ leaving B.left m
    means = B.means

    carries : carried caps rooms t' c ≡ carried caps rooms s c
    carries = ap accepted (same_outcome caps rooms o s d n S c E)

    go : (k k' : Bool) → carried caps rooms s c ≡ k → k' ≡ carried caps rooms s c
        → let w = cond k' (number_after (turn_of caps c) n) n in
        Twins caps (cond k (last_pipeline o (turn_of caps c)) o) (cond k (with_progress (progress_after m) m.after) s) w (numbered w (cond k' (with_progress (progress_after m') m'.after) t'))
    go true true e q =
        record {
          dirty = B.dirty;
          is =
              ap (λ (x : Meaning). numbered (number_after (turn_of caps c) n) (with_progress (progress_after x) x.after)) means
              ∙ ap (with_progress (progress_after m)) B.after;
          same = B.same e;
        }
    go true false e q = false-true (q ∙ e)
    go false true e q = true-false (q ∙ e)
    go false false e q = record { dirty = d; is = refl; same = S }

pub all-steps : (caps : PrivateCapabilities) (rooms : Rooms) (o : Option RenderPipeline) (s t : State) (n : ℕ) (l : List Command) (b q : List ℕ) (cs : List Call)
    → Twins caps o s n (numbered n t) → EvenWhere caps o (fed caps rooms s cs)
    → SameLists (record_calls caps rooms (over s l b q) cs) (rust_calls caps rooms (over t l b q) n cs) × (fed caps rooms s cs ≡ rust_fed caps rooms t n cs)
unfolding record_calls rust_calls fed rust_fed Even
all-steps caps rooms o s t n l b q [] T E = ((refl, refl, refl), refl)
all-steps caps rooms o s t n l b q (c ∷ cs) T E =
    let next : Stepped caps rooms o s n (numbered n t) c =
    subst (λ (x : State). Stepped caps rooms o s n x c) (sym T.is) (one-step caps rooms o s T.dirty n T.same c (λ layout f k. (E layout f).0 k)) in
    let k = next_number caps rooms t n c in
    let r = record_call caps rooms (over s l b q) c in
    let I = all-steps caps rooms (cond (carried caps rooms s c) (last_pipeline o (turn_of caps c)) o) (step caps rooms s c).state (step caps rooms (numbered n t) c).state k r.list r.bytes r.queries cs
    next.twins (λ layout f. (E layout f).1) in
    let alike : rust_calls caps rooms (over (step caps rooms (numbered n t) c).state r.list r.bytes r.queries) k cs ≡ rust_calls caps rooms (record_call caps rooms (over (numbered n t) l b q) c) k cs =
    λ j. rust_calls caps rooms (over (step caps rooms (numbered n t) c).state (sym (next.lists l) j) (sym (next.bytes b) j) (sym (next.queries q) j)) k cs in (
      (I.0.0 ∙ ap (λ (x : Recording). x.list) alike, I.0.1 ∙ ap (λ (x : Recording). x.bytes) alike, I.0.2 ∙ ap (λ (x : Recording). x.queries) alike),
      ap₂ (λ (t : Bool) (fs : List Fed). record { call = c; accepted = t } ∷ fs) (sym next.carries) I.1,
    )

-- ---- the Rust's rule, said as document 01 says it
-- "If it differs from the last, the pipeline's instance slots join the dirty mask"
pub rust-wakes : (n w : ℕ) (s : State) → s.vertex.instance_vbuf_mask < 2 ^ 16
    → woken (numbered n s).vertex w ≡ cond (eqb w n) s.vertex.dirty_vbuf_mask (bit_or s.vertex.dirty_vbuf_mask s.vertex.instance_vbuf_mask)
rust-wakes n w s low = go (eqb w n) refl
  where
    v : VertexState
    v = s.vertex

    f : ℕ → Bool
    f i = test_bit v.instance_vbuf_mask i && not (eqb w (get_or (replicate 16 n) i 0))

    at : (i : ℕ) → i < 16 → (t : Bool) → eqb w n ≡ t → f i ≡ (test_bit v.instance_vbuf_mask i && not t)
    at i l t e = ap (λ (k : ℕ). test_bit v.instance_vbuf_mask i && not (eqb w k)) (get_or-replicate 16 i n 0 l) ∙ ap (λ (b : Bool). test_bit v.instance_vbuf_mask i && not b) e

    go : (t : Bool) → eqb w n ≡ t → bit_or v.dirty_vbuf_mask (mask_by 16 f) ≡ cond t v.dirty_vbuf_mask (bit_or v.dirty_vbuf_mask v.instance_vbuf_mask)
    go true e =
        ap (bit_or v.dirty_vbuf_mask) (sym (by-is 16 0 f (omega arith) (λ i l. test_zero i ∙ sym (at i l true e ∙ and-false (test_bit v.instance_vbuf_mask i)))))
        ∙ or_zero_r v.dirty_vbuf_mask
    go false e =
        ap (bit_or v.dirty_vbuf_mask) (sym (by-is 16 v.instance_vbuf_mask f low (λ i l. sym (at i l false e ∙ and-true (test_bit v.instance_vbuf_mask i)))))
