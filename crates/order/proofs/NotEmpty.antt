-- No view holds emptily: under the premises each draw of the first render pass finds a program, a primitive, a viewport and a scissor, and every fetch has a source. Assumes nothing.
use Prim.Native.Nat.{ℕ, zero, suc, ◌<◌}
use mathlib.Core.Path.{◌≡◌, refl, sym, ap, ◌∙◌, subst}
use mathlib.Core.Bool.{Bool, true, false, cond}
use mathlib.Core.List.{List, [], ◌∷◌, ◌++◌, map}
use Rattle.std.specs.Prelude.{Option, None, Some}
use native.Mathlib.Omega.{arith}
use Rattle.tables.specs.Tabulate.{tabulate}
use Rattle.names.specs.Maps.{primitive_state}
use Rattle.records.specs.Outcome.{accepted}
use Rattle.records.specs.declared.check.Rooms.{Rooms}
use Rattle.records.specs.declared.command.AttributeDesc.{AttributeDesc}
use Rattle.records.specs.declared.command.BufferBinding.{BufferBinding}
use Rattle.records.specs.declared.command.Command.{Command}
use Rattle.records.specs.declared.command.VertexBufferDesc.{VertexBufferDesc}
use Rattle.records.specs.declared.outcome.Outcome.TheVariants.{Done}
use Rattle.records.specs.declared.pipeline.PrivateCapabilities.{PrivateCapabilities}
use Rattle.records.specs.declared.pipeline.RenderPipeline.{RenderPipeline}
use Rattle.records.specs.declared.state.Answer.{Answer}
use Rattle.records.specs.declared.state.Phase.{Phase}
use Rattle.records.specs.declared.state.Phase.TheVariants.{Render}
use Rattle.records.specs.declared.state.State.{State}
use Rattle.pipeline.specs.Vertex.{pipe_desc, has, vertex_out_of_range, vertex_absent}
use Rattle.calls.specs.Call.{Call, begin_encoding, end_encoding, begin_render_pass, end_render_pass, begin_compute_pass, end_compute_pass, transition_buffers, transition_textures, clear_buffer, copy_buffer_to_buffer, copy_query_results, begin_query, end_query, write_timestamp, reset_queries, set_bind_group, set_immediates, set_render_pipeline, set_compute_pipeline, set_index_buffer, set_vertex_buffer, set_viewport, set_scissor_rect, set_stencil_reference, set_blend_constants, draw, draw_indexed, draw_indirect, draw_indexed_indirect, dispatch_workgroups, dispatch_workgroups_indirect}
use Rattle.calls.specs.Did.{Runs, rooms_of, Did}
use Rattle.calls.specs.Step.{meaning, outcome_of}
use Rattle.machine.specs.View.{Stage, before, first, later}
use Rattle.machine.specs.Machine.{Machine, fresh, play}
use Rattle.book.specs.Book.{Entered, Book, empty, attributes_in, known, named_source, desc_by, named_fetch, by, by_or, names, in_first, Fed, enter, enter_fed, book_of}
use Rattle.book.specs.Premise.{Ready, Premise}
use Rattle.order.specs.Complete.{Sourced, Complete}
use Rattle.book.specs.Run.{carried, Recording, beginning, record_call, fed, Premises, begun}
use Rattle.machine.specs.Each.{Each}
use Rattle.machine.proofs.Lists.{false-true}
use Rattle.order.proofs.Own.{described-is}
use Rattle.order.proofs.Invariant.{First, Fetched, Tied}
use Rattle.order.proofs.Prepared.{Ranged, ranged-each, described-each}
use Rattle.order.proofs.Accepted.{in-phase}
use Rattle.order.proofs.Keeps.{render-is, is-first}
use Rattle.book.specs.FirstPass.{found, shots, entries, named}
use Rattle.order.proofs.Induction.{Right, one-call, began}
use Rattle.order.proofs.Theorem.{order}
use Rattle.book.specs.Ran.{Ran, answers, commands_of}
use Rattle.order.proofs.OfRun.{begun-run, answers-are, order-of-run}

-- ---- a draw's view, by the book
-- in the first render pass there are a viewport and a scissor
abbrev Opened : Book → Type 0
Opened b = b.stage ≡ first → (known b.viewport ≡ true) × (known b.scissor ≡ true)

source_known : (w offset : ℕ) (d : Option VertexBufferDesc) (x : Option BufferBinding) → known d ≡ true → known x ≡ true → known (named_source w offset d x) ≡ true
source_known w offset None x e q = false-true e
source_known w offset (Some d) None e q = false-true q
source_known w offset (Some d) (Some x) e q = refl

complete-named : (b : Book) (R : Ready b) (w : ℕ) (indexed : Bool) (c : Command) → vertex_out_of_range R.pipeline ≡ false → vertex_absent R.pipeline ≡ false
    → (known b.viewport ≡ true) × (known b.scissor ≡ true) → Complete (names b w indexed c)
complete-named b R w indexed c range absent O =
    record {
      program = ap (λ (o : Option RenderPipeline). known (by (λ (p : RenderPipeline). p.inner.program) o)) R.is;
      fetches =
          subst (λ (o : Option RenderPipeline). Each Sourced (map (named_fetch b w) (by_or [] attributes_in o))) (sym R.is)
          (each (attributes_in R.pipeline) (ranged-each R.pipeline range) (described-each R.pipeline absent));
      viewport = O.0;
      scissor = O.1;
      primitive = ap (λ (o : Option RenderPipeline). known (by (λ (p : RenderPipeline). primitive_state p.primitive) o)) R.is;
    }
  where
    each : (l : List AttributeDesc) → Each Ranged l → Each (λ (a : AttributeDesc). has (pipe_desc R.pipeline a.buffer_index) ≡ true) l → Each Sourced (map (named_fetch b w) l)
    each [] r h = tt
    each (a ∷ l) r h =
        let i = a.buffer_index in
        let d = described-is R.pipeline i ∙ h.0 in (
          source_known w a.offset (desc_by b.pipeline i) (b.buffer i) (ap (λ (o : Option RenderPipeline). known (desc_by o i)) R.is ∙ d) (R.bound i r.0.1 d),
          each l r.1 h.1,
        )

-- ---- the draws of the book
abbrev All : List Entered → Type 0
All ds = Each (λ (d : Entered). Complete d.view) ds

all_append : (ds es : List Entered) → All ds → All es → All (ds ++ es)
all_append [] es a h = h
all_append (d ∷ ds) es a h = (a.0, all_append ds es a.1 h)

all_first : (st : Stage) (xs ds : List Entered) → All ds → (st ≡ first → All xs) → All (in_first st xs ds)
all_first before xs ds a h = a
all_first first xs ds a h = all_append ds xs a (h refl)
all_first later xs ds a h = a

all-table : (n : ℕ) (f : ℕ → Entered) → ((i : ℕ) → i < n → Complete (f i).view) → All (tabulate n f)
unfolding tabulate
all-table zero f h = tt
all-table (suc n) f h = (h 0 (omega arith), all-table n (λ i. f (suc i)) (λ i l. h (suc i) (omega arith)))

module _ (caps : PrivateCapabilities) (rooms : Rooms) (s : State) (m : Machine) (b : Book) (T : Tied caps s m b) where
  fetched : (R : Ready b) → s.progress.phase ≡ Render → b.stage ≡ first → Fetched caps s.vertex m.gl.vertices R.pipeline
  fetched R ph st = (T.piped (subst (λ (q : Phase). First q b.stage) (sym ph) (is-first b.stage st)) R.pipeline R.is).fetched

  drew : s.progress.phase ≡ Render → (b.stage ≡ first → Ready b) → Opened b → (w : ℕ) (indexed : Bool) (c : Command) → b.stage ≡ first → Complete (names b w indexed c)
  drew ph P O w indexed c st = let F = fetched (P st) ph st in complete-named b (P st) w indexed c F.ranged F.described (O st)

  kept : (c : Call) → accepted (outcome_of rooms s (meaning caps s c)) ≡ true → Premise b c → Opened b → All b.draws → Opened (enter caps b c) × All (enter caps b c).draws
  kept begin_encoding e P O A = ((λ st. let z : ◌≡◌ {A = ℕ} 0 1 = cc in absurd (omega arith)), tt)
  kept (begin_render_pass d label set) e P O A = ((λ st. (refl, refl)), A)
  kept (set_viewport r d) e P O A = ((λ st. (refl, (O st).1)), A)
  kept (set_scissor_rect r) e P O A = ((λ st. ((O st).0, refl)), A)
  kept end_encoding e P O A = (O, A)
  kept end_render_pass e P O A = (O, A)
  kept end_compute_pass e P O A = (O, A)
  kept (begin_compute_pass t label set) e P O A = (O, A)
  kept (transition_buffers l) e P O A = (O, A)
  kept (transition_textures l) e P O A = (O, A)
  kept (clear_buffer x range) e P O A = (O, A)
  kept (copy_buffer_to_buffer src dst l) e P O A = (O, A)
  kept (copy_query_results set start end dst offset) e P O A = (O, A)
  kept (begin_query set i) e P O A = (O, A)
  kept (end_query set i) e P O A = (O, A)
  kept (write_timestamp set i) e P O A = (O, A)
  kept (reset_queries set start end) e P O A = (O, A)
  kept (set_bind_group l i x g os) e P O A = (O, A)
  kept (set_immediates offset ws) e P O A = (O, A)
  kept (set_render_pipeline p) e P O A = (O, A)
  kept (set_compute_pipeline p) e P O A = (O, A)
  kept (set_index_buffer raw offset format) e P O A = (O, A)
  kept (set_vertex_buffer i raw offset) e P O A = (O, A)
  kept (set_stencil_reference v) e P O A = (O, A)
  kept (set_blend_constants c) e P O A = (O, A)
  kept (dispatch_workgroups x y z) e P O A = (O, A)
  kept (dispatch_workgroups_indirect raw offset) e P O A = (O, A)
  kept (draw vertex vertices instance instances) e P O A =
      let ph = render-is s.progress.phase (in-phase rooms s (meaning caps s (draw vertex vertices instance instances)) e) in
      (O, all_first b.stage _ b.draws A (λ st. (drew ph P O _ false _ st, tt)))
  kept (draw_indexed fst count base instance instances) e P O A =
      let ph = render-is s.progress.phase (in-phase rooms s (meaning caps s (draw_indexed fst count base instance instances)) e) in
      (O, all_first b.stage _ b.draws A (λ st. (drew ph P O _ true _ st, tt)))
  kept (draw_indirect raw offset n) e P O A =
      let ph = render-is s.progress.phase (in-phase rooms s (meaning caps s (draw_indirect raw offset n)) e) in
      (O, all_first b.stage _ b.draws A (λ st. all-table n _ (λ i l. drew ph (λ x. P x (omega arith)) O _ false _ st)))
  kept (draw_indexed_indirect raw offset n) e P O A =
      let ph = render-is s.progress.phase (in-phase rooms s (meaning caps s (draw_indexed_indirect raw offset n)) e) in
      (O, all_first b.stage _ b.draws A (λ st. all-table n _ (λ i l. drew ph (λ x. P x (omega arith)) O _ true _ st)))

all-kept : (caps : PrivateCapabilities) (rooms : Rooms) (r : Recording) (b : Book) (cs : List Call) → Right caps r b → Premises caps b (fed caps rooms r.state cs)
    → Opened b → All b.draws → All (book_of caps b (fed caps rooms r.state cs)).draws
unfolding fed Premises book_of
all-kept caps rooms r b [] R P O A = A
all-kept caps rooms r b (c ∷ cs) R P O A =
    let K = go (carried caps rooms r.state c) refl in
    all-kept caps rooms (record_call caps rooms r c) (enter_fed caps b (record { call = c; accepted = carried caps rooms r.state c })) cs
    (one-call caps rooms r b c R P.0) P.1 K.0 K.1
  where
    go : (t : Bool) → carried caps rooms r.state c ≡ t → Opened (cond t (enter caps b c) b) × All (cond t (enter caps b c) b).draws
    go true e = kept caps rooms r.state (play fresh r.list) b R.tied c e (P.0 e) O A
    go false e = (O, A)

each-view : (ds : List Entered) → All ds → Each Complete (named ds)
each-view [] a = tt
each-view (d ∷ ds) a = (a.0, each-view ds a.1)

not_first : before ≡ first → ⊥
not_first e = let z : ◌≡◌ {A = ℕ} 0 1 = cc in absurd (omega arith)

-- so what each draw finds is there
pub not-empty : (caps : PrivateCapabilities) (rooms : Rooms) (s : State) (calls : List Call)
    → carried caps rooms s begin_encoding ≡ true → Premises caps empty (fed caps rooms (begun caps rooms s).state calls)
    → Each Complete (found (entries caps rooms s calls) (shots caps rooms s calls))
not-empty caps rooms s calls e P =
    subst (Each Complete) (sym (order caps rooms s calls e P).1)
    (each-view (entries caps rooms s calls) (all-kept caps rooms (begun caps rooms s) empty calls (began caps rooms s e) P (λ st. absurd (not_first st)) tt))

-- the same of a run of the code
pub not-empty-of-run : (caps : PrivateCapabilities) (s₀ s' : State) (r₀ r r' : Runs) (a : Answer) (calls : List Call)
    → Did caps s₀ r₀ begin_encoding a r → a.outcome ≡ Done → (R : Ran caps a.state r calls s' r') → Premises caps empty (answers R)
    → Each Complete (found (book_of caps empty (answers R)).draws (play fresh (commands_of s' r')).shots)
not-empty-of-run caps s₀ s' r₀ r r' a calls d e R P =
    let B = begun-run caps s₀ r₀ r a d e in
    let same : answers R ≡ fed caps (rooms_of r) a.state calls = answers-are caps R B.within in
    subst (Each Complete) (sym (order-of-run caps s₀ s' r₀ r r' a calls d e R P).1)
    (each-view (book_of caps empty (answers R)).draws
    (subst (λ (fs : List Fed). All (book_of caps empty fs).draws) (sym same)
    (all-kept caps (rooms_of r) (beginning a.state) empty calls B.right (subst (Premises caps empty) same P) (λ st. absurd (not_first st)) tt)))
