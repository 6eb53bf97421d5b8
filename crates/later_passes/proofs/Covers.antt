-- Two books fed with the calls of a pass, one empty at its beginning and one with what earlier calls left: both name the same wherever the pass has set it. Assumes nothing.
use Prim.Native.Nat.{ℕ, zero, suc, ◌+◌, ◌*◌, ◌<◌}
use mathlib.Core.Path.{◌≡◌, refl, sym, ap, ◌∙◌, subst}
use mathlib.Core.Bool.{Bool, true, false, cond}
use mathlib.Core.List.{List, [], ◌∷◌, ◌++◌}
use Rattle.std.specs.Prelude.{Option, None, Some}
use mathlib.Core.Logic.{◌⊎◌, inl, inr}
use native.Mathlib.Omega.{arith}
use lib.Dec.{eqb}
use lib.ListN.{take, get_or}
use Rattle.tables.specs.Tabulate.{tabulate, upd, at_place}
use Rattle.records.specs.declared.binding.BindGroupLayoutEntry.{BindGroupLayoutEntry}
use Rattle.records.specs.declared.binding.Content.{Content}
use Rattle.records.specs.declared.binding.RawBinding.{RawBinding}
use Rattle.records.specs.declared.binding.RawBinding.TheVariants as content
use Rattle.records.specs.declared.command.BufferBinding.{BufferBinding}
use Rattle.records.specs.declared.command.Command.{Command}
use Rattle.records.specs.declared.command.Command.TheVariants.{Draw, DrawIndexed, DrawIndirect, DrawIndexedIndirect}
use Rattle.records.specs.declared.pipeline.PrivateCapabilities.{PrivateCapabilities}
use Rattle.records.specs.declared.pipeline.RenderPipeline.{RenderPipeline}
use Rattle.records.specs.declared.state.IndexFormat.{IndexFormat}
use Rattle.calls.specs.Call.{Call, begin_encoding, end_encoding, begin_render_pass, end_render_pass, begin_compute_pass, end_compute_pass, transition_buffers, transition_textures}
use Rattle.calls.specs.Call.{clear_buffer, copy_buffer_to_buffer, copy_query_results, begin_query, end_query, write_timestamp, reset_queries, set_bind_group, set_immediates}
use Rattle.calls.specs.Call.{set_render_pipeline, set_compute_pipeline, set_index_buffer, set_vertex_buffer, set_viewport, set_scissor_rect, set_stencil_reference, set_blend_constants}
use Rattle.calls.specs.Call.{draw, draw_indexed, draw_indirect, draw_indexed_indirect, dispatch_workgroups, dispatch_workgroups_indirect}
use Rattle.machine.proofs.Lists.{false-true}
use Rattle.machine.specs.View.{Stage, before, first, later, BufferRange}
use Rattle.book.specs.Book.{References, Bound, Entered, Book, known, named_sampler, number_by, names, topology_by, location_by, type_of, size_of, with_draws, target_of, offsets_left, offset_in, enter_entry, enter_group, entries_in, in_first, working_of, entered, enter_draw, enter_draws, enter}
use Rattle.book.specs.Premise.{Ready, Premise}
use Rattle.later_passes.specs.Pass.{role_of, Given, AtDraw, blended}
use Rattle.later_passes.specs.Alike.{Alike}
use Rattle.later_passes.proofs.Phases.{within}

-- ---- bind groups: where one has set something, the other has the same
pub record Over (o b : Bound) : Type 0 where
  pub buffers : (t i : ℕ) → known (o.buffers t i) ≡ true → o.buffers t i ≡ b.buffers t i
  pub textures : (i : ℕ) → known (o.textures i) ≡ true → o.textures i ≡ b.textures i
  pub images : (i : ℕ) → known (o.images i) ≡ true → o.images i ≡ b.images i
  pub samplers : (k : ℕ) → (o.samplers k ≡ None → ⊥) → o.samplers k ≡ b.samplers k

put : {A : Type 0} (t : Bool) (x : A) (u v : Option A) → (known u ≡ true → u ≡ v) → known (cond t (Some x) u) ≡ true → cond t (Some x) u ≡ cond t (Some x) v
put true x u v h e = refl
put false x u v h e = h e

put-sampler : (t : Bool) (x : Option ℕ) (u v : Option ℕ) → ((u ≡ None → ⊥) → u ≡ v) → (cond t x u ≡ None → ⊥) → cond t x u ≡ cond t x v
put-sampler true x u v h e = refl
put-sampler false x u v h e = h e

over-entry : (e : BindGroupLayoutEntry) (r : RawBinding) (os : List ℕ) (o b : Bound) → Over o b → Over (enter_entry e r os o) (enter_entry e r os b)
over-entry e (content.Buffer raw offset size) os o b O = record { buffers = λ t i. go t i (eqb t (target_of e.ty)); textures = O.textures; images = O.images; samplers = O.samplers }
  where
    x : BufferRange
    x = record { buffer = raw; offset = offset_in e offset os; size = size }

    go : (t i : ℕ) (s : Bool) → known (cond s (upd (o.buffers (target_of e.ty)) e.slot (Some x)) (o.buffers t) i) ≡ true
        → cond s (upd (o.buffers (target_of e.ty)) e.slot (Some x)) (o.buffers t) i ≡ cond s (upd (b.buffers (target_of e.ty)) e.slot (Some x)) (b.buffers t) i
    go t i true h = put (eqb i e.slot) x (o.buffers (target_of e.ty) i) (b.buffers (target_of e.ty) i) (O.buffers (target_of e.ty) i) h
    go t i false h = O.buffers t i h
over-entry e (content.Texture raw target aspects mips) os o b O =
    record {
      buffers = O.buffers;
      textures = λ i h. put (eqb i e.slot) (record { texture = raw; target = target; aspects = aspects; mips = mips }) (o.textures i) (b.textures i) (O.textures i) h;
      images = O.images;
      samplers = O.samplers;
    }
over-entry e (content.Image x) os o b O =
    record { buffers = O.buffers; textures = O.textures; images = λ i h. put (eqb i e.slot) x (o.images i) (b.images i) (O.images i) h; samplers = O.samplers }
over-entry e (content.Sampler k) os o b O =
    record {
      buffers = O.buffers;
      textures = O.textures;
      images = O.images;
      samplers = λ i h. put-sampler (eqb i e.slot) (Some k) (o.samplers i) (b.samplers i) (O.samplers i) h;
    }

over-group : (es : List BindGroupLayoutEntry) (cs : List Content) (os : List ℕ) (o b : Bound) → Over o b → Over (enter_group es cs os o) (enter_group es cs os b)
unfolding enter_group
over-group [] cs os o b O = O
over-group (e ∷ es) [] os o b O = O
over-group (e ∷ es) (c ∷ cs) os o b O = over-group es cs (offsets_left e c.binding os) (enter_entry e c.binding os o) (enter_entry e c.binding os b) (over-entry e c.binding os o b O)

-- ---- draw by draw: the same pipeline, and views that are alike wherever the first has something
abbrev Logged : Entered → Entered → Type 0
Logged d e = (d.pipeline ≡ e.pipeline) × Alike d.pipeline d.view d.view e.view

abbrev pub Logs : List Entered → List Entered → Type 0
Logs [] [] = Unit {0}
Logs [] (e ∷ es) = ⊥
Logs (d ∷ ds) [] = ⊥
Logs (d ∷ ds) (e ∷ es) = Logged d e × Logs ds es

logs-append : (ds ds' es es' : List Entered) → Logs ds es → Logs ds' es' → Logs (ds ++ ds') (es ++ es')
logs-append [] ds' [] es' a b = b
logs-append [] ds' (e ∷ es) es' a b = absurd a
logs-append (d ∷ ds) ds' [] es' a b = absurd a
logs-append (d ∷ ds) ds' (e ∷ es) es' a b = (a.0, logs-append ds ds' es es' a.1 b)

log-more : (st : Stage) (xs ys ds es : List Entered) → Logs ds es → Logs xs ys → Logs (in_first st xs ds) (in_first st ys es)
log-more before xs ys ds es L h = L
log-more first xs ys ds es L h = logs-append ds xs es ys L h
log-more later xs ys ds es L h = L

log-table : (n : ℕ) (f g : ℕ → Entered) → (0 < n → (i : ℕ) → Logged (f i) (g i)) → Logs (tabulate n f) (tabulate n g)
unfolding tabulate
log-table zero f g h = tt
log-table (suc n) f g h = (h (omega arith) 0, log-table n (λ i. f (suc i)) (λ i. g (suc i)) (λ l i. h (omega arith) (suc i)))

-- ---- the books
-- the index buffer with its format and offset
abbrev pub Indexed : Book → Book → Type 0
Indexed o b = (o.index ≡ b.index) × (o.format ≡ b.format) × (o.offset ≡ b.offset)

pub record Covers (blended : Bool) (o b : Book) : Type 0 where
  pub stage : o.stage ≡ b.stage
  pub pipeline : o.pipeline ≡ b.pipeline
  pub reference : o.reference ≡ b.reference
  pub buffer : o.buffer ≡ b.buffer
  pub index : known o.index ≡ true → Indexed o b
  pub bound : Over o.bound b.bound
  pub viewport : o.viewport ≡ b.viewport
  pub scissor : o.scissor ≡ b.scissor
  pub blend : blended ≡ true → o.blend ≡ b.blend
  pub log : Logs o.draws b.draws

-- entry by entry
covering : {t : Bool} {o b : Book} → o.stage ≡ b.stage → o.pipeline ≡ b.pipeline → o.reference ≡ b.reference → o.buffer ≡ b.buffer → (known o.index ≡ true → Indexed o b)
    → Over o.bound b.bound → o.viewport ≡ b.viewport → o.scissor ≡ b.scissor → (t ≡ true → o.blend ≡ b.blend) → Logs o.draws b.draws → Covers t o b
covering s p r f i u v c k l = record { stage = s; pipeline = p; reference = r; buffer = f; index = i; bound = u; viewport = v; scissor = c; blend = k; log = l }

module _ (o b : Book) (O : Covers true o b) (I : Indexed o b) where
  -- a book with the things that a view is made of
  abbrev book_by : Option RenderPipeline → Option References → (ℕ → Option BufferBinding) → Option ℕ → Book
  book_by p r x i =
      record { stage = before; pipeline = p; reference = r; buffer = x; index = i; format = o.format; offset = 0; bound = o.bound; viewport = None; scissor = None; blend = o.blend; draws = [] }

  unit : (n : Option ℕ) → (n ≡ None) ⊎ (named_sampler o.bound.samplers n ≡ None → ⊥) → named_sampler o.bound.samplers n ≡ named_sampler b.bound.samplers n
  unit None q = refl
  unit (Some k) (inl q) = let z : ◌≡◌ {A = ℕ} 0 1 = cc in absurd (omega arith)
  unit (Some k) (inr q) = O.bound.samplers k q

  abbrev sampler : ℕ → Option ℕ
  sampler u = named_sampler o.bound.samplers (number_by o.pipeline u)

  abbrev other : ℕ → Option ℕ
  other u = named_sampler b.bound.samplers (number_by b.pipeline u)

  units : (u : ℕ) → u < 16 → (number_by o.pipeline u ≡ None) ⊎ (get_or (tabulate 16 sampler) u None ≡ None → ⊥) → get_or (tabulate 16 sampler) u None ≡ get_or (tabulate 16 other) u None
  units u l q =
      at_place 16 sampler u None l
      ∙ unit (number_by o.pipeline u) (at q)
      ∙ ap (λ (p : Option RenderPipeline). named_sampler b.bound.samplers (number_by p u)) O.pipeline
      ∙ sym (at_place 16 other u None l)
    where
      at : (number_by o.pipeline u ≡ None) ⊎ (get_or (tabulate 16 sampler) u None ≡ None → ⊥) → (number_by o.pipeline u ≡ None) ⊎ (sampler u ≡ None → ⊥)
      at (inl e) = inl e
      at (inr e) = inr (λ h. e (at_place 16 sampler u None l ∙ h))

  -- the same pipeline, reference and vertex buffers give the same view but for what bind groups set
  names-alike : (w : ℕ) (indexed : Bool) (c d : Command) → c ≡ d → Alike o.pipeline (names o w indexed c) (names o w indexed c) (names b w indexed d)
  names-alike w indexed c d e =
      record {
        command = e;
        program = λ j. (names (book_by (O.pipeline j) None (λ i. None) None) w indexed c).program;
        fetches = λ j. (names (book_by (O.pipeline j) None (O.buffer j) None) w indexed c).fetches;
        viewport = O.viewport;
        scissor = O.scissor;
        blend = O.blend refl;
        primitive = λ j. (names (book_by (O.pipeline j) None (λ i. None) None) w indexed c).primitive;
        bias = λ j. (names (book_by (O.pipeline j) None (λ i. None) None) w indexed c).bias;
        alpha = λ j. (names (book_by (O.pipeline j) None (λ i. None) None) w indexed c).alpha;
        targets = λ j. (names (book_by (O.pipeline j) None (λ i. None) None) w indexed c).targets;
        clip = λ j. (names (book_by (O.pipeline j) None (λ i. None) None) w indexed c).clip;
        has_depth = λ j. (names (book_by (O.pipeline j) None (λ i. None) None) w indexed c).has_depth;
        has_stencil = λ j. (names (book_by (O.pipeline j) None (λ i. None) None) w indexed c).has_stencil;
        depth = λ j. (names (book_by (O.pipeline j) None (λ i. None) None) w indexed c).depth;
        stencil = λ j. (names (book_by (O.pipeline j) (O.reference j) (λ i. None) None) w indexed c).stencil;
        index = λ j. (names (book_by None None (λ i. None) (I.0 j)) w indexed c).index;
        buffers = O.bound.buffers;
        textures = O.bound.textures;
        images = O.bound.images;
        samplers = units;
      }

-- ---- one call of the pass
-- what a draw's command takes from the book: index format and offset, and the pipeline
abbrev Made : Type 0 → Type 0
Made A = IndexFormat → ℕ → Option RenderPipeline → A

module _ (caps : PrivateCapabilities) (t : Bool) (o b : Book) (O : Covers t o b) where
  ready : Given t o → Ready b
  ready G =
      record {
        pipeline = G.ready.pipeline;
        is = sym O.pipeline ∙ G.ready.is;
        bound = λ i l h. ap (λ (x : ℕ → Option BufferBinding). known (x i)) (sym O.buffer) ∙ G.ready.bound i l h;
      }

  covered : Given t o → Covers true o b
  covered G = covering O.stage O.pipeline O.reference O.buffer O.index O.bound O.viewport O.scissor (λ e. O.blend G.blend) O.log

  logged : {A : Type 0} (c : Made A) → Indexed o b → c o.format o.offset o.pipeline ≡ c b.format b.offset b.pipeline
  logged c I = λ j. c (I.1 j) (I.2 j) (O.pipeline j)

  noted : (xs ys : List Entered) → Logs xs ys → Covers t (with_draws (in_first o.stage xs o.draws) o) (with_draws (in_first b.stage ys b.draws) b)
  noted xs ys h =
      covering O.stage O.pipeline O.reference O.buffer O.index O.bound O.viewport O.scissor O.blend
      (subst (λ (st : Stage). Logs (in_first o.stage xs o.draws) (in_first st ys b.draws)) O.stage (log-more o.stage xs ys o.draws b.draws O.log h))

  drew : (w : ℕ) (indexed : Bool) (c : Made Command) → Given t o
      → Covers t (enter_draw w indexed (c o.format o.offset o.pipeline) o) (enter_draw w indexed (c b.format b.offset b.pipeline) b)
  drew w indexed c G =
      let I = O.index G.index in
      noted (entered o (names o w indexed (c o.format o.offset o.pipeline)) ∷ []) (entered b (names b w indexed (c b.format b.offset b.pipeline)) ∷ [])
      ((O.pipeline, names-alike o b (covered G) I w indexed (c o.format o.offset o.pipeline) (c b.format b.offset b.pipeline) (logged c I)), tt)

  drew-all : (indexed : Bool) (c : Made (ℕ → Command)) (n : ℕ) → (0 < n → Given t o)
      → Covers t (enter_draws indexed (c o.format o.offset o.pipeline) n o) (enter_draws indexed (c b.format b.offset b.pipeline) n b)
  drew-all indexed c n A =
      noted (tabulate n (λ i. entered o (names o 0 indexed (c o.format o.offset o.pipeline i)))) (tabulate n (λ i. entered b (names b 0 indexed (c b.format b.offset b.pipeline i))))
      (log-table n (λ i. entered o (names o 0 indexed (c o.format o.offset o.pipeline i))) (λ i. entered b (names b 0 indexed (c b.format b.offset b.pipeline i))) one)
    where
      one : 0 < n → (i : ℕ) → Logged (entered o (names o 0 indexed (c o.format o.offset o.pipeline i))) (entered b (names b 0 indexed (c b.format b.offset b.pipeline i)))
      one l i =
          let G = A l in
          let I = O.index G.index in
          (O.pipeline, names-alike o b (covered G) I 0 indexed (c o.format o.offset o.pipeline i) (c b.format b.offset b.pipeline i) (logged (λ f m p. c f m p i) I))

  -- what is asked of the pass is what document 01's premises ask of the other book, and both books go on alike
  pub pass-call : (c : Call) → within (role_of c) ≡ true → AtDraw t o (role_of c) → Premise b c × Covers (blended t (role_of c)) (enter caps o c) (enter caps b c) × ((enter caps o c).stage ≡ o.stage)
  pass-call begin_encoding I A = false-true I
  pass-call end_encoding I A = false-true I
  pass-call end_render_pass I A = false-true I
  pass-call end_compute_pass I A = false-true I
  pass-call (begin_render_pass d label set) I A = false-true I
  pass-call (begin_compute_pass s label set) I A = false-true I
  pass-call (transition_buffers l) I A = (tt, O, refl)
  pass-call (transition_textures l) I A = (tt, O, refl)
  pass-call (clear_buffer x range) I A = (tt, O, refl)
  pass-call (copy_buffer_to_buffer src dst l) I A = (tt, O, refl)
  pass-call (copy_query_results set start end dst offset) I A = (tt, O, refl)
  pass-call (begin_query set i) I A = (tt, O, refl)
  pass-call (end_query set i) I A = (tt, O, refl)
  pass-call (write_timestamp set i) I A = (tt, O, refl)
  pass-call (reset_queries set start end) I A = (tt, O, refl)
  pass-call (set_bind_group l i e g os) I A =
      let u = over-group (entries_in l i e) (take g.content_count g.contents) (take os.count os.run) o.bound b.bound O.bound in
      (tt, covering O.stage O.pipeline O.reference O.buffer O.index u O.viewport O.scissor O.blend O.log, refl)
  pass-call (set_immediates offset ws) I A = (tt, O, refl)
  pass-call (set_render_pipeline p) I A = (tt, covering O.stage refl refl O.buffer O.index O.bound O.viewport O.scissor O.blend O.log, refl)
  pass-call (set_compute_pipeline p) I A = (tt, O, refl)
  pass-call (set_index_buffer raw offset format) I A =
      (tt, covering O.stage O.pipeline O.reference O.buffer (λ h. (refl, refl, refl)) O.bound O.viewport O.scissor O.blend O.log, refl)
  pass-call (set_vertex_buffer i raw offset) I A =
      let f = ap (λ (x : ℕ → Option BufferBinding). upd x i (Some (record { raw = raw; offset = offset }))) O.buffer in
      (tt, covering O.stage O.pipeline O.reference f O.index O.bound O.viewport O.scissor O.blend O.log, refl)
  pass-call (set_viewport r d) I A = (tt, covering O.stage O.pipeline O.reference O.buffer O.index O.bound refl O.scissor O.blend O.log, refl)
  pass-call (set_scissor_rect r) I A = (tt, covering O.stage O.pipeline O.reference O.buffer O.index O.bound O.viewport refl O.blend O.log, refl)
  pass-call (set_stencil_reference v) I A = (tt, covering O.stage O.pipeline refl O.buffer O.index O.bound O.viewport O.scissor O.blend O.log, refl)
  pass-call (set_blend_constants k) I A = (tt, covering O.stage O.pipeline O.reference O.buffer O.index O.bound O.viewport O.scissor (λ e. refl) O.log, refl)
  pass-call (draw vertex vertices instance instances) I A =
      let G = A (omega arith) in ((λ st. ready G), drew (working_of caps instance) false (λ f n p. Draw (topology_by p) vertex vertices instance instances (location_by p)) G, refl)
  pass-call (draw_indexed fst count base instance instances) I A =
      let G = A (omega arith) in
      ((λ st. ready G), drew (working_of caps instance) true (λ f n p. DrawIndexed (topology_by p) (type_of f) count (n + size_of f * fst) base instance instances (location_by p)) G, refl)
  pass-call (draw_indirect raw offset n) I A = ((λ st l. ready (A l)), drew-all false (λ f m p i. DrawIndirect (topology_by p) raw (offset + i * 16) (location_by p)) n A, refl)
  pass-call (draw_indexed_indirect raw offset n) I A = ((λ st l. ready (A l)), drew-all true (λ f m p i. DrawIndexedIndirect (topology_by p) (type_of f) raw (offset + i * 20) (location_by p)) n A, refl)
  pass-call (dispatch_workgroups x y z) I A = (tt, O, refl)
  pass-call (dispatch_workgroups_indirect raw offset) I A = (tt, O, refl)
