-- The draw calls. Assumes nothing.
use Prim.Native.Nat.{ℕ, zero, suc, ◌<◌}
use mathlib.Core.Path.{◌≡◌, refl, sym, ap, ◌∙◌, subst}
use mathlib.Core.Bool.{Bool, true, false, cond}
use mathlib.Core.List.{List, [], ◌∷◌, ◌++◌, map, append_assoc, append-nil}
use Rattle.std.specs.Prelude.{Option, Some}
use native.Mathlib.Omega.{arith}
use Rattle.tables.specs.Tabulate.{tabulate, upd_other}
use Rattle.mask.specs.Mask.{test_bit, places}
use Rattle.records.specs.Check.{among, locations}
use Rattle.records.specs.declared.command.AttributeDesc.{AttributeDesc}
use Rattle.records.specs.declared.command.Command.{Command}
use Rattle.records.specs.declared.pipeline.PrivateCapabilities.{PrivateCapabilities}
use Rattle.records.specs.declared.pipeline.RenderPipeline.{RenderPipeline}
use Rattle.records.specs.declared.state.Phase.{Phase}
use Rattle.records.specs.declared.state.Phase.TheVariants.{Render}
use Rattle.records.specs.declared.state.Progress.{Progress}
use Rattle.records.specs.declared.state.State.{State}
use Rattle.records.specs.declared.state.VertexState.{VertexState}
use Rattle.slots.specs.Vertex.{instance_at, attributes_of}
use Rattle.slots.specs.Prepare.{rebound, buffer_command, buffer_commands, attribute_command, attribute_commands, sent, prepared, prepared_state}
use Rattle.pipeline.specs.Vertex.{attributes_in, has}
use Rattle.calls.specs.Draws.{DrawArgs}
use Rattle.calls.specs.Parts.{with_progress, draw_args, drawn}
use Rattle.machine.specs.Each.{Each}
use Rattle.machine.specs.View.{Stage, before, first, later}
use Rattle.machine.specs.Machine.{Attribute, Vertices, Shot, Machine, with_vertices, noted, shoot, exec, play}
use Rattle.machine.specs.Found.{attributes_by, view_of}
use Rattle.book.specs.Book.{Book, Entered, entered, enter_draw, enter_draws, in_first, names}
use Rattle.book.specs.Premise.{Ready}
use Rattle.machine.proofs.Lists.{elsewhere}
use Rattle.machine.proofs.Sweep.{play-append, folded, played}
use Rattle.order.proofs.Invariant.{First, Sane, Drew, Agree, slot_buffer, attribute_buffer, sent_attribute, Spare, Fetched, Piped, Tied}
use Rattle.order.proofs.Sifted.{spared}
use Rattle.order.proofs.Prepared.{buffer_act, attribute_act, slot-after, slot_read, attribute-kept, attributes-after, attributes-own}
use Rattle.order.proofs.Drawing.{Fresh, args_of, args_are, view-is}
use Rattle.order.proofs.Keeps.{first-is, is-first, late}

abbrev counted : Phase → ℕ → ℕ → ℕ → Progress
counted ph n k l = record { phase = ph; commands = n; bytes = k; queries = l }

-- ---- the logs
abbrev noted_all : {A : Type 0} → Stage → List A → List A → List A
noted_all before xs l = l
noted_all first xs l = l ++ xs
noted_all later xs l = l

module _ (caps : PrivateCapabilities) where
  pub agree-append : (ss ss' : List Shot) (ds ds' : List Entered) → Agree caps ss ds → Agree caps ss' ds' → Agree caps (ss ++ ss') (ds ++ ds')
  agree-append [] ss' [] ds' a a' = a'
  agree-append [] ss' (d ∷ ds) ds' a a' = absurd a
  agree-append (s ∷ ss) ss' [] ds' a a' = absurd a
  agree-append (s ∷ ss) ss' (d ∷ ds) ds' a a' = (a.0, agree-append ss ss' ds ds' a.1 a')

  one-noted : (st : Stage) (s : Shot) (d : Entered) (ss : List Shot) (ds : List Entered) → Agree caps ss ds → (st ≡ first → Drew caps s d) → Agree caps (noted st s ss) (in_first st (d ∷ []) ds)
  one-noted before s d ss ds a h = a
  one-noted first s d ss ds a h = agree-append ss (s ∷ []) ds (d ∷ []) a (h refl, tt)
  one-noted later s d ss ds a h = a

  all_noted : (st : Stage) (xs : List Shot) (ys : List Entered) (ss : List Shot) (ds : List Entered) → Agree caps ss ds → (st ≡ first → Agree caps xs ys)
      → Agree caps (noted_all st xs ss) (in_first st ys ds)
  all_noted before xs ys ss ds a h = a
  all_noted first xs ys ss ds a h = agree-append ss xs ds ys a (h refl)
  all_noted later xs ys ss ds a h = a

  agree-table : (n : ℕ) (f : ℕ → Shot) (g : ℕ → Entered) → ((i : ℕ) → i < n → Drew caps (f i) (g i)) → Agree caps (tabulate n f) (tabulate n g)
  unfolding tabulate
  agree-table zero f g h = tt
  agree-table (suc n) f g h = (h 0 (omega arith), agree-table n (λ i. f (suc i)) (λ i. g (suc i)) (λ i l. h (suc i) (omega arith)))

-- ---- a run of draws, on the machine
shot_all : Bool → ℕ → (ℕ → Command) → Machine → Machine
shot_all indexed n c m = record { stage = m.stage; gl = m.gl; shots = noted_all m.stage (tabulate n (λ i. record { command = c i; indexed = indexed; gl = m.gl })) m.shots }

play-shots : (indexed : Bool) (n : ℕ) (c : ℕ → Command) → ((i : ℕ) (m : Machine) → exec m (c i) ≡ shoot indexed (c i) m) → (m : Machine) → play m (tabulate n c) ≡ shot_all indexed n c m
unfolding tabulate shot_all
play-shots indexed zero c h m = λ j. record { stage = m.stage; gl = m.gl; shots = none-noted m.stage m.shots j }
  where
    none-noted : (st : Stage) (l : List Shot) → l ≡ noted_all st [] l
    none-noted before l = refl
    none-noted first l = sym (append-nil l)
    none-noted later l = refl
play-shots indexed (suc n) c h m =
    ap (λ (x : Machine). play x (tabulate n (λ i. c (suc i)))) (h 0 m)
    ∙ play-shots indexed n (λ i. c (suc i)) (λ i x. h (suc i) x) (shoot indexed (c 0) m)
    ∙ (λ j. record { stage = m.stage; gl = m.gl; shots = one_more m.stage m.shots j })
  where
    x : Shot
    x = record { command = c 0; indexed = indexed; gl = m.gl }

    xs : List Shot
    xs = tabulate n (λ i. record { command = c (suc i); indexed = indexed; gl = m.gl })

    one_more : (st : Stage) (l : List Shot) → noted_all st xs (noted st x l) ≡ noted_all st (x ∷ xs) l
    one_more before l = refl
    one_more first l = append_assoc l (x ∷ []) xs
    one_more later l = refl

-- ---- the sweep before a draw
prepared_played : PrivateCapabilities → VertexState → ℕ → Vertices → Vertices
prepared_played caps v w g = cond caps.vertex_buffer_layout (folded (buffer_act v w) (places (rebound v w)) g) (folded (attribute_act v w) (sent v w) g)

play-prepared : (caps : PrivateCapabilities) (v : VertexState) (w : ℕ) (m : Machine) → play m (prepared caps v w) ≡ with_vertices (prepared_played caps v w m.gl.vertices) m
unfolding prepared_played buffer_commands attribute_commands
play-prepared caps v w m = go caps.vertex_buffer_layout
  where
    go : (t : Bool) → play m (cond t (map (buffer_command v w) (places (rebound v w))) (map (attribute_command v w) (sent v w)))
        ≡ with_vertices (cond t (folded (buffer_act v w) (places (rebound v w)) m.gl.vertices) (folded (attribute_act v w) (sent v w) m.gl.vertices)) m
    go true = played (λ (m : Machine). m.gl.vertices) with_vertices (buffer_command v w) (buffer_act v w) (λ m. refl) (λ m g h. refl) (λ m g. refl) (λ m i. refl) (places (rebound v w)) m
    go false = played (λ (m : Machine). m.gl.vertices) with_vertices (attribute_command v w) (attribute_act v w) (λ m. refl) (λ m g h. refl) (λ m g. refl) (λ m a. refl) (sent v w) m

module _ (caps : PrivateCapabilities) (s : State) (m : Machine) (b : Book) (T : Tied caps s m b) (ph : s.progress.phase ≡ Render)
    (w : ℕ) where
  abbrev v : VertexState
  v = s.vertex

  abbrev g : Vertices
  g = m.gl.vertices

  g' : Vertices
  g' = prepared_played caps v w g

  in-first : First s.progress.phase b.stage → b.stage ≡ first
  in-first f = first-is b.stage (subst (λ (q : Phase). First q b.stage) ph f)

  -- what the pipeline reads, after the sweep
  freshly : (p : RenderPipeline) → First s.progress.phase b.stage → Piped caps s m.gl b.reference p → Fresh caps v g' b.buffer p w
  unfolding g' prepared_played
  freshly p f P =
      record {
        slots = λ layout i l h y d x.
            ap (λ (t : Bool). (cond t (folded (buffer_act v w) (places (rebound v w)) g) (folded (attribute_act v w) (sent v w) g)).buffer i) layout
            ∙ slot_read caps v g b.buffer (T.slots f) layout w p P.fetched i l h y d x;
        attributes = λ flat.
            subst (λ (t : Bool). Each (λ (a : AttributeDesc). test_bit v.bound a.buffer_index ≡ true → (cond t (folded (buffer_act v w) (places (rebound v w)) g) (folded (attribute_act v w) (sent v w) g)).attribute a.location ≡ Some (attribute_buffer v w a)) (attributes_in p))
            (sym flat) (attributes-after caps v g p P.fetched flat w);
      }

  attributes-kept : (p : RenderPipeline) → First s.progress.phase b.stage → Piped caps s m.gl b.reference p → caps.vertex_buffer_layout ≡ true → g'.attribute ≡ g.attribute
  unfolding g' prepared_played
  attributes-kept p f P layout =
      ap (λ (t : Bool). (cond t (folded (buffer_act v w) (places (rebound v w)) g) (folded (attribute_act v w) (sent v w) g)).attribute) layout
      ∙ attribute-kept caps v g b.buffer (T.slots f) layout w

  -- each described, bound slot, after the sweep
  reslotted : First s.progress.phase b.stage → caps.vertex_buffer_layout ≡ true → (i : ℕ) → i < 16 → has (b.buffer i) ≡ true → test_bit v.described i ≡ true → test_bit v.bound i ≡ true → g'.buffer i ≡ Some (slot_buffer v (instance_at (prepared_state caps v w) i) i)
  unfolding g' prepared_played
  reslotted f layout i l y d x =
      ap (λ (t : Bool). (cond t (folded (buffer_act v w) (places (rebound v w)) g) (folded (attribute_act v w) (sent v w) g)).buffer i) layout
      ∙ slot-after caps v g b.buffer (T.slots f) layout w i l y d x

  -- each attribute, after the sweep, at the instance that its slot remembers
  owned : (p : RenderPipeline) → First s.progress.phase b.stage → Piped caps s m.gl b.reference p → caps.vertex_buffer_layout ≡ false → Each (λ (a : AttributeDesc). test_bit v.bound a.buffer_index ≡ true → g'.attribute a.location ≡ Some (attribute_buffer v (instance_at (prepared_state caps v w) a.buffer_index) a)) (attributes_in p)
  unfolding g' prepared_played
  owned p f P flat =
      subst (λ (t : Bool). Each (λ (a : AttributeDesc). test_bit v.bound a.buffer_index ≡ true → (cond t (folded (buffer_act v w) (places (rebound v w)) g) (folded (attribute_act v w) (sent v w) g)).attribute a.location ≡ Some (attribute_buffer v (instance_at (prepared_state caps v w) a.buffer_index) a)) (attributes_in p))
      (sym flat) (attributes-own caps v g p P.fetched flat w)

  refetched : (p : RenderPipeline) → First s.progress.phase b.stage → Piped caps s m.gl b.reference p → Fetched caps (prepared_state caps v w) g' p
  refetched p f P =
      record {
        ranged = P.fetched.ranged;
        described = P.fetched.described;
        apart = P.fetched.apart;
        kept = P.fetched.kept;
        instances = P.fetched.instances;
        sent = λ layout.
            subst (λ (x : ℕ → Option Attribute). Each (λ (a : AttributeDesc). x a.location ≡ Some (sent_attribute p a)) (attributes_in p)) (sym (attributes-kept p f P layout)) (P.fetched.sent layout);
        held = P.fetched.held;
        clean = λ flat. go (attributes_in p) (owned p f P flat);
      }
    where
      go : (l : List AttributeDesc) → Each (λ (a : AttributeDesc). test_bit v.bound a.buffer_index ≡ true → g'.attribute a.location ≡ Some (attribute_buffer v (instance_at (prepared_state caps v w) a.buffer_index) a)) l
          → Each (λ (a : AttributeDesc). test_bit (prepared_state caps v w).dirty_vbuf_mask a.buffer_index ≡ false → test_bit v.bound a.buffer_index ≡ true → g'.attribute a.location ≡ Some (attribute_buffer v (instance_at (prepared_state caps v w) a.buffer_index) a)) l
      go [] h = tt
      go (a ∷ l) h = ((λ e x. h.0 x), go l h.1)

  -- the sweep sets no attribute outside the state's list
  spare-after : Spare caps v g'
  unfolding g' prepared_played
  spare-after flat i e =
      ap (λ (t : Bool). (cond t (folded (buffer_act v w) (places (rebound v w)) g) (folded (attribute_act v w) (sent v w) g)).attribute i) flat
      ∙ spared (attribute_act v w) (λ (x : Vertices). x.attribute) (λ a x j ne. upd_other x.attribute a.location j (Some (attribute_buffer v w a)) ne)
      (rebound v w) (attributes_of v) i (elsewhere i (attributes_of v) e) g
      ∙ T.spare flat i e

  swept : (n k l : ℕ) → Tied caps (with_progress (counted s.progress.phase n k l) (drawn caps w s)) (with_vertices g' m) b
  swept n k l =
      record {
        stage = T.stage;
        sane = T.sane;
        log = T.log;
        screen = T.screen;
        res = T.res;
        args = T.args;
        units = T.units;
        lazy = T.lazy;
        steady = record { long = T.steady.long };
        spare = spare-after;
        early = λ e. absurd (late b.stage (subst (λ (p : Phase). Sane p b.stage) ph T.sane) e);
        slots = λ f.
            record {
              bound = (T.slots f).bound;
              clean = λ layout i l y e d x. reslotted f layout i l y d x;
            };
        piped = λ f p e.
            let P = T.piped f p e in
            record {
              drawn = P.drawn;
              set = P.set;
              stenciled = P.stenciled;
              numbered = P.numbered;
              fetched = refetched p f P;
            };
      }

  -- the view of a draw whose command is made of the state's arguments
  viewed : (b.stage ≡ first → Ready b) → (indexed : Bool) (c : DrawArgs → Command) → b.stage ≡ first → view_of b.pipeline (record { command = c (draw_args s.draw); indexed = indexed; gl = (with_vertices g' m).gl }) ≡ names b w indexed (c (args_of b))
  viewed ready indexed c st =
      let R = ready st in
      let f : First s.progress.phase b.stage = subst (λ (q : Phase). First q b.stage) (sym ph) (is-first b.stage st) in
      let P = T.piped f R.pipeline R.is in
      let T' = swept 0 0 0 in
      view-is caps (drawn caps w s) (with_vertices g' m).gl b R w indexed (c (draw_args s.draw)) T'.screen T'.res T'.units (T'.slots f) (repiped (T'.piped f R.pipeline R.is)) (fresh' (freshly R.pipeline f P))
      ∙ ap (λ (a : DrawArgs). names b w indexed (c a)) (args_are s b R.pipeline R.is T.args P.drawn)
    where
      repiped : {p : RenderPipeline} → Piped caps (with_progress (counted s.progress.phase 0 0 0) (drawn caps w s)) (with_vertices g' m).gl b.reference p → Piped caps (drawn caps w s) (with_vertices g' m).gl b.reference p
      repiped P = record { drawn = P.drawn; set = P.set; stenciled = P.stenciled; numbered = P.numbered; fetched = P.fetched }

      fresh' : {p : RenderPipeline} → Fresh caps v g' b.buffer p w → Fresh caps (prepared_state caps v w) g' b.buffer p w
      fresh' F = record { slots = F.slots; attributes = F.attributes }

  -- and it finds no attribute beside
  drew : (b.stage ≡ first → Ready b) → (indexed : Bool) (c : DrawArgs → Command) → b.stage ≡ first
      → Drew caps (record { command = c (draw_args s.draw); indexed = indexed; gl = (with_vertices g' m).gl }) (entered b (names b w indexed (c (args_of b))))
  drew ready indexed c st = (
    viewed ready indexed c st,
    λ flat i e.
        let R = ready st in
        let f : First s.progress.phase b.stage = subst (λ (q : Phase). First q b.stage) (sym ph) (is-first b.stage st) in
        let held = (T.piped f R.pipeline R.is).fetched.held flat ∙ sym (ap attributes_by R.is) in
        spare-after flat i (ap (λ (l : List AttributeDesc). among i (locations l)) held ∙ e),
  )

  -- ---- one draw
  pub by-draw : (b.stage ≡ first → Ready b) → (indexed : Bool) (c : DrawArgs → Command) → ((a : DrawArgs) (x : Machine) → exec x (c a) ≡ shoot indexed (c a) x) → (n k l : ℕ)
      → Tied caps (with_progress (counted s.progress.phase n k l) (drawn caps w s)) (play m (prepared caps v w ++ (c (draw_args s.draw) ∷ []))) (enter_draw w indexed (c (args_of b)) b)
  unfolding g'
  by-draw ready indexed c shoots n k l =
      subst (λ (x : Machine). Tied caps (with_progress (counted s.progress.phase n k l) (drawn caps w s)) x (enter_draw w indexed (c (args_of b)) b))
      (sym (play-append m (prepared caps v w) (c (draw_args s.draw) ∷ []) ∙ ap (λ (x : Machine). exec x (c (draw_args s.draw))) (play-prepared' m) ∙ shoots (draw_args s.draw) (with_vertices g' m)))
      (let T' = swept n k l in
      record {
        stage = T'.stage;
        sane = T'.sane;
        log =
            subst (λ (st : Stage). Agree caps (noted st (record { command = c (draw_args s.draw); indexed = indexed; gl = (with_vertices g' m).gl }) m.shots) (enter_draw w indexed (c (args_of b)) b).draws) (sym T.stage)
            (one-noted caps b.stage (record { command = c (draw_args s.draw); indexed = indexed; gl = (with_vertices g' m).gl }) (entered b (names b w indexed (c (args_of b)))) m.shots b.draws T.log (drew ready indexed c));
        screen = record { viewport = T.screen.viewport; scissor = T.screen.scissor; blend = T.screen.blend };
        res = T'.res;
        args = record { format = T.args.format; offset = T.args.offset };
        units = T'.units;
        lazy = T'.lazy;
        steady = T'.steady;
        spare = T'.spare;
        early = T'.early;
        slots = T'.slots;
        piped = T'.piped;
      })
    where
      play-prepared' : (x : Machine) → play x (prepared caps v w) ≡ with_vertices (prepared_played caps v w x.gl.vertices) x
      play-prepared' x = play-prepared caps v w x

-- ---- indirect draws: working instance 0
module _ (caps : PrivateCapabilities) (s : State) (m : Machine) (b : Book) (T : Tied caps s m b) (ph : s.progress.phase ≡ Render) where
  pub by-indirect : (indexed : Bool) (c : DrawArgs → ℕ → Command) (count : ℕ) → (b.stage ≡ first → 0 < count → Ready b) → ((a : DrawArgs) (i : ℕ) (x : Machine) → exec x (c a i) ≡ shoot indexed (c a i) x) → (n k l : ℕ)
      → Tied caps (with_progress (counted s.progress.phase n k l) (drawn caps 0 s)) (play m (prepared caps s.vertex 0 ++ tabulate count (c (draw_args s.draw)))) (enter_draws indexed (c (args_of b)) count b)
  unfolding shot_all g'
  by-indirect indexed c count ready shoots n k l =
      subst (λ (x : Machine). Tied caps (with_progress (counted s.progress.phase n k l) (drawn caps 0 s)) x (enter_draws indexed (c (args_of b)) count b))
      (sym
      (play-append m (prepared caps s.vertex 0) (tabulate count (c (draw_args s.draw)))
      ∙ ap (λ (x : Machine). play x (tabulate count (c (draw_args s.draw)))) (play-prepared caps s.vertex 0 m)
      ∙ play-shots indexed count (c (draw_args s.draw)) (shoots (draw_args s.draw)) (with_vertices (prepared_played caps s.vertex 0 m.gl.vertices) m)))
      (let T' = swept caps s m b T ph 0 n k l in
      record {
        stage = T'.stage;
        sane = T'.sane;
        log =
            subst (λ (st : Stage). Agree caps (noted_all st (tabulate count shot) m.shots) (enter_draws indexed (c (args_of b)) count b).draws) (sym T.stage)
            (all_noted caps b.stage (tabulate count shot) (tabulate count entry) m.shots b.draws T.log
            (λ st. agree-table caps count shot entry (λ i h. drew caps s m b T ph 0 (λ x. ready x (omega arith)) indexed (λ a. c a i) st)));
        screen = record { viewport = T.screen.viewport; scissor = T.screen.scissor; blend = T.screen.blend };
        res = T'.res;
        args = record { format = T.args.format; offset = T.args.offset };
        units = T'.units;
        lazy = T'.lazy;
        steady = T'.steady;
        spare = T'.spare;
        early = T'.early;
        slots = T'.slots;
        piped = T'.piped;
      })
    where
      shot : ℕ → Shot
      shot i = record { command = c (draw_args s.draw) i; indexed = indexed; gl = (with_vertices (prepared_played caps s.vertex 0 m.gl.vertices) m).gl }

      entry : ℕ → Entered
      entry i = entered b (names b 0 indexed (c (args_of b) i))
