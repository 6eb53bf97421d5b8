-- The calls, one by one: passes, bindings, settings. Assumes nothing.
use Prim.Native.Nat.{ℕ}
use mathlib.Core.Path.{◌≡◌, refl, sym, ap, ◌∙◌, subst}
use mathlib.Core.Bool.{Bool, true, false, cond, ◌||◌}
use mathlib.Core.List.{List, [], ◌∷◌, ◌++◌, map}
use Rattle.std.specs.Prelude.{Option, None, Some}
use Rattle.names.specs.declared.gl.StencilState.{StencilState}
use lib.Dec.{eqb}
use lib.ListN.{take}
use Rattle.mask.specs.Mask.{places}
use Rattle.records.specs.Check.{some?, among, locations}
use Rattle.records.specs.declared.command.AttributeDesc.{AttributeDesc}
use Rattle.records.specs.declared.command.ColorF32.{ColorF32}
use Rattle.records.specs.declared.command.Command.{Command}
use Rattle.records.specs.declared.command.Command.TheVariants.{ResetFramebuffer, SetScissor, SetViewport, SetDrawColorBuffers, SetIndexBuffer}
use Rattle.records.specs.declared.command.RectI32.{RectI32}
use Rattle.records.specs.declared.pass.RenderPassDescriptor.{RenderPassDescriptor}
use Rattle.records.specs.declared.pipeline.PipelineInner.{PipelineInner}
use Rattle.records.specs.declared.pipeline.PrivateCapabilities.{PrivateCapabilities}
use Rattle.records.specs.declared.pipeline.RenderPipeline.{RenderPipeline}
use Rattle.records.specs.declared.state.IndexFormat.{IndexFormat}
use Rattle.records.specs.declared.state.PassState.{PassState}
use Rattle.records.specs.declared.state.ResolveDesc.{ResolveDesc}
use Rattle.records.specs.declared.state.Phase.{Phase}
use Rattle.records.specs.declared.state.Phase.TheVariants.{Open, Render, Compute}
use Rattle.records.specs.declared.state.Progress.{Progress}
use Rattle.records.specs.declared.state.State.{State}
use Rattle.slots.specs.Vertex.{attributes_of}
use Rattle.bindings.specs.Units.{dirty_units}
use Rattle.bindings.specs.Group.{Entry, group_state, textures_named, samplers_named, bind_group_commands, entry_out_of_range}
use Rattle.pipeline.specs.Inner.{inner_bind, inner_commands, inner_immediates, changed_units}
use Rattle.pipeline.specs.Vertex.{unset_attribute}
use Rattle.pipeline.specs.Fixed.{stencil_funcs}
use Rattle.pass.specs.Marks.{Lent, Label, begin_timestamp, push_label, pop_label, timestamp}
use Rattle.pass.specs.Render.{places_of, default_first, to_external, attachments, clear_colors, clear_depth, extent_rect, full_depth, begin_render_commands, resolve_command, invalidate_command, end_render_commands}
use Rattle.calls.specs.Parts.{with_progress, with_vertex, with_draw, with_fixed, with_bind, with_pass, with_immediates, with_location, with_stencil, end_vertex, end_fixed}
use Rattle.calls.specs.Settings.{referenced, indexed}
use Rattle.machine.proofs.Lists.{none-some}
use Rattle.machine.specs.View.{Viewport, FaceOps, Stencil}
use Rattle.machine.specs.Machine.{onward, Vertices, Screen, Machine, with_vertices, with_fixed as with_gl_fixed, put_attribute, put_program, exec, play}
use Rattle.machine.specs.Found.{faces_of}
use Rattle.order.proofs.Own.{stage_is, group_bound}
use Rattle.book.specs.Book.{Book, with_bound, with_index, with_pipeline, with_screen, in_stage, next_stage, has_stencil, named_faces}
use Rattle.machine.proofs.Sweep.{play-append, folded, played}
use Rattle.order.proofs.Invariant.{First, Sane, SameFuncs, Stenciled, Tied}
use Rattle.order.proofs.Idle.{idle-append, idle-when, idle-begin, idle-push, idle-pop, idle-timestamp, idle-attachments, idle-all-clears, idle-resolves, idle-invalidate, slots-start}
use Rattle.order.proofs.UnitLaws.{units-piped, Regrouped, regrouped, units-grouped}
use Rattle.order.proofs.Group.{group_played, group-samplers, group-res, play-samplers, samplers-res, play-bind-group}
use Rattle.order.proofs.PipedFixed.{with_funcs, play-funcs}
use Rattle.order.proofs.Keeps.{begins, sane-on, not-early, late, nothing}

abbrev counted : Phase → ℕ → ℕ → ℕ → Progress
counted ph n k l = record { phase = ph; commands = n; bytes = k; queries = l }

-- ---- the beginning of a render pass, on the machine: one pass more, scissor and viewport
abbrev begun : RectI32 → Machine → Machine
begun r m =
    record {
      stage = onward m.stage;
      gl =
          record {
            vertices = m.gl.vertices;
            bindings = m.gl.bindings;
            screen = record { viewport = Some (record { rect = r; depth = full_depth }); scissor = Some r; blend = m.gl.screen.blend };
            fixed = m.gl.fixed;
            faces = m.gl.faces;
          };
      shots = m.shots;
    }

play-begin : (caps : PrivateCapabilities) (d : RenderPassDescriptor) (label : Label) (set : Lent) (at : ℕ) (m : Machine) → play m (begin_render_commands caps d label set at) ≡ begun (extent_rect d.extent) m
unfolding begin_render_commands
play-begin caps d label set at m =
    play-append m (begin_timestamp set d.timestamp_writes) (push_label label at ++ rest)
    ∙ ap (λ (n : Machine). play n (push_label label at ++ rest)) (idle-begin set d.timestamp_writes m)
    ∙ play-append m (push_label label at) rest
    ∙ ap (λ (n : Machine). play n rest) (idle-push label at m)
    ∙ play-append m₁ (cond (default_first (places_of d)) [] (attachments caps d)) (SetScissor r ∷ SetViewport r full_depth ∷ tail)
    ∙ ap (λ (n : Machine). play n (SetScissor r ∷ SetViewport r full_depth ∷ tail)) (idle-when (default_first (places_of d)) (attachments caps d) (idle-attachments caps d) m₁)
    ∙ idle-append (cond (to_external (places_of d)) [] (SetDrawColorBuffers d.color_attachment_count ∷ [])) (clear_colors 0 (places_of d) ++ clear_depth d.depth_stencil_attachment)
    (idle-when (to_external (places_of d)) (SetDrawColorBuffers d.color_attachment_count ∷ []) (λ x. refl)) (idle-all-clears d) (begun r m)
  where
    r : RectI32
    r = extent_rect d.extent

    tail : List Command
    tail = cond (to_external (places_of d)) [] (SetDrawColorBuffers d.color_attachment_count ∷ []) ++ (clear_colors 0 (places_of d) ++ clear_depth d.depth_stencil_attachment)

    rest : List Command
    rest = ResetFramebuffer (default_first (places_of d)) ∷ (cond (default_first (places_of d)) [] (attachments caps d) ++ (SetScissor r ∷ SetViewport r full_depth ∷ tail))

    m₁ : Machine
    m₁ = exec m (ResetFramebuffer (default_first (places_of d)))

-- ---- the end of one: only attributes are unset
abbrev pub unset_act : AttributeDesc → Vertices → Vertices
unset_act a v = put_attribute a.location None v

play-end : (p : PassState) (l : List AttributeDesc) (m : Machine) → play m (end_render_commands p (map unset_attribute l)) ≡ with_vertices (folded unset_act l m.gl.vertices) m
play-end p l m =
    play-append m (map (resolve_command p.render_size) resolves) (invalidate ++ (pop ++ (map unset_attribute l ++ stamp)))
    ∙ ap (λ (n : Machine). play n (invalidate ++ (pop ++ (map unset_attribute l ++ stamp)))) (idle-resolves p.render_size resolves m)
    ∙ play-append m invalidate (pop ++ (map unset_attribute l ++ stamp))
    ∙ ap (λ (n : Machine). play n (pop ++ (map unset_attribute l ++ stamp))) (idle-invalidate p.invalidate_attachments m)
    ∙ play-append m pop (map unset_attribute l ++ stamp)
    ∙ ap (λ (n : Machine). play n (map unset_attribute l ++ stamp)) (idle-pop p.has_pass_label m)
    ∙ play-append m (map unset_attribute l) stamp
    ∙ ap (λ (n : Machine). play n stamp) (played (λ (m : Machine). m.gl.vertices) with_vertices unset_attribute unset_act (λ m. refl) (λ m g h. refl) (λ m g. refl) (λ m a. refl) l m)
    ∙ idle-timestamp p.end_of_pass_timestamp (with_vertices (folded unset_act l m.gl.vertices) m)
  where
    resolves : List ResolveDesc
    resolves = take p.resolve_count p.resolves

    invalidate : List Command
    invalidate = invalidate_command p.invalidate_attachments

    pop : List Command
    pop = pop_label p.has_pass_label

    stamp : List Command
    stamp = timestamp p.end_of_pass_timestamp

-- where nothing is set outside a list, nothing is set once the list is unset
pub unset-all : (l : List AttributeDesc) (g : Vertices) (i : ℕ) → (among i (locations l) ≡ false → g.attribute i ≡ None) → (folded unset_act l g).attribute i ≡ None
unfolding among
unset-all [] g i h = h refl
unset-all (a ∷ l) g i h = unset-all l (unset_act a g) i (λ e. go (eqb i a.location) refl e)
  where
    go : (t : Bool) → eqb i a.location ≡ t → among i (locations l) ≡ false → cond t None (g.attribute i) ≡ None
    go true q e = refl
    go false q e = h (ap (λ (t : Bool). t || among i (locations l)) q ∙ e)

module _ (caps : PrivateCapabilities) (s : State) (m : Machine) (b : Book) (T : Tied caps s m b) where
  pub by-begin-render : (d : RenderPassDescriptor) (label : Label) (set : Lent) (at : ℕ) (pass : PassState) (n k l : ℕ)
      → Tied caps (with_progress (counted Render n k l) (with_pass pass s)) (play m (begin_render_commands caps d label set at))
      (in_stage (next_stage b.stage) (with_screen (Some (record { rect = extent_rect d.extent; depth = full_depth })) (Some (extent_rect d.extent)) b.blend b))
  by-begin-render d label set at pass n k l =
      subst
      (λ (x : Machine). Tied caps (with_progress (counted Render n k l) (with_pass pass s)) x
      (in_stage (next_stage b.stage) (with_screen (Some (record { rect = extent_rect d.extent; depth = full_depth })) (Some (extent_rect d.extent)) b.blend b)))
      (sym (play-begin caps d label set at m))
      (record {
        stage = ap onward T.stage ∙ sym (stage_is b.stage);
        sane = sane-on b.stage;
        log = T.log;
        screen = record { viewport = refl; scissor = refl; blend = T.screen.blend };
        res = T.res;
        args = record { format = T.args.format; offset = T.args.offset };
        units = T.units;
        lazy = T.lazy;
        steady = T.steady;
        spare = T.spare;
        early = λ e. absurd (not-early b.stage e);
        slots = λ f. let E = T.early (begins b.stage f) in slots-start caps s.vertex m.gl.vertices b.buffer E.vertex E.empty;
        piped = λ f p e. none-some (sym (T.early (begins b.stage f)).unset ∙ e);
      })

  pub by-end-render : s.progress.phase ≡ Render → (pass : PassState) (n k l : ℕ)
      → Tied caps (with_progress (counted Open n k l) (with_vertex (end_vertex s.vertex) (with_fixed (end_fixed s.fixed) (with_pass pass s)))) (play m (end_render_commands s.pass (map unset_attribute (attributes_of s.vertex)))) b
  by-end-render ph pass n k l =
      subst (λ (x : Machine). Tied caps (with_progress (counted Open n k l) (with_vertex (end_vertex s.vertex) (with_fixed (end_fixed s.fixed) (with_pass pass s)))) x b) (sym (play-end s.pass (attributes_of s.vertex) m))
      (record {
        stage = T.stage;
        sane = tt;
        log = T.log;
        screen = T.screen;
        res = T.res;
        args = T.args;
        units = T.units;
        lazy = record { bias = T.lazy.bias; alpha = T.lazy.alpha; clip = T.lazy.clip; targets = nothing m.gl.fixed.target; primitive = λ ne. absurd (ne refl) };
        steady = record { long = T.steady.long };
        spare = λ flat i e. unset-all (attributes_of s.vertex) m.gl.vertices i (T.spare flat i);
        early = λ e. absurd (late b.stage (subst (λ (p : Phase). Sane p b.stage) ph T.sane) e);
        slots = λ f. absurd f;
        piped = λ f. absurd f;
      })

  -- ---- bind groups
  pub by-bind-group : (xs : List Entry) (os : List ℕ) → some? entry_out_of_range xs ≡ false → (n k l : ℕ)
      → Tied caps (with_progress (counted s.progress.phase n k l) (with_bind (group_state xs s.bind) s)) (play m (bind_group_commands xs os s.bind)) (with_bound (group_bound xs os b.bound) b)
  by-bind-group xs os ok n k l =
      subst (λ (x : Machine). Tied caps (with_progress (counted s.progress.phase n k l) (with_bind (group_state xs s.bind) s)) x (with_bound (group_bound xs os b.bound) b))
      (sym (play-bind-group xs os (group_state xs s.bind) mask m))
      (record {
        stage = T.stage;
        sane = T.sane;
        log = T.log;
        screen = record { viewport = T.screen.viewport; scissor = T.screen.scissor; blend = T.screen.blend };
        res = samplers-res (group_state xs s.bind) (places mask) (group_played xs os m.gl.bindings) (group_bound xs os b.bound) b.index (group-res xs os m.gl.bindings b.bound b.index T.res);
        args = record { format = T.args.format; offset = T.args.offset };
        units = units-grouped xs os s.bind m.gl.bindings b.bound ok T.units (group_played xs os m.gl.bindings) (group-samplers xs os m.gl.bindings);
        lazy = T.lazy;
        steady = T.steady;
        spare = T.spare;
        early = T.early;
        slots = T.slots;
        piped = λ f p e.
            let P = T.piped f p e in
            record {
              drawn = P.drawn;
              set = P.set;
              stenciled = P.stenciled;
              numbered = record { number = λ u h. R.numbers u ∙ P.numbered.number u h; low = P.numbered.low };
              fetched = P.fetched;
            };
      })
    where
      mask : ℕ
      mask = dirty_units (group_state xs s.bind) (textures_named xs) (samplers_named xs)

      R : Regrouped xs os s.bind b.bound
      R = regrouped xs os s.bind b.bound T.units.samplers_long T.units.units_long ok

  -- ---- a compute pipeline
  pub by-compute-pipeline : s.progress.phase ≡ Compute → (p : PipelineInner) (n k l : ℕ)
      → Tied caps (with_progress (counted s.progress.phase n k l) (with_draw (with_location p.first_instance_location s.draw) (with_bind (inner_bind p s.bind) (with_immediates (inner_immediates p s.immediates) s))))
      (play m (inner_commands p s.bind)) b
  by-compute-pipeline ph p n k l =
      subst (λ (x : Machine). Tied caps (with_progress (counted s.progress.phase n k l) (with_draw (with_location p.first_instance_location s.draw) (with_bind (inner_bind p s.bind) (with_immediates (inner_immediates p s.immediates) s)))) x b)
      (sym (play-samplers (inner_bind p s.bind) (changed_units p s.bind) (with_gl_fixed (put_program p.program m.gl.fixed) m)))
      (record {
        stage = T.stage;
        sane = T.sane;
        log = T.log;
        screen = T.screen;
        res = samplers-res (inner_bind p s.bind) (places (changed_units p s.bind)) m.gl.bindings b.bound b.index T.res;
        args = record { format = T.args.format; offset = T.args.offset };
        units = units-piped p s.bind m.gl.bindings b.bound.samplers T.units;
        lazy = record { bias = T.lazy.bias; alpha = T.lazy.alpha; clip = T.lazy.clip; targets = T.lazy.targets; primitive = T.lazy.primitive };
        steady = record { long = T.steady.long };
        spare = T.spare;
        early = T.early;
        slots = λ f. absurd (subst (λ (q : Phase). First q b.stage) ph f);
        piped = λ f. absurd (subst (λ (q : Phase). First q b.stage) ph f);
      })

  -- ---- settings
  pub by-index-buffer : (raw offset : ℕ) (format : IndexFormat) (n k l : ℕ)
      → Tied caps (with_progress (counted s.progress.phase n k l) (with_draw (indexed offset format s.draw) s)) (exec m (SetIndexBuffer raw)) (with_index raw format offset b)
  by-index-buffer raw offset format n k l =
      record {
        stage = T.stage;
        sane = T.sane;
        log = T.log;
        screen = record { viewport = T.screen.viewport; scissor = T.screen.scissor; blend = T.screen.blend };
        res = record { buffers = T.res.buffers; textures = T.res.textures; images = T.res.images; index = refl };
        args = record { format = refl; offset = refl };
        units = T.units;
        lazy = T.lazy;
        steady = T.steady;
        spare = T.spare;
        early = T.early;
        slots = T.slots;
        piped = λ f p e.
            let P = T.piped f p e in
            record {
              drawn = record { topology = P.drawn.topology; location = P.drawn.location };
              set = P.set;
              stenciled = P.stenciled;
              numbered = P.numbered;
              fetched = P.fetched;
            };
      }

  -- viewport, scissor or blend constants: the machine's screen becomes the book's
  pub by-screen : (g : Screen) (v : Option Viewport) (r : Option RectI32) (c : ColorF32) → g.viewport ≡ v → g.scissor ≡ r → g.blend ≡ c → (n k l : ℕ)
      → Tied caps (with_progress (counted s.progress.phase n k l) s) (record { stage = m.stage; gl = record { vertices = m.gl.vertices; bindings = m.gl.bindings; screen = g; fixed = m.gl.fixed; faces = m.gl.faces }; shots = m.shots }) (with_screen v r c b)
  by-screen g v r c a x y n k l =
      record {
        stage = T.stage;
        sane = T.sane;
        log = T.log;
        screen = record { viewport = a; scissor = x; blend = y };
        res = T.res;
        args = record { format = T.args.format; offset = T.args.offset };
        units = T.units;
        lazy = T.lazy;
        steady = T.steady;
        spare = T.spare;
        early = T.early;
        slots = T.slots;
        piped = λ f p e.
            let P = T.piped f p e in
            record { drawn = P.drawn; set = P.set; stenciled = P.stenciled; numbered = P.numbered; fetched = P.fetched };
      }

  -- the reference of both sides
  pub by-reference : (v : ℕ) (n k l : ℕ)
      → Tied caps (with_progress (counted s.progress.phase n k l) (with_fixed (with_stencil (referenced v s.fixed.stencil) s.fixed) s)) (play m (stencil_funcs (referenced v s.fixed.stencil)))
      (with_pipeline b.pipeline (Some (record { front = v; back = v })) b)
  by-reference v n k l =
      subst (λ (x : Machine). Tied caps (with_progress (counted s.progress.phase n k l) (with_fixed (with_stencil (referenced v s.fixed.stencil) s.fixed) s)) x (with_pipeline b.pipeline (Some (record { front = v; back = v })) b))
      (sym (play-funcs (referenced v s.fixed.stencil) m))
      (record {
        stage = T.stage;
        sane = T.sane;
        log = T.log;
        screen = record { viewport = T.screen.viewport; scissor = T.screen.scissor; blend = T.screen.blend };
        res = T.res;
        args = record { format = T.args.format; offset = T.args.offset };
        units = T.units;
        lazy = record { bias = T.lazy.bias; alpha = T.lazy.alpha; clip = T.lazy.clip; targets = T.lazy.targets; primitive = T.lazy.primitive };
        steady = record { long = T.steady.long };
        spare = T.spare;
        early = T.early;
        slots = T.slots;
        piped = λ f p e.
            let P = T.piped f p e in
            record { drawn = P.drawn; set = P.set; stenciled = restenciled p P.stenciled; numbered = P.numbered; fetched = P.fetched };
      })
    where
      restenciled : (p : RenderPipeline) → Stenciled s.fixed.stencil m.gl.faces b.reference p
          → Stenciled (referenced v s.fixed.stencil) (with_funcs (referenced v s.fixed.stencil) m).gl.faces (Some (record { front = v; back = v })) p
      restenciled p S = record { funcs = funcs p.stencil S.funcs; faces = faces p.stencil S.funcs S.faces }
        where
          funcs : (o : Option StencilState) → SameFuncs s.fixed.stencil o → SameFuncs (referenced v s.fixed.stencil) o
          funcs None h = tt
          funcs (Some t) h = h

          faces : (o : Option StencilState) → SameFuncs s.fixed.stencil o → cond (has_stencil o) (faces_of m.gl.faces) None ≡ named_faces b.reference o
              → cond (has_stencil o) (faces_of (with_funcs (referenced v s.fixed.stencil) m).gl.faces) None ≡ named_faces (Some (record { front = v; back = v })) o
          faces None h e = refl
          faces (Some t) h e =
              let ff = h.0.0 in
              let fr = h.0.1 in
              let bf = h.1.0 in
              let br = h.1.1 in
              let fo = ap (ops_front m.gl.faces.front_ops) e in
              let bo = ap (ops_back m.gl.faces.back_ops) e in
              λ j. Some (record { front = Some (record { function = ff j; reference = v; read = fr j }); back = Some (record { function = bf j; reference = v; read = br j }); front_ops = fo j; back_ops = bo j })
            where
              ops_front : Option FaceOps → Option Stencil → Option FaceOps
              ops_front d None = d
              ops_front d (Some x) = x.front_ops

              ops_back : Option FaceOps → Option Stencil → Option FaceOps
              ops_back d None = d
              ops_back d (Some x) = x.back_ops
