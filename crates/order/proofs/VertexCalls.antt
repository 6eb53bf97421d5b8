-- The calls on vertex slots: vertex buffers, render pipelines, draws. Assumes nothing.
use Prim.Native.Nat.{ℕ, ◌+◌, ◌<◌}
use mathlib.Core.Path.{◌≡◌, refl, sym, ap, ◌∙◌, subst}
use mathlib.Core.Bool.{Bool, true, false, cond, ◌||◌}
use mathlib.Core.List.{List, [], ◌∷◌, ◌++◌, map}
use Rattle.std.specs.Prelude.{Option, None, Some}
use native.Mathlib.Omega.{arith}
use lib.Dec.{eqb}
use lib.ListN.{length, length-set}
use borrow.Author.Tests.{eqb-true}
use Rattle.tables.specs.Tabulate.{long as long-table, upd}
use Rattle.mask.specs.Mask.{test_bit, places}
use Rattle.mask.specs.Laws.{test-set}
use Rattle.names.specs.Maps.{primitive_topology}
use Rattle.records.specs.Start.{start_slot}
use Rattle.records.specs.declared.command.AttributeDesc.{AttributeDesc}
use Rattle.records.specs.declared.command.BufferBinding.{BufferBinding}
use Rattle.records.specs.declared.pipeline.PrivateCapabilities.{PrivateCapabilities}
use Rattle.records.specs.declared.pipeline.RenderPipeline.{RenderPipeline}
use Rattle.records.specs.declared.state.Phase.{Phase}
use Rattle.records.specs.declared.state.Phase.TheVariants.{Render}
use Rattle.records.specs.declared.state.Progress.{Progress}
use Rattle.records.specs.declared.state.State.{State}
use Rattle.records.specs.declared.state.VertexSlot.{VertexSlot}
use Rattle.records.specs.declared.state.VertexState.{VertexState}
use Rattle.slots.specs.Vertex.{step_of, slot_at, desc_at, binding_at, instance_at, attributes_of}
use Rattle.slots.specs.Prepare.{instance_offset}
use Rattle.bindings.specs.Units.{sampler_commands}
use Rattle.pipeline.specs.Inner.{inner_bind, inner_commands, inner_immediates, inner_out_of_range, changed_units}
use Rattle.pipeline.specs.Vertex.{pipe_desc, attributes_in, has, described_slot, pipeline_vertex, set_attribute, unset_attribute, vertex_commands, vertex_out_of_range, vertex_absent, vertex_twice}
use Rattle.pipeline.specs.Fixed.{fixed_commands, pipeline_fixed}
use Rattle.calls.specs.Parts.{with_progress, with_vertex, with_draw, with_fixed, with_bind, with_immediates, with_location, with_topology}
use Rattle.calls.specs.Settings.{bound_slot}
use Rattle.machine.specs.Each.{Each}
use Rattle.machine.proofs.Lists.{or_left, or_right, set_at}
use Rattle.machine.specs.View.{before}
use Rattle.machine.specs.Machine.{Vertices, Machine, with_vertices, with_bindings, with_fixed as with_gl_fixed, with_faces, put_attribute, put_program, play}
use Rattle.book.specs.Book.{Book, with_buffer, with_pipeline, reference_of}
use Rattle.machine.proofs.Sweep.{play-append, folded, played, unfolded}
use Rattle.order.proofs.Invariant.{First, Sane, attribute_buffer, sent_attribute, Lazy, Slots, Spare, Fetched, Piped, Tied}
use Rattle.order.proofs.PipedVertex.{slots-piped, fetched-piped}
use Rattle.order.proofs.UnitLaws.{sampler_act, number-after, units-piped}
use Rattle.order.proofs.PipedFixed.{fixed_after, faces_after, play-fixed, set-piped, lazy-piped, stencil-piped}
use Rattle.order.proofs.Group.{play-samplers, samplers-res}
use Rattle.order.proofs.Keeps.{late}
use Rattle.order.proofs.Calls.{unset_act, unset-all}

abbrev counted : Phase → ℕ → ℕ → ℕ → Progress
counted ph n k l = record { phase = ph; commands = n; bytes = k; queries = l }

-- ---- one slot is bound
module _ (v : VertexState) (i raw offset : ℕ) (low : i < 16) (long : length v.buffers ≡ 16) where
  abbrev v' : VertexState
  v' = bound_slot i raw offset v

  abbrev slot' : VertexSlot
  slot' = record { stride = (slot_at v i).stride; raw = raw; offset = offset }

  in32 : (j : ℕ) → j < 16 → j < 32
  in32 j l = omega arith

  slot_is : (j : ℕ) → slot_at v' j ≡ cond (eqb j i) slot' (slot_at v j)
  slot_is j = set_at v.buffers i j slot' start_slot (subst (λ (n : ℕ). i < n) (sym long) low)

  stride-is : (j : ℕ) → (slot_at v' j).stride ≡ (slot_at v j).stride
  stride-is j = ap (λ (x : VertexSlot). x.stride) (slot_is j) ∙ go (eqb j i) refl
    where
      go : (t : Bool) → eqb j i ≡ t → (cond t slot' (slot_at v j)).stride ≡ (slot_at v j).stride
      go true e = ap (λ (k : ℕ). (slot_at v k).stride) (sym (eqb-true j i e))
      go false e = refl

  desc-is : (j : ℕ) → desc_at v' j ≡ desc_at v j
  desc-is j = let e = stride-is j in λ k. cond (test_bit v.described j) (Some (record { step = step_of (test_bit v.by_instance j); stride = e k })) None

  binding-is : (j : ℕ) → binding_at v' j ≡ cond (eqb j i) (Some (record { raw = raw; offset = offset })) (binding_at v j)
  binding-is j =
      let e = slot_is j in
      let t = test-set v.bound j i (in32 i low) in
      (λ k. cond (t k) (Some (record { raw = (e k).raw; offset = (e k).offset })) None) ∙ go (eqb j i) (test_bit v.bound j)
    where
      go : (t z : Bool) → ◌≡◌ {A = Option BufferBinding} (cond (z || t) (Some (record { raw = (cond t slot' (slot_at v j)).raw; offset = (cond t slot' (slot_at v j)).offset })) None)
          (cond t (Some (record { raw = raw; offset = offset })) (cond z (Some (record { raw = (slot_at v j).raw; offset = (slot_at v j).offset })) None))
      go true true = refl
      go true false = refl
      go false true = refl
      go false false = refl

  -- a slot that is not dirty is another one, and as it was
  other : (j : ℕ) → test_bit v'.dirty_vbuf_mask j ≡ false → (test_bit v.dirty_vbuf_mask j ≡ false) × (eqb j i ≡ false)
  other j e = let f = sym (test-set v.dirty_vbuf_mask j i (in32 i low)) ∙ e in (or_left (test_bit v.dirty_vbuf_mask j) (eqb j i) f, or_right (test_bit v.dirty_vbuf_mask j) (eqb j i) f)

  slot_same : (j : ℕ) → eqb j i ≡ false → slot_at v' j ≡ slot_at v j
  slot_same j e = slot_is j ∙ ap (λ (t : Bool). cond t slot' (slot_at v j)) e

  bound-same : (j : ℕ) → eqb j i ≡ false → test_bit v'.bound j ≡ test_bit v.bound j
  bound-same j e = test-set v.bound j i (in32 i low) ∙ ap (λ (t : Bool). test_bit v.bound j || t) e ∙ or-false (test_bit v.bound j)
    where
      or-false : (t : Bool) → t || false ≡ t
      or-false true = refl
      or-false false = refl

  pub slots-bound : (caps : PrivateCapabilities) (g : Vertices) (buffer : ℕ → Option BufferBinding) → Slots caps v g buffer → Slots caps v' g (upd buffer i (Some (record { raw = raw; offset = offset })))
  slots-bound caps g buffer S =
      record {
        bound = λ j l h. binding-is j ∙ now (eqb j i) (buffer j) (binding_at v j) (S.bound j l) h;
        clean = λ layout j l h e d b.
            let o = other j e in
            let x = slot_same j o.1 in
            S.clean layout j l (subst (λ (t : Bool). has (cond t (Some (record { raw = raw; offset = offset })) (buffer j)) ≡ true) o.1 h) o.0 d (sym (bound-same j o.1) ∙ b)
            ∙ sym (λ k. Some (record { binding = record { raw = (x k).raw; offset = (x k).offset + instance_offset (step_of (test_bit v.by_instance j)) (instance_at v j) (x k).stride }; desc = record { step = step_of (test_bit v.by_instance j); stride = (x k).stride } }));
      }
    where
      now : (t : Bool) (o x : Option BufferBinding) → (has o ≡ true → x ≡ o) → has (cond t (Some (record { raw = raw; offset = offset })) o) ≡ true
          → cond t (Some (record { raw = raw; offset = offset })) x ≡ cond t (Some (record { raw = raw; offset = offset })) o
      now true o x q h = refl
      now false o x q h = q h

  pub fetched-bound : (caps : PrivateCapabilities) (g : Vertices) (p : RenderPipeline) → Fetched caps v g p → Fetched caps v' g p
  fetched-bound caps g p F =
      record {
        ranged = F.ranged;
        described = F.described;
        apart = F.apart;
        kept = λ j l h. desc-is j ∙ F.kept j l h;
        instances = F.instances;
        sent = F.sent;
        held = F.held;
        clean = λ flat. go (attributes_in p) (F.clean flat);
      }
    where
      go : (l : List AttributeDesc)
          → Each (λ (a : AttributeDesc). test_bit v.dirty_vbuf_mask a.buffer_index ≡ false → test_bit v.bound a.buffer_index ≡ true → g.attribute a.location ≡ Some (attribute_buffer v (instance_at v a.buffer_index) a)) l
          → Each (λ (a : AttributeDesc). test_bit v'.dirty_vbuf_mask a.buffer_index ≡ false → test_bit v'.bound a.buffer_index ≡ true → g.attribute a.location ≡ Some (attribute_buffer v' (instance_at v a.buffer_index) a)) l
      go [] h = tt
      go (a ∷ l) h = (
        (λ e b.
            let o = other a.buffer_index e in
            let x = slot_same a.buffer_index o.1 in
            h.0 o.0 (sym (bound-same a.buffer_index o.1) ∙ b)
            ∙ sym
            (λ k.
            Some
            (record {
              buffer = Some (x k).raw;
              desc = record { step = step_of (test_bit v.by_instance a.buffer_index); stride = (x k).stride };
              attribute =
                  record {
                    location = a.location;
                    offset = a.offset + (x k).offset + instance_offset (step_of (test_bit v.by_instance a.buffer_index)) (instance_at v a.buffer_index) (x k).stride;
                    buffer_index = a.buffer_index;
                    format_desc = a.format_desc;
                  };
            }))),
        go l h.1,
      )

-- ---- the commands of a pipeline's vertex part, on the machine
set_act : RenderPipeline → AttributeDesc → Vertices → Vertices
set_act p a x = put_attribute a.location (Some (sent_attribute p a)) x

vertex_played : PrivateCapabilities → RenderPipeline → VertexState → Vertices → Vertices
vertex_played caps p v g = cond caps.vertex_buffer_layout (folded (set_act p) (attributes_in p) g) (folded unset_act (attributes_of v) g)

play-vertex : (caps : PrivateCapabilities) (p : RenderPipeline) (v : VertexState) (m : Machine) → play m (vertex_commands caps p v) ≡ with_vertices (vertex_played caps p v m.gl.vertices) m
unfolding vertex_played set_act
play-vertex caps p v m = go caps.vertex_buffer_layout
  where
    go : (t : Bool) → play m (cond t (map (set_attribute p) (attributes_in p)) (map unset_attribute (attributes_of v))) ≡ with_vertices (cond t (folded (set_act p) (attributes_in p) m.gl.vertices) (folded unset_act (attributes_of v) m.gl.vertices)) m
    go true = played (λ (m : Machine). m.gl.vertices) with_vertices (set_attribute p) (set_act p) (λ m. refl) (λ m g h. refl) (λ m g. refl) (λ m a. refl) (attributes_in p) m
    go false = played (λ (m : Machine). m.gl.vertices) with_vertices unset_attribute unset_act (λ m. refl) (λ m g h. refl) (λ m g. refl) (λ m a. refl) (attributes_of v) m

-- the slots' buffers are not touched
vertex-buffers : (caps : PrivateCapabilities) (p : RenderPipeline) (v : VertexState) (g : Vertices) → (vertex_played caps p v g).buffer ≡ g.buffer
unfolding vertex_played set_act
vertex-buffers caps p v g = go caps.vertex_buffer_layout
  where
    go : (t : Bool) → (cond t (folded (set_act p) (attributes_in p) g) (folded unset_act (attributes_of v) g)).buffer ≡ g.buffer
    go true = unfolded (set_act p) (λ (x : Vertices). x.buffer) (λ a x. refl) (attributes_in p) g
    go false = unfolded unset_act (λ (x : Vertices). x.buffer) (λ a x. refl) (attributes_of v) g

vertex-sent : (caps : PrivateCapabilities) (p : RenderPipeline) (v : VertexState) (g : Vertices) → caps.vertex_buffer_layout ≡ true → vertex_played caps p v g ≡ folded (λ (a : AttributeDesc) (x : Vertices). put_attribute a.location (Some (sent_attribute p a)) x) (attributes_in p) g
unfolding vertex_played set_act
vertex-sent caps p v g e = ap (λ (t : Bool). cond t (folded (set_act p) (attributes_in p) g) (folded unset_act (attributes_of v) g)) e

-- without layouts the old attributes are unset, and no other was set
spare-piped : (caps : PrivateCapabilities) (p : RenderPipeline) (v : VertexState) (g : Vertices) → Spare caps v g → Spare caps (pipeline_vertex caps p v) (vertex_played caps p v g)
unfolding vertex_played
spare-piped caps p v g h flat i e =
    ap (λ (t : Bool). (cond t (folded (set_act p) (attributes_in p) g) (folded unset_act (attributes_of v) g)).attribute i) flat
    ∙ unset-all (attributes_of v) g i (h flat i)

-- all runs of a render pipeline call
piped-machine : PrivateCapabilities → RenderPipeline → State → Machine → Machine
piped-machine caps p s m =
    with_faces (faces_after p m.gl.faces)
    (with_gl_fixed (fixed_after p s.fixed (put_program p.inner.program m.gl.fixed))
    (with_bindings (folded (sampler_act (inner_bind p.inner s.bind)) (places (changed_units p.inner s.bind)) m.gl.bindings) (with_vertices (vertex_played caps p s.vertex m.gl.vertices) m)))

play-pipeline : (caps : PrivateCapabilities) (p : RenderPipeline) (s : State) (m : Machine)
    → play m (vertex_commands caps p s.vertex ++ (inner_commands p.inner s.bind ++ fixed_commands p s.fixed)) ≡ piped-machine caps p s m
unfolding piped-machine
play-pipeline caps p s m =
    play-append m (vertex_commands caps p s.vertex) (inner_commands p.inner s.bind ++ fixed_commands p s.fixed)
    ∙ ap (λ (n : Machine). play n (inner_commands p.inner s.bind ++ fixed_commands p s.fixed)) (play-vertex caps p s.vertex m)
    ∙ play-append m₁ (sampler_commands (inner_bind p.inner s.bind) (changed_units p.inner s.bind)) (fixed_commands p s.fixed)
    ∙ ap (λ (n : Machine). play n (fixed_commands p s.fixed)) (play-samplers (inner_bind p.inner s.bind) (changed_units p.inner s.bind) m₁)
    ∙ play-fixed p s.fixed (with_bindings (folded (sampler_act (inner_bind p.inner s.bind)) (places (changed_units p.inner s.bind)) m.gl.bindings) m₁)
  where
    m₁ : Machine
    m₁ = with_gl_fixed (put_program p.inner.program m.gl.fixed) (with_vertices (vertex_played caps p s.vertex m.gl.vertices) m)

module _ (caps : PrivateCapabilities) (s : State) (m : Machine) (b : Book) (T : Tied caps s m b) (ph : s.progress.phase ≡ Render) where
  not-before : b.stage ≡ before → ⊥
  not-before e = late b.stage (subst (λ (p : Phase). Sane p b.stage) ph T.sane) e

  pub by-vertex-buffer : (i raw offset : ℕ) → i < 16 → (n k l : ℕ)
      → Tied caps (with_progress (counted s.progress.phase n k l) (with_vertex (bound_slot i raw offset s.vertex) s)) m (with_buffer i (record { raw = raw; offset = offset }) b)
  by-vertex-buffer i raw offset low n k l =
      record {
        stage = T.stage;
        sane = T.sane;
        log = T.log;
        screen = record { viewport = T.screen.viewport; scissor = T.screen.scissor; blend = T.screen.blend };
        res = T.res;
        args = record { format = T.args.format; offset = T.args.offset };
        units = T.units;
        lazy = T.lazy;
        steady = record { long = length-set s.vertex.buffers i (record { stride = (slot_at s.vertex i).stride; raw = raw; offset = offset }) ∙ T.steady.long };
        spare = T.spare;
        early = λ e. absurd (not-before e);
        slots = λ f. slots-bound s.vertex i raw offset low T.steady.long caps m.gl.vertices b.buffer (T.slots f);
        piped = λ f p e.
            let P = T.piped f p e in
            record {
              drawn = P.drawn;
              set = P.set;
              stenciled = P.stenciled;
              numbered = P.numbered;
              fetched = fetched-bound s.vertex i raw offset low T.steady.long caps m.gl.vertices p P.fetched;
            };
      }

  pub by-render-pipeline : (p : RenderPipeline) → vertex_out_of_range p ≡ false → inner_out_of_range p.inner ≡ false → vertex_absent p ≡ false → vertex_twice p ≡ false → (n k l : ℕ)
      → Tied caps
      (with_progress (counted s.progress.phase n k l)
      (with_vertex (pipeline_vertex caps p s.vertex)
      (with_draw (with_topology (primitive_topology p.topology) (with_location p.inner.first_instance_location s.draw))
      (with_fixed (pipeline_fixed p s.fixed) (with_bind (inner_bind p.inner s.bind) (with_immediates (inner_immediates p.inner s.immediates) s))))))
      (play m (vertex_commands caps p s.vertex ++ (inner_commands p.inner s.bind ++ fixed_commands p s.fixed))) (with_pipeline (Some p) (reference_of p.stencil) b)
  unfolding piped-machine
  by-render-pipeline p range inner absent twice n k l =
      subst
      (λ (x : Machine). Tied caps
      (with_progress (counted s.progress.phase n k l)
      (with_vertex (pipeline_vertex caps p s.vertex)
      (with_draw (with_topology (primitive_topology p.topology) (with_location p.inner.first_instance_location s.draw))
      (with_fixed (pipeline_fixed p s.fixed) (with_bind (inner_bind p.inner s.bind) (with_immediates (inner_immediates p.inner s.immediates) s))))))
      x (with_pipeline (Some p) (reference_of p.stencil) b))
      (sym (play-pipeline caps p s m))
      (record {
        stage = T.stage;
        sane = T.sane;
        log = T.log;
        screen = record { viewport = T.screen.viewport; scissor = T.screen.scissor; blend = T.screen.blend };
        res = samplers-res (inner_bind p.inner s.bind) (places (changed_units p.inner s.bind)) m.gl.bindings b.bound b.index T.res;
        args = record { format = T.args.format; offset = T.args.offset };
        units = units-piped p.inner s.bind m.gl.bindings b.bound.samplers T.units;
        lazy = lazy-piped p s.fixed (put_program p.inner.program m.gl.fixed) L;
        steady = record { long = long-table 16 (λ i. described_slot (pipe_desc p i) (slot_at s.vertex i)) };
        spare = spare-piped caps p s.vertex m.gl.vertices T.spare;
        early = λ e. absurd (not-before e);
        slots = λ f. slots-piped caps p s.vertex m.gl.vertices (vertex_played caps p s.vertex m.gl.vertices) b.buffer (T.slots f) (λ layout. vertex-buffers caps p s.vertex m.gl.vertices);
        piped = λ f q e. subst (λ (x : RenderPipeline). Piped caps s' (piped-machine caps p s m).gl (reference_of p.stencil) x) (some_same p q e) (new f);
      })
    where
      s' : State
      s' =
          with_progress (counted s.progress.phase n k l)
          (with_vertex (pipeline_vertex caps p s.vertex)
          (with_draw (with_topology (primitive_topology p.topology) (with_location p.inner.first_instance_location s.draw))
          (with_fixed (pipeline_fixed p s.fixed) (with_bind (inner_bind p.inner s.bind) (with_immediates (inner_immediates p.inner s.immediates) s)))))

      some_same : (x y : RenderPipeline) → Some x ≡ Some y → x ≡ y
      some_same x y e = ap (from x) e
        where
          from : RenderPipeline → Option RenderPipeline → RenderPipeline
          from d None = d
          from d (Some z) = z

      L : Lazy s.fixed (put_program p.inner.program m.gl.fixed)
      L = record { bias = T.lazy.bias; alpha = T.lazy.alpha; clip = T.lazy.clip; targets = T.lazy.targets; primitive = T.lazy.primitive }

      new : First s.progress.phase b.stage → Piped caps s' (piped-machine caps p s m).gl (reference_of p.stencil) p
      new f =
          record {
            drawn = record { topology = refl; location = refl };
            set = set-piped p s.fixed (put_program p.inner.program m.gl.fixed) L refl;
            stenciled = stencil-piped p s.fixed m.gl.faces;
            numbered = record { number = λ u h. number-after p.inner s.bind u h; low = inner };
            fetched = fetched-piped caps p s.vertex range absent twice m.gl.vertices (vertex_played caps p s.vertex m.gl.vertices) (vertex-sent caps p s.vertex m.gl.vertices);
          }
