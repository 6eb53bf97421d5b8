-- What a render pipeline call makes of the vertex slots, on both sides. Assumes nothing.
use Prim.Native.Nat.{ℕ, ◌+◌, ◌<◌}
use mathlib.Core.Path.{◌≡◌, refl, sym, ap, ◌∙◌, subst}
use mathlib.Core.Bool.{Bool, true, false, cond, ◌||◌}
use mathlib.Core.List.{List, [], ◌∷◌}
use Rattle.std.specs.Prelude.{Option, None, Some}
use lib.Dec.{eqb}
use lib.ListN.{take}
use borrow.Author.Tests.{eqb-true}
use Rattle.tables.specs.Tabulate.{at_place, upd_same, upd_other}
use Rattle.mask.specs.Mask.{test_bit}
use Rattle.mask.specs.Laws.{test-or}
use Rattle.mask.specs.By.{mask_by, by-at}
use Rattle.records.specs.Start.{start_slot}
use Rattle.records.specs.Check.{among}
use Rattle.records.specs.declared.command.AttributeDesc.{AttributeDesc}
use Rattle.records.specs.declared.command.BufferBinding.{BufferBinding}
use Rattle.records.specs.declared.command.VertexStepMode.{VertexStepMode}
use Rattle.records.specs.declared.command.VertexStepMode.TheVariants.{Vertex, Instance}
use Rattle.records.specs.declared.command.VertexBufferDesc.{VertexBufferDesc}
use Rattle.records.specs.declared.pipeline.PrivateCapabilities.{PrivateCapabilities}
use Rattle.records.specs.declared.pipeline.RenderPipeline.{RenderPipeline}
use Rattle.records.specs.declared.state.VertexSlot.{VertexSlot}
use Rattle.records.specs.declared.state.VertexState.{VertexState}
use Rattle.slots.specs.Vertex.{step_of, is_instance, slot_at, desc_at, binding_at, instance_at}
use Rattle.slots.specs.Prepare.{instance_offset, slot_desc, slots_of}
use Rattle.pipeline.specs.Vertex.{pipe_desc, attributes_in, has, same_step, same_desc, changes, steps_by_instance, step_or, described_slot, changed_slots, dirty_before, pipeline_vertex, vertex_out_of_range, vertex_absent, vertex_twice}
use Rattle.machine.specs.Each.{Each}
use Rattle.machine.proofs.Lists.{false-true, true-false, or_left, or_right, and_left, and_right, not-false}
use Rattle.machine.specs.Machine.{VertexBuffer, Vertices, put_attribute}
use Rattle.machine.proofs.Sweep.{folded, all_set}
use Rattle.order.proofs.Invariant.{slot_buffer, attribute_buffer, sent_attribute, Slots, Fetched}
use Rattle.order.proofs.Prepared.{desc-some, members, Ranged, ranged-each}

-- the pipeline's description where it has one, and else the state's
abbrev pub or_old : Option VertexBufferDesc → Option VertexBufferDesc → Option VertexBufferDesc
or_old None old = old
or_old (Some d) old = Some d

step_back : (s : VertexStepMode) → step_of (is_instance s) ≡ s
step_back Vertex = refl
step_back Instance = refl

same_step_lem : (a b : VertexStepMode) → same_step a b ≡ true → a ≡ b
same_step_lem Vertex Vertex e = refl
same_step_lem Vertex Instance e = false-true e
same_step_lem Instance Vertex e = false-true e
same_step_lem Instance Instance e = refl

same-desc : (a b : VertexBufferDesc) → same_desc a b ≡ true → a ≡ b
same-desc a b e =
    let p = same_step_lem a.step b.step (and_left (same_step a.step b.step) (eqb a.stride b.stride) e) in
    let q = eqb-true a.stride b.stride (and_right (same_step a.step b.step) (eqb a.stride b.stride) e) in
    λ j. record { step = p j; stride = q j }

module _ (caps : PrivateCapabilities) (p : RenderPipeline) (v : VertexState) where
  abbrev v' : VertexState
  v' = pipeline_vertex caps p v

  described-bit : (i : ℕ) → i < 16 → test_bit v'.described i ≡ (test_bit v.described i || has (pipe_desc p i))
  described-bit i l = test-or v.described (mask_by 16 (λ i. has (pipe_desc p i))) i ∙ ap (λ (t : Bool). test_bit v.described i || t) (by-at 16 (λ i. has (pipe_desc p i)) i l)

  step-bit : (i : ℕ) → i < 16 → test_bit v'.by_instance i ≡ step_or (test_bit v.by_instance i) (pipe_desc p i)
  step-bit i l = by-at 16 (λ i. step_or (test_bit v.by_instance i) (pipe_desc p i)) i l

  slot_is : (i : ℕ) → i < 16 → slot_at v' i ≡ described_slot (pipe_desc p i) (slot_at v i)
  slot_is i l = at_place 16 (λ i. described_slot (pipe_desc p i) (slot_at v i)) i start_slot l

  pub desc-after : (i : ℕ) → i < 16 → desc_at v' i ≡ or_old (pipe_desc p i) (desc_at v i)
  desc-after i l =
      let a = described-bit i l in
      let b = step-bit i l in
      let c = slot_is i l in
      (λ j. cond (a j) (Some (record { step = step_of (b j); stride = (c j).stride })) None) ∙ go (pipe_desc p i) (test_bit v.described i) (test_bit v.by_instance i) (slot_at v i)
    where
      go : (o : Option VertexBufferDesc) (t b : Bool) (s : VertexSlot)
          → cond (t || has o) (Some (record { step = step_of (step_or b o); stride = (described_slot o s).stride })) None ≡ or_old o (cond t (Some (record { step = step_of b; stride = s.stride })) None)
      go None true b s = refl
      go None false b s = refl
      go (Some d) true b s = λ j. Some (record { step = step_back d.step j; stride = d.stride })
      go (Some d) false b s = λ j. Some (record { step = step_back d.step j; stride = d.stride })

  raw-is : (i : ℕ) → i < 16 → (slot_at v' i).raw ≡ (slot_at v i).raw
  raw-is i l = ap (λ (s : VertexSlot). s.raw) (slot_is i l) ∙ go (pipe_desc p i)
    where
      go : (o : Option VertexBufferDesc) → (described_slot o (slot_at v i)).raw ≡ (slot_at v i).raw
      go None = refl
      go (Some d) = refl

  offset-is : (i : ℕ) → i < 16 → (slot_at v' i).offset ≡ (slot_at v i).offset
  offset-is i l = ap (λ (s : VertexSlot). s.offset) (slot_is i l) ∙ go (pipe_desc p i)
    where
      go : (o : Option VertexBufferDesc) → (described_slot o (slot_at v i)).offset ≡ (slot_at v i).offset
      go None = refl
      go (Some d) = refl

  binding-after : (i : ℕ) → i < 16 → binding_at v' i ≡ binding_at v i
  binding-after i l = let r = raw-is i l in let o = offset-is i l in λ j. cond (test_bit v.bound i) (Some (record { raw = r j; offset = o j })) None

  kept-after : (i : ℕ) → i < 16 → has (pipe_desc p i) ≡ true → desc_at v' i ≡ pipe_desc p i
  kept-after i l h = desc-after i l ∙ go (pipe_desc p i) h
    where
      go : (o : Option VertexBufferDesc) → has o ≡ true → or_old o (desc_at v i) ≡ o
      go None e = false-true e
      go (Some d) e = refl

  -- a slot that stays clean has the description that it had
  unchanged : (i : ℕ) → i < 16 → changes (pipe_desc p i) (desc_at v i) ≡ false → test_bit v'.described i ≡ true → (test_bit v.described i ≡ true) × (slot_desc v' i ≡ slot_desc v i)
  unchanged i l c d =
      let e = go (pipe_desc p i) (desc_at v i) c in
      let old = desc-after i l ∙ e in
      let new : desc_at v i ≡ Some (slot_desc v' i) = sym old ∙ ap (λ (t : Bool). cond t (Some (slot_desc v' i)) None) d in
      let r = desc-some v i (Some (slot_desc v' i)) new refl in
      (r.0, some_same (slot_desc v' i) (slot_desc v i) r.1)
    where
      some_same : (x y : VertexBufferDesc) → Some x ≡ Some y → x ≡ y
      some_same x y e = cc

      go : (o old : Option VertexBufferDesc) → changes o old ≡ false → or_old o old ≡ old
      go None old e = refl
      go (Some x) None e = true-false e
      go (Some x) (Some y) e = ap Some (same-desc x y (not-false (same_desc x y) e))

  dirty-was : (i : ℕ) → i < 16 → test_bit v'.dirty_vbuf_mask i ≡ false → (test_bit (dirty_before caps p v) i ≡ false) × (changes (pipe_desc p i) (desc_at v i) ≡ false)
  dirty-was i l e =
      let f = sym (test-or (dirty_before caps p v) (changed_slots p v) i) ∙ e in (
        or_left (test_bit (dirty_before caps p v) i) (test_bit (changed_slots p v) i) f,
        sym (by-at 16 (λ i. changes (pipe_desc p i) (desc_at v i)) i l) ∙ or_right (test_bit (dirty_before caps p v) i) (test_bit (changed_slots p v) i) f,
      )

  buffer-same : (w i : ℕ) → i < 16 → slot_desc v' i ≡ slot_desc v i → slot_buffer v' w i ≡ slot_buffer v w i
  buffer-same w i l e =
      let r = raw-is i l in
      let o = offset-is i l in
      λ j. record { binding = record { raw = r j; offset = o j + instance_offset (e j).step w (e j).stride }; desc = e j }

  -- ---- the slots
  pub slots-piped : (g g' : Vertices) (buffer : ℕ → Option BufferBinding) → Slots caps v g buffer → (caps.vertex_buffer_layout ≡ true → g'.buffer ≡ g.buffer) → Slots caps v' g' buffer
  slots-piped g g' buffer S kept =
      record {
        bound = λ i l h. binding-after i l ∙ S.bound i l h;
        clean = clean;
      }
    where
      clean : caps.vertex_buffer_layout ≡ true → (i : ℕ) → i < 16 → has (buffer i) ≡ true → test_bit v'.dirty_vbuf_mask i ≡ false → test_bit v'.described i ≡ true → test_bit v'.bound i ≡ true
          → g'.buffer i ≡ Some (slot_buffer v' (instance_at v' i) i)
      clean layout i l h e d b =
          let was = dirty-was i l e in
          let u = unchanged i l was.1 d in
          ap (λ (f : ℕ → Option VertexBuffer). f i) (kept layout)
          ∙ S.clean layout i l h (subst (λ (t : Bool). test_bit (cond t v.dirty_vbuf_mask (mask_by 16 (λ i. among i (slots_of (attributes_in p))))) i ≡ false) layout was.0) u.0 b
          ∙ ap Some (sym (buffer-same (instance_at v i) i l u.1))

  -- ---- the pipeline's attributes
  instances-after : (i : ℕ) → i < 16 → test_bit v'.instance_vbuf_mask i ≡ steps_by_instance (pipe_desc p i)
  instances-after i l = by-at 16 (λ i. steps_by_instance (pipe_desc p i)) i l

  -- without layouts each attribute's slot is dirty
  all-dirty : caps.vertex_buffer_layout ≡ false → Each (λ (a : AttributeDesc). a.buffer_index < 16) (attributes_in p)
      → Each (λ (a : AttributeDesc). test_bit v'.dirty_vbuf_mask a.buffer_index ≡ true) (attributes_in p)
  all-dirty flat low = go (attributes_in p) low (members (attributes_in p))
    where
      dirty-at : (i : ℕ) → i < 16 → among i (slots_of (attributes_in p)) ≡ true → test_bit v'.dirty_vbuf_mask i ≡ true
      dirty-at i l e =
          test-or (dirty_before caps p v) (changed_slots p v) i
          ∙ ap (λ (t : Bool). t || test_bit (changed_slots p v) i)
          (ap (λ (t : Bool). test_bit (cond t v.dirty_vbuf_mask (mask_by 16 (λ i. among i (slots_of (attributes_in p))))) i) flat ∙ by-at 16 (λ i. among i (slots_of (attributes_in p))) i l ∙ e)

      go : (l : List AttributeDesc) → Each (λ (a : AttributeDesc). a.buffer_index < 16) l → Each (λ (a : AttributeDesc). among a.buffer_index (slots_of (attributes_in p)) ≡ true) l
          → Each (λ (a : AttributeDesc). test_bit v'.dirty_vbuf_mask a.buffer_index ≡ true) l
      go [] h e = tt
      go (a ∷ l) h e = (dirty-at a.buffer_index h.0 e.0, go l h.1 e.1)

  abbrev set_act : AttributeDesc → Vertices → Vertices
  set_act a x = put_attribute a.location (Some (sent_attribute p a)) x

  -- with layouts each attribute is sent
  sent-after : vertex_out_of_range p ≡ false → vertex_twice p ≡ false → (g : Vertices) → Each (λ (a : AttributeDesc). (folded set_act (attributes_in p) g).attribute a.location ≡ Some (sent_attribute p a)) (attributes_in p)
  sent-after r t g =
      all_set set_act (λ (x : Vertices). x.attribute) (λ (a : AttributeDesc). Some (sent_attribute p a))
      (λ a x. upd_same x.attribute a.location (Some (sent_attribute p a))) (λ a x i ne. upd_other x.attribute a.location i (Some (sent_attribute p a)) ne)
      (attributes_in p) t g

  pub fetched-piped : vertex_out_of_range p ≡ false → vertex_absent p ≡ false → vertex_twice p ≡ false → (g g' : Vertices)
      → (caps.vertex_buffer_layout ≡ true → g' ≡ folded set_act (attributes_in p) g) → Fetched caps v' g' p
  fetched-piped r d t g g' sets =
      record {
        ranged = r;
        described = d;
        apart = t;
        kept = kept-after;
        instances = instances-after;
        sent = λ layout. subst (λ (x : Vertices). Each (λ (a : AttributeDesc). x.attribute a.location ≡ Some (sent_attribute p a)) (attributes_in p)) (sym (sets layout)) (sent-after r t g);
        held = λ flat. ap (λ (b : Bool). take (cond b v.attribute_count p.vertex_attribute_count) (cond b v.attributes p.vertex_attributes)) flat;
        clean = λ flat. never (attributes_in p) (all-dirty flat (slots-low (attributes_in p) (ranged-each p r)));
      }
    where
      slots-low : (l : List AttributeDesc) → Each Ranged l → Each (λ (a : AttributeDesc). a.buffer_index < 16) l
      slots-low [] h = tt
      slots-low (a ∷ l) h = (h.0.1, slots-low l h.1)

      never : (l : List AttributeDesc) → Each (λ (a : AttributeDesc). test_bit v'.dirty_vbuf_mask a.buffer_index ≡ true) l
          → Each (λ (a : AttributeDesc). test_bit v'.dirty_vbuf_mask a.buffer_index ≡ false → test_bit v'.bound a.buffer_index ≡ true → g'.attribute a.location ≡ Some (attribute_buffer v' (instance_at v' a.buffer_index) a)) l
      never [] h = tt
      never (a ∷ l) h = ((λ e b. true-false (sym h.0 ∙ e)), never l h.1)
