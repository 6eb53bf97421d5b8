-- What a draw's sweep over the vertex slots leaves on the machine: every slot, or every attribute, that the pipeline reads holds what the state says at the draw's working instance. Assumes nothing.
use Prim.Native.Nat.{ℕ, ◌+◌, ◌<◌}
use mathlib.Core.Path.{◌≡◌, refl, sym, ap, ap₂, ◌∙◌, subst}
use mathlib.Core.Bool.{Bool, true, false, cond, not, ◌&&◌, ◌||◌}
use mathlib.Core.List.{List, [], ◌∷◌}
use Rattle.std.specs.Prelude.{Option, None, Some}
use native.Mathlib.Omega.{arith}
use lib.Dec.{eqb, leb}
use lib.Bits.{bit_and}
use borrow.Author.Tests.{eqb-true, eq-eqb, leb-false}
use Rattle.tables.specs.Tabulate.{at_place, upd_same, upd_other}
use Rattle.mask.specs.Mask.{test_bit, places}
use Rattle.mask.specs.Laws.{test-or, test-and}
use Rattle.mask.specs.By.{mask_by, by-at}
use Rattle.records.specs.Check.{among, bad_attribute}
use Rattle.records.specs.declared.command.AttributeDesc.{AttributeDesc}
use Rattle.records.specs.declared.command.BufferBinding.{BufferBinding}
use Rattle.records.specs.declared.command.VertexBufferDesc.{VertexBufferDesc}
use Rattle.records.specs.declared.pipeline.PrivateCapabilities.{PrivateCapabilities}
use Rattle.records.specs.declared.pipeline.RenderPipeline.{RenderPipeline}
use Rattle.records.specs.declared.state.VertexState.{VertexState}
use Rattle.slots.specs.Vertex.{step_of, is_instance, slot_at, desc_at, binding_at, instance_at}
use Rattle.slots.specs.Prepare.{moved, woken, rebound, cleared, instance_offset, slot_desc, slot_offset, slots_of, sent_of, sent, prepared_state}
use Rattle.slots.specs.Places.{among-places}
use Rattle.pipeline.specs.Vertex.{pipe_desc, attributes_in, has, steps_by_instance, vertex_out_of_range, vertex_absent}
use Rattle.machine.specs.Each.{Each}
use Rattle.machine.proofs.Lists.{and-true, false-true, true-false, or_left, or_right, not-false, each-not}
use Rattle.machine.specs.Machine.{Attribute, Vertices, put_attribute, put_buffer}
use Rattle.machine.proofs.Sweep.{folded, swept, unfolded}
use Rattle.order.proofs.Sifted.{sifted}
use Rattle.order.proofs.Invariant.{slot_buffer, attribute_buffer, Slots, Fetched}

-- ---- one command of the sweep, on the machine's vertex data
abbrev pub buffer_act : VertexState → ℕ → ℕ → Vertices → Vertices
buffer_act v w i x = put_buffer i (slot_buffer v w i) x

abbrev pub attribute_act : VertexState → ℕ → AttributeDesc → Vertices → Vertices
attribute_act v w a x = put_attribute a.location (Some (attribute_buffer v w a)) x

-- ---- a slot that has a description
pub desc-some : (v : VertexState) (i : ℕ) (o : Option VertexBufferDesc) → desc_at v i ≡ o → has o ≡ true → (test_bit v.described i ≡ true) × (o ≡ Some (slot_desc v i))
desc-some v i o e h = go (test_bit v.described i) o e h
  where
    go : (t : Bool) (o : Option VertexBufferDesc) → cond t (Some (slot_desc v i)) None ≡ o → has o ≡ true → (t ≡ true) × (o ≡ Some (slot_desc v i))
    go true o e h = (refl, sym e)
    go false o e h = false-true (ap has e ∙ h)

pub binding-some : (v : VertexState) (i : ℕ) (o : Option BufferBinding) → binding_at v i ≡ o → has o ≡ true → (test_bit v.bound i ≡ true) × (o ≡ Some (record { raw = (slot_at v i).raw; offset = (slot_at v i).offset }))
binding-some v i o e h = go (test_bit v.bound i) o e h
  where
    go : (t : Bool) (o : Option BufferBinding) → cond t (Some (record { raw = (slot_at v i).raw; offset = (slot_at v i).offset })) None ≡ o → has o ≡ true
        → (t ≡ true) × (o ≡ Some (record { raw = (slot_at v i).raw; offset = (slot_at v i).offset }))
    go true o e h = (refl, sym e)
    go false o e h = false-true (ap has e ∙ h)

-- a described slot whose description does not step by instance
steps-not : (v : VertexState) (i : ℕ) (o : Option VertexBufferDesc) → o ≡ Some (slot_desc v i) → steps_by_instance o ≡ false → test_bit v.by_instance i ≡ false
steps-not v i o e h = go (test_bit v.by_instance i) (sym (ap steps_by_instance e) ∙ h)
  where
    go : (t : Bool) → is_instance (step_of t) ≡ false → t ≡ false
    go true q = q
    go false q = refl

-- ---- a slot that a draw passes by
quiet-dirty : (v : VertexState) (w i : ℕ) → test_bit (woken v w) i ≡ false → test_bit v.dirty_vbuf_mask i ≡ false
quiet-dirty v w i q = or_left (test_bit v.dirty_vbuf_mask i) (test_bit (moved v w) i) (sym (test-or v.dirty_vbuf_mask (moved v w) i) ∙ q)

pub quiet-moved : (v : VertexState) (w i : ℕ) → i < 16 → test_bit (woken v w) i ≡ false → test_bit v.instance_vbuf_mask i && not (eqb w (instance_at v i)) ≡ false
quiet-moved v w i l q =
    sym (by-at 16 (λ i. test_bit v.instance_vbuf_mask i && not (eqb w (instance_at v i))) i l)
    ∙ or_right (test_bit v.dirty_vbuf_mask i) (test_bit (moved v w) i) (sym (test-or v.dirty_vbuf_mask (moved v w) i) ∙ q)

-- its offset is that of its own instance: this is the draw's, or the slot does not step by instance
settled : (v : VertexState) (w i : ℕ) → i < 16 → test_bit (woken v w) i ≡ false → (test_bit v.instance_vbuf_mask i ≡ false → test_bit v.by_instance i ≡ false)
    → slot_offset v (instance_at v i) i ≡ slot_offset v w i
settled v w i l q h = go (test_bit v.instance_vbuf_mask i) (eqb w (instance_at v i)) refl refl (quiet-moved v w i l q)
  where
    alike : (t : Bool) (x y stride : ℕ) → t ≡ false → instance_offset (step_of t) x stride ≡ instance_offset (step_of t) y stride
    alike true x y stride e = true-false e
    alike false x y stride e = refl

    go : (s t : Bool) → test_bit v.instance_vbuf_mask i ≡ s → eqb w (instance_at v i) ≡ t → s && not t ≡ false → slot_offset v (instance_at v i) i ≡ slot_offset v w i
    go s true d e p = ap (λ (x : ℕ). slot_offset v x i) (sym (eqb-true w (instance_at v i) e))
    go true false d e p = true-false p
    go false false d e p = alike (test_bit v.by_instance i) (instance_at v i) w (slot_at v i).stride (h d)

-- ---- the mask to be rebound, at a slot that is described and bound
rebound-at : (v : VertexState) (w i : ℕ) → test_bit v.described i ≡ true → test_bit v.bound i ≡ true → test_bit (rebound v w) i ≡ test_bit (woken v w) i
rebound-at v w i d b =
    test-and (bit_and (woken v w) v.described) v.bound i
    ∙ ap₂ (λ (x y : Bool). x && y) (test-and (woken v w) v.described i) b
    ∙ ap (λ (x : Bool). (test_bit (woken v w) i && x) && true) d
    ∙ go (test_bit (woken v w) i)
  where
    go : (t : Bool) → (t && true) && true ≡ t
    go true = refl
    go false = refl

-- ---- what refusals 3 and 4 say of each attribute
abbrev pub Ranged : AttributeDesc → Type 0
Ranged a = (a.location < 16) × (a.buffer_index < 16)

pub ranged-each : (p : RenderPipeline) → vertex_out_of_range p ≡ false → Each Ranged (attributes_in p)
ranged-each p e = more (attributes_in p) (each-not bad_attribute (attributes_in p) e)
  where
    one : (a : AttributeDesc) → bad_attribute a ≡ false → Ranged a
    one a q = (leb-false 16 a.location (or_left (leb 16 a.location) (leb 16 a.buffer_index) q), leb-false 16 a.buffer_index (or_right (leb 16 a.location) (leb 16 a.buffer_index) q))

    more : (l : List AttributeDesc) → Each (λ (a : AttributeDesc). bad_attribute a ≡ false) l → Each Ranged l
    more [] h = tt
    more (a ∷ l) h = (one a h.0, more l h.1)

pub described-each : (p : RenderPipeline) → vertex_absent p ≡ false → Each (λ (a : AttributeDesc). has (pipe_desc p a.buffer_index) ≡ true) (attributes_in p)
described-each p e = more (attributes_in p) (each-not (λ (a : AttributeDesc). not (has (pipe_desc p a.buffer_index))) (attributes_in p) e)
  where
    more : (l : List AttributeDesc) → Each (λ (a : AttributeDesc). not (has (pipe_desc p a.buffer_index)) ≡ false) l → Each (λ (a : AttributeDesc). has (pipe_desc p a.buffer_index) ≡ true) l
    more [] h = tt
    more (a ∷ l) h = (not-false (has (pipe_desc p a.buffer_index)) h.0, more l h.1)

-- each slot of a list of attributes stands in it
pub members : (l : List AttributeDesc) → Each (λ (a : AttributeDesc). among a.buffer_index (slots_of l) ≡ true) l
unfolding among
members l = part l l (λ x e. e)
  where
    part : (k l : List AttributeDesc) → ((x : ℕ) → among x (slots_of k) ≡ true → among x (slots_of l) ≡ true) → Each (λ (a : AttributeDesc). among a.buffer_index (slots_of l) ≡ true) k
    part [] l h = tt
    part (a ∷ k) l h = (h a.buffer_index (rw (eq-eqb a.buffer_index a.buffer_index refl)), part k l (λ x e. h x (more (eqb x a.buffer_index) (among x (slots_of k)) e)))
      where
        more : (s t : Bool) → t ≡ true → s || t ≡ true
        more true t e = refl
        more false t e = e

-- the slots of the attributes that a mask takes: those of the mask that an attribute has
among-sent : (m i : ℕ) (l : List AttributeDesc) → among i (slots_of (sent_of m l)) ≡ test_bit m i && among i (slots_of l)
unfolding sent_of among
among-sent m i [] = None (test_bit m i)
  where
    None : (t : Bool) → false ≡ t && false
    None true = refl
    None false = refl
among-sent m i (a ∷ l) = go (test_bit m a.buffer_index) (eqb i a.buffer_index) refl refl (among-sent m i l)
  where
    same : eqb i a.buffer_index ≡ true → test_bit m i ≡ test_bit m a.buffer_index
    same e = ap (test_bit m) (eqb-true i a.buffer_index e)

    go : (t u : Bool) → test_bit m a.buffer_index ≡ t → eqb i a.buffer_index ≡ u → among i (slots_of (sent_of m l)) ≡ test_bit m i && among i (slots_of l)
        → among i (slots_of (cond t (a ∷ sent_of m l) (sent_of m l))) ≡ test_bit m i && (u || among i (slots_of l))
    go true true d e ih = rw e (sym (ap (λ (t : Bool). t && true) (same e ∙ d)))
    go true false d e ih = rw e ih
    go false true d e ih = rw (same e ∙ d) (rw (same e ∙ d) at ih)
    go false false d e ih = ih

-- the instance-stepping of a slot that the pipeline describes
module _ (caps : PrivateCapabilities) (v : VertexState) (g : Vertices) (p : RenderPipeline) (F : Fetched caps v g p) where
  no_step : (i : ℕ) → i < 16 → has (pipe_desc p i) ≡ true → test_bit v.instance_vbuf_mask i ≡ false → test_bit v.by_instance i ≡ false
  no_step i l h e = steps-not v i (pipe_desc p i) (desc-some v i (pipe_desc p i) (F.kept i l h) h).1 (sym (F.instances i l) ∙ e)

-- ---- with layouts
module _ (caps : PrivateCapabilities) (v : VertexState) (g : Vertices) (buffer : ℕ → Option BufferBinding) (S : Slots caps v g buffer) (layout : caps.vertex_buffer_layout ≡ true) (w : ℕ) where
  abbrev v' : VertexState
  v' = prepared_state caps v w

  -- a slot that is bound at this draw remembers it
  instance-after : (i : ℕ) → i < 16 → instance_at v' i ≡ cond (test_bit (rebound v w) i) w (instance_at v i)
  instance-after i l =
      at_place 16 (λ i. cond (test_bit (cleared caps v w) i) w (instance_at v i)) i 0 l
      ∙ ap (λ (t : Bool). cond (test_bit (cond t (rebound v w) (mask_by 16 (λ i. among i (slots_of (sent v w))))) i) w (instance_at v i)) layout

  sets : (x : Vertices) (k i : ℕ) → (buffer_act v w k x).buffer i ≡ cond (eqb i k) (Some (slot_buffer v w i)) (x.buffer i)
  sets x k i = go (eqb i k) refl
    where
      go : (t : Bool) → eqb i k ≡ t → cond t (Some (slot_buffer v w k)) (x.buffer i) ≡ cond t (Some (slot_buffer v w i)) (x.buffer i)
      go true e = ap (λ (j : ℕ). Some (slot_buffer v w j)) (sym (eqb-true i k e))
      go false e = refl

  -- every described, bound slot holds what the state says at its own instance
  pub slot-after : (i : ℕ) → i < 16 → has (buffer i) ≡ true → test_bit v.described i ≡ true → test_bit v.bound i ≡ true → (folded (buffer_act v w) (places (rebound v w)) g).buffer i ≡ Some (slot_buffer v (instance_at v' i) i)
  slot-after i l x d b =
      swept (buffer_act v w) (λ (x : Vertices). x.buffer) (λ j. Some (slot_buffer v w j)) sets (places (rebound v w)) g i
      ∙ ap (λ (t : Bool). cond t (Some (slot_buffer v w i)) (g.buffer i)) (among-places (rebound v w) i (in32 i l))
      ∙ go (test_bit (rebound v w) i) refl
      ∙ ap (λ (x : ℕ). Some (slot_buffer v x i)) (sym (instance-after i l))
    where
      in32 : (i : ℕ) → i < 16 → i < 32
      in32 i l = omega arith

      go : (t : Bool) → test_bit (rebound v w) i ≡ t → cond t (Some (slot_buffer v w i)) (g.buffer i) ≡ Some (slot_buffer v (cond t w (instance_at v i)) i)
      go true q = refl
      go false q = S.clean layout i l x (quiet-dirty v w i (sym (rebound-at v w i d b) ∙ q)) d b

  -- and one that the pipeline describes what the state says at the draw's
  pub slot_read : (p : RenderPipeline) → Fetched caps v g p → (i : ℕ) → i < 16 → has (pipe_desc p i) ≡ true → has (buffer i) ≡ true → test_bit v.described i ≡ true → test_bit v.bound i ≡ true
      → (folded (buffer_act v w) (places (rebound v w)) g).buffer i ≡ Some (slot_buffer v w i)
  slot_read p F i l h x d b =
      slot-after i l x d b
      ∙ ap (λ (x : ℕ). Some (slot_buffer v x i)) (instance-after i l)
      ∙ ap (λ (o : ℕ). Some (record { binding = record { raw = (slot_at v i).raw; offset = (slot_at v i).offset + o }; desc = slot_desc v i })) (go (test_bit (rebound v w) i) refl)
    where
      go : (t : Bool) → test_bit (rebound v w) i ≡ t → slot_offset v (cond t w (instance_at v i)) i ≡ slot_offset v w i
      go true q = refl
      go false q = settled v w i l (sym (rebound-at v w i d b) ∙ q) (no_step caps v g p F i l h)

  pub attribute-kept : (folded (buffer_act v w) (places (rebound v w)) g).attribute ≡ g.attribute
  attribute-kept = unfolded (buffer_act v w) (λ (x : Vertices). x.attribute) (λ k x. refl) (places (rebound v w)) g

-- ---- without
-- an attribute as it is set, that far on
abbrev at_offset : VertexState → AttributeDesc → ℕ → Option Attribute
at_offset v a o =
    Some
    (record {
      buffer = Some (slot_at v a.buffer_index).raw;
      desc = slot_desc v a.buffer_index;
      attribute =
          record {
            location = a.location;
            offset = a.offset + (slot_at v a.buffer_index).offset + o;
            buffer_index = a.buffer_index;
            format_desc = a.format_desc;
          };
    })

module _ (caps : PrivateCapabilities) (v : VertexState) (g : Vertices) (p : RenderPipeline) (F : Fetched caps v g p) where
  module _ (flat : caps.vertex_buffer_layout ≡ false) (w : ℕ) where
    here : (a : AttributeDesc) (x : Vertices) → (attribute_act v w a x).attribute a.location ≡ Some (attribute_buffer v w a)
    here a x = upd_same x.attribute a.location (Some (attribute_buffer v w a))

    other : (a : AttributeDesc) (x : Vertices) (i : ℕ) → (i ≡ a.location → ⊥) → (attribute_act v w a x).attribute i ≡ x.attribute i
    other a x i ne = upd_other x.attribute a.location i (Some (attribute_buffer v w a)) ne

    -- one attribute of the pipeline, after the sweep
    one : (a : AttributeDesc) (x : Vertices) → Ranged a → has (pipe_desc p a.buffer_index) ≡ true
        → (test_bit v.dirty_vbuf_mask a.buffer_index ≡ false → test_bit v.bound a.buffer_index ≡ true → g.attribute a.location ≡ Some (attribute_buffer v (instance_at v a.buffer_index) a))
        → x.attribute a.location ≡ cond (test_bit (rebound v w) a.buffer_index) (Some (attribute_buffer v w a)) (g.attribute a.location)
        → test_bit v.bound a.buffer_index ≡ true → x.attribute a.location ≡ Some (attribute_buffer v w a)
    one a x r h clean e b =
        e
        ∙ ap (λ (t : Bool). cond t (Some (attribute_buffer v w a)) (g.attribute a.location))
        (rebound-at v w a.buffer_index (desc-some v a.buffer_index (pipe_desc p a.buffer_index) (F.kept a.buffer_index r.1 h) h).0 b)
        ∙ go (test_bit (woken v w) a.buffer_index) refl
      where
        go : (t : Bool) → test_bit (woken v w) a.buffer_index ≡ t → cond t (Some (attribute_buffer v w a)) (g.attribute a.location) ≡ Some (attribute_buffer v w a)
        go true q = refl
        go false q =
            clean (quiet-dirty v w a.buffer_index q) b
            ∙ ap (at_offset v a) (settled v w a.buffer_index r.1 q (no_step caps v g p F a.buffer_index r.1 h))

    pub attributes-after : Each (λ (a : AttributeDesc). test_bit v.bound a.buffer_index ≡ true → (folded (attribute_act v w) (sent v w) g).attribute a.location ≡ Some (attribute_buffer v w a)) (attributes_in p)
    attributes-after = go (attributes_in p) (ranged-each p F.ranged) (described-each p F.described) (F.clean flat) swept-each
      where
        swept-each : Each (λ (a : AttributeDesc). (folded (attribute_act v w) (sent v w) g).attribute a.location ≡ cond (test_bit (rebound v w) a.buffer_index) (Some (attribute_buffer v w a)) (g.attribute a.location)) (attributes_in p)
        swept-each =
            subst (λ (l : List AttributeDesc). Each (λ (a : AttributeDesc). (folded (attribute_act v w) (sent_of (rebound v w) l) g).attribute a.location ≡ cond (test_bit (rebound v w) a.buffer_index) (Some (attribute_buffer v w a)) (g.attribute a.location)) (attributes_in p))
            (sym (F.held flat))
            (sifted (attribute_act v w) (λ (x : Vertices). x.attribute) (λ (a : AttributeDesc). Some (attribute_buffer v w a)) here other (rebound v w) (attributes_in p) F.apart g)

        go : (l : List AttributeDesc) → Each Ranged l → Each (λ (a : AttributeDesc). has (pipe_desc p a.buffer_index) ≡ true) l
            → Each (λ (a : AttributeDesc). test_bit v.dirty_vbuf_mask a.buffer_index ≡ false → test_bit v.bound a.buffer_index ≡ true → g.attribute a.location ≡ Some (attribute_buffer v (instance_at v a.buffer_index) a)) l
            → Each (λ (a : AttributeDesc). (folded (attribute_act v w) (sent v w) g).attribute a.location ≡ cond (test_bit (rebound v w) a.buffer_index) (Some (attribute_buffer v w a)) (g.attribute a.location)) l
            → Each (λ (a : AttributeDesc). test_bit v.bound a.buffer_index ≡ true → (folded (attribute_act v w) (sent v w) g).attribute a.location ≡ Some (attribute_buffer v w a)) l
        go [] r h c e = tt
        go (a ∷ l) r h c e = (one a (folded (attribute_act v w) (sent v w) g) r.0 h.0 c.0 e.0, go l r.1 h.1 c.1 e.1)

    -- and at the instance that its slot remembers
    abbrev v'' : VertexState
    v'' = prepared_state caps v w

    pub attributes-own : Each (λ (a : AttributeDesc). test_bit v.bound a.buffer_index ≡ true → (folded (attribute_act v w) (sent v w) g).attribute a.location ≡ Some (attribute_buffer v (instance_at v'' a.buffer_index) a)) (attributes_in p)
    attributes-own = go (attributes_in p) (ranged-each p F.ranged) (described-each p F.described) (members (attributes_in p)) attributes-after
      where
        remembers : (i : ℕ) → i < 16 → among i (slots_of (attributes_in p)) ≡ true → instance_at v'' i ≡ cond (test_bit (rebound v w) i) w (instance_at v i)
        remembers i l h =
            at_place 16 (λ i. cond (test_bit (cleared caps v w) i) w (instance_at v i)) i 0 l
            ∙ ap (λ (t : Bool). cond (test_bit (cond t (rebound v w) (mask_by 16 (λ i. among i (slots_of (sent v w))))) i) w (instance_at v i)) flat
            ∙ ap (λ (t : Bool). cond t w (instance_at v i))
            (by-at 16 (λ i. among i (slots_of (sent v w))) i l
            ∙ ap (λ (k : List AttributeDesc). among i (slots_of (sent_of (rebound v w) k))) (F.held flat)
            ∙ among-sent (rebound v w) i (attributes_in p)
            ∙ ap (λ (t : Bool). test_bit (rebound v w) i && t) h
            ∙ and-true (test_bit (rebound v w) i))

        own : (a : AttributeDesc) → Ranged a → has (pipe_desc p a.buffer_index) ≡ true → among a.buffer_index (slots_of (attributes_in p)) ≡ true → test_bit v.bound a.buffer_index ≡ true
            → slot_offset v w a.buffer_index ≡ slot_offset v (instance_at v'' a.buffer_index) a.buffer_index
        own a r h m b = go (test_bit (rebound v w) i) refl ∙ ap (λ (x : ℕ). slot_offset v x i) (sym (remembers i r.1 m))
          where
            i : ℕ
            i = a.buffer_index

            d : test_bit v.described i ≡ true
            d = (desc-some v i (pipe_desc p i) (F.kept i r.1 h) h).0

            go : (t : Bool) → test_bit (rebound v w) i ≡ t → slot_offset v w i ≡ slot_offset v (cond t w (instance_at v i)) i
            go true q = refl
            go false q = sym (settled v w i r.1 (sym (rebound-at v w i d b) ∙ q) (no_step caps v g p F i r.1 h))

        go : (l : List AttributeDesc) → Each Ranged l → Each (λ (a : AttributeDesc). has (pipe_desc p a.buffer_index) ≡ true) l → Each (λ (a : AttributeDesc). among a.buffer_index (slots_of (attributes_in p)) ≡ true) l
            → Each (λ (a : AttributeDesc). test_bit v.bound a.buffer_index ≡ true → (folded (attribute_act v w) (sent v w) g).attribute a.location ≡ Some (attribute_buffer v w a)) l
            → Each (λ (a : AttributeDesc). test_bit v.bound a.buffer_index ≡ true → (folded (attribute_act v w) (sent v w) g).attribute a.location ≡ Some (attribute_buffer v (instance_at v'' a.buffer_index) a)) l
        go [] r h m e = tt
        go (a ∷ l) r h m e = ((λ b. e.0 b ∙ ap (at_offset v a) (own a r.0 h.0 m.0 b)), go l r.1 h.1 m.1 e.1)
