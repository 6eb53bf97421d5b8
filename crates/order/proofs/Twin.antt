-- Two vertex parts that differ in their slots' numbers, one by the Rust's rule: what keeps them alike at each call that touches slots. For `AsRust`. Assumes nothing.
use Prim.Native.Nat.{ℕ, ◌^◌, ◌<◌, ◌≤◌}
use mathlib.Core.Path.{◌≡◌, refl, sym, ap, ◌∙◌, subst}
use mathlib.Core.Bool.{Bool, true, false, cond, not, ◌&&◌, ◌||◌}
use mathlib.Core.List.{List, [], ◌∷◌}
use Rattle.std.specs.Prelude.{Option, None, Some}
use native.Mathlib.Nat.{lt_of_le_of_lt, le_trans}
use native.Mathlib.Omega.{arith}
use lib.Dec.{eqb, ltb}
use lib.Bits.{bit_and, bit_or, or_lt, and_le_l}
use lib.ListN.{get_or, take, replicate, get_or-replicate}
use borrow.Author.Tests.{eqb-true, ltb-true, ltb-false}
use Rattle.tables.specs.Tabulate.{at_place}
use Rattle.mask.specs.Mask.{test_bit, set_bit, without}
use Rattle.mask.specs.Laws.{ext, test-or, test-and, test-set, test-without, test-beyond, set-lt}
use Rattle.mask.specs.By.{mask_by, by-at, by-lt}
use Rattle.records.specs.Check.{among}
use Rattle.records.specs.declared.command.AttributeDesc.{AttributeDesc}
use Rattle.records.specs.declared.command.VertexBufferDesc.{VertexBufferDesc}
use Rattle.records.specs.declared.command.VertexStepMode.{VertexStepMode}
use Rattle.records.specs.declared.command.VertexStepMode.TheVariants.{Vertex, Instance}
use Rattle.records.specs.declared.pipeline.PrivateCapabilities.{PrivateCapabilities}
use Rattle.records.specs.declared.pipeline.RenderPipeline.{RenderPipeline}
use Rattle.records.specs.declared.state.VertexState.{VertexState}
use Rattle.slots.specs.Vertex.{step_of, is_instance, slot_at, desc_at, instance_at, attributes_of, stepped}
use Rattle.slots.specs.Prepare.{moved, woken, rebound, cleared, slots_of, sent_of, sent, prepared_state}
use Rattle.pipeline.specs.Vertex.{pipe_desc, attributes_in, has, same_step, same_desc, changes, steps_by_instance, step_or, changed_slots, dirty_before, pipeline_vertex}
use Rattle.calls.specs.Settings.{bound_slot}
use Rattle.machine.specs.Each.{Each}
use Rattle.machine.proofs.Lists.{false-true, true-false, or_left, or_right, and_left, and-false-left, not-false, some-none, none-some}
use Rattle.book.specs.Book.{describes, known}
use Rattle.order.proofs.Own.{described-is}
use Rattle.order.proofs.Prepared.{quiet-moved, members}

-- the vertex part with that dirty mask, and one number for all slots
abbrev pub other : ℕ → ℕ → VertexState → VertexState
other d n v = stepped v d (replicate 16 n)

-- a slot that a list can show: with layouts each one, without those of which there is an attribute
abbrev pub Shows : PrivateCapabilities → VertexState → ℕ → Type 0
Shows caps v i = caps.vertex_buffer_layout ≡ false → among i (slots_of (attributes_of v)) ≡ true

abbrev pub Zeros : VertexState → ℕ → Type 0
Zeros v n = (n ≡ 0) × ((i : ℕ) → i < 16 → instance_at v i ≡ 0)

-- v, after the last pipeline o of the pass, beside `other d n v`
pub record Same (caps : PrivateCapabilities) (o : Option RenderPipeline) (v : VertexState) (d n : ℕ) : Type 0 where
  pub low : v.dirty_vbuf_mask < 2 ^ 16
  pub other_low : d < 2 ^ 16
  pub bits : (i : ℕ) → i < 16 → Shows caps v i → test_bit d i ≡ test_bit v.dirty_vbuf_mask i
  -- an instance slot of the pipeline that is not dirty has the one number
  pub number : (i : ℕ) → i < 16 → Shows caps v i → test_bit v.instance_vbuf_mask i ≡ true → test_bit v.dirty_vbuf_mask i ≡ false → instance_at v i ≡ n
  pub full : caps.fully_featured_instancing ≡ true → Zeros v n
  pub unpiped : caps.vertex_buffer_layout ≡ true → o ≡ None → Zeros v n
  pub piped : caps.vertex_buffer_layout ≡ true → (q : RenderPipeline) → o ≡ Some q → (i : ℕ) → i < 16 → has (pipe_desc q i) ≡ true → test_bit v.by_instance i ≡ true
      → test_bit v.instance_vbuf_mask i ≡ true

-- nothing is dirty, no slot has a number: at the start, and after a pass's end
pub zeroed : (caps : PrivateCapabilities) (v : VertexState) → v.dirty_vbuf_mask ≡ 0 → v.instances ≡ replicate 16 0 → Same caps None v 0 0
zeroed caps v d e =
    record {
      low = subst (λ (k : ℕ). k < 2 ^ 16) (sym d) (omega arith);
      other_low = omega arith;
      bits = λ i l r. ap (λ (k : ℕ). test_bit k i) (sym d);
      number = λ i l r m q. at i l;
      full = λ f. (refl, at);
      unpiped = λ l q. (refl, at);
      piped = λ l q p. none-some p;
    }
  where
    at : (i : ℕ) → i < 16 → instance_at v i ≡ 0
    at i l = ap (λ (xs : List ℕ). get_or xs i 0) e ∙ get_or-replicate 16 i 0 0 l

-- ---- a vertex buffer
pub rebuffered : (caps : PrivateCapabilities) (o : Option RenderPipeline) (v : VertexState) (d n i raw offset : ℕ) → i < 16 → Same caps o v d n
    → Same caps o (bound_slot i raw offset v) (set_bit d i) n
rebuffered caps o v d n k raw offset low S =
    record {
      low = set-lt 16 v.dirty_vbuf_mask k S.low low (omega arith);
      other_low = set-lt 16 d k S.other_low low (omega arith);
      bits = λ i l r. test-set d i k (omega (arith, low)) ∙ ap (λ (t : Bool). t || eqb i k) (S.bits i l r) ∙ sym (test-set v.dirty_vbuf_mask i k (omega (arith, low)));
      number = λ i l r m q. S.number i l r m (or_left (test_bit v.dirty_vbuf_mask i) (eqb i k) (sym (test-set v.dirty_vbuf_mask i k (omega (arith, low))) ∙ q));
      full = S.full;
      unpiped = S.unpiped;
      piped = S.piped;
    }

-- ---- a draw
-- attributes whose slots two masks take alike
sent-alike : (m m' : ℕ) (l : List AttributeDesc) → Each (λ (a : AttributeDesc). test_bit m' a.buffer_index ≡ test_bit m a.buffer_index) l → sent_of m' l ≡ sent_of m l
unfolding sent_of
sent-alike m m' [] h = refl
sent-alike m m' (a ∷ l) h = λ j. cond (h.0 j) (a ∷ sent-alike m m' l h.1 j) (sent-alike m m' l h.1 j)

without-le : (a b : ℕ) → without a b ≤ a
unfolding without
without-le a b = and_le_l a _

module _ (caps : PrivateCapabilities) (o : Option RenderPipeline) (v : VertexState) (d n : ℕ) (S : Same caps o v d n) (w : ℕ) where
  abbrev v' : VertexState
  v' = other d n v

  woken-low : woken v w < 2 ^ 16
  woken-low = or_lt 16 v.dirty_vbuf_mask (moved v w) S.low (by-lt 16 _)

  other-woken-low : woken v' w < 2 ^ 16
  other-woken-low = or_lt 16 d (moved v' w) S.other_low (by-lt 16 _)

  woken-at : (i : ℕ) → i < 16 → Shows caps v i → test_bit (woken v' w) i ≡ test_bit (woken v w) i
  woken-at i l r =
      test-or d (moved v' w) i
      ∙ (λ j. S.bits i l r j || by-at 16 (λ i. test_bit v.instance_vbuf_mask i && not (eqb w (get_or (replicate 16 n) i 0))) i l j)
      ∙ go (test_bit v.dirty_vbuf_mask i) (test_bit v.instance_vbuf_mask i) refl refl
      ∙ (λ j. test_bit v.dirty_vbuf_mask i || sym (by-at 16 (λ i. test_bit v.instance_vbuf_mask i && not (eqb w (instance_at v i))) i l) j)
      ∙ sym (test-or v.dirty_vbuf_mask (moved v w) i)
    where
      go : (s t : Bool) → test_bit v.dirty_vbuf_mask i ≡ s → test_bit v.instance_vbuf_mask i ≡ t
          → s || (t && not (eqb w (get_or (replicate 16 n) i 0))) ≡ s || (t && not (eqb w (instance_at v i)))
      go true t e f = refl
      go false true e f = ap (λ (k : ℕ). not (eqb w k)) (get_or-replicate 16 i n 0 l ∙ sym (S.number i l r f e))
      go false false e f = refl

  -- also past the sixteen
  woken-any : (i : ℕ) → Shows caps v i → test_bit (woken v' w) i ≡ test_bit (woken v w) i
  woken-any i r = go (ltb i 16) refl
    where
      go : (t : Bool) → ltb i 16 ≡ t → test_bit (woken v' w) i ≡ test_bit (woken v w) i
      go true e = woken-at i (ltb-true i 16 e) r
      go false e = test-beyond 16 (woken v' w) i other-woken-low (ltb-false i 16 e) ∙ sym (test-beyond 16 (woken v w) i woken-low (ltb-false i 16 e))

  same-rebound : caps.vertex_buffer_layout ≡ true → rebound v' w ≡ rebound v w
  same-rebound layout =
      ap (λ (m : ℕ). bit_and (bit_and m v.described) v.bound)
      (ext 16 (woken v' w) (woken v w) other-woken-low woken-low (λ i l. woken-at i l (λ flat. true-false (sym layout ∙ flat))))

  same_sent : caps.vertex_buffer_layout ≡ false → sent v' w ≡ sent v w
  same_sent flat = sent-alike (rebound v w) (rebound v' w) (attributes_of v) (each (attributes_of v) (members (attributes_of v)))
    where
      rebound-at : (i : ℕ) → Shows caps v i → test_bit (rebound v' w) i ≡ test_bit (rebound v w) i
      rebound-at i r =
          test-and (bit_and (woken v' w) v.described) v.bound i
          ∙ ap (λ (t : Bool). t && test_bit v.bound i)
          (test-and (woken v' w) v.described i ∙ ap (λ (t : Bool). t && test_bit v.described i) (woken-any i r) ∙ sym (test-and (woken v w) v.described i))
          ∙ sym (test-and (bit_and (woken v w) v.described) v.bound i)

      each : (l : List AttributeDesc) → Each (λ (a : AttributeDesc). among a.buffer_index (slots_of (attributes_of v)) ≡ true) l
          → Each (λ (a : AttributeDesc). test_bit (rebound v' w) a.buffer_index ≡ test_bit (rebound v w) a.buffer_index) l
      each [] h = tt
      each (a ∷ l) h = (rebound-at a.buffer_index (λ e. h.0), each l h.1)

  -- whatever is worked out from the slots to rebind, or the attributes to send
  pub alike : {A : Type 0} (f : ℕ → A) (g : List AttributeDesc → A)
      → cond caps.vertex_buffer_layout (f (rebound v' w)) (g (sent v' w)) ≡ cond caps.vertex_buffer_layout (f (rebound v w)) (g (sent v w))
  alike {A} f g = go caps.vertex_buffer_layout refl
    where
      go : (t : Bool) → caps.vertex_buffer_layout ≡ t → cond t (f (rebound v' w)) (g (sent v' w)) ≡ cond t (f (rebound v w)) (g (sent v w))
      go true e = ap f (same-rebound e)
      go false e = ap g (same_sent e)

  same-cleared : cleared caps v' w ≡ cleared caps v w
  same-cleared = alike (λ m. m) (λ l. mask_by 16 (λ i. among i (slots_of l)))

  cleared-low : cleared caps v w < 2 ^ 32
  cleared-low = go caps.vertex_buffer_layout
    where
      mine : rebound v w < 2 ^ 16
      mine = lt_of_le_of_lt (le_trans (and_le_l (bit_and (woken v w) v.described) v.bound) (and_le_l (woken v w) v.described)) woken-low

      go : (t : Bool) → cond t (rebound v w) (mask_by 16 (λ i. among i (slots_of (sent v w)))) < 2 ^ 32
      go true = omega (arith, mine)
      go false = omega (arith, by-lt 16 (λ i. among i (slots_of (sent v w))))

  -- the slots after it; w is 0 where all numbers are
  pub redrawn : (caps.fully_featured_instancing ≡ true → w ≡ 0) → (caps.vertex_buffer_layout ≡ true → o ≡ None → w ≡ 0)
      → Same caps o (prepared_state caps v w) (without (woken v' w) (cleared caps v' w)) w
  redrawn zero-full zero-unpiped =
      record {
        low = lt_of_le_of_lt (without-le (woken v w) (cleared caps v w)) woken-low;
        other_low = lt_of_le_of_lt (without-le (woken v' w) (cleared caps v' w)) other-woken-low;
        bits = λ i l r.
            ap (λ (m : ℕ). test_bit (without (woken v' w) m) i) same-cleared
            ∙ test-without (woken v' w) (cleared caps v w) i cleared-low (omega (arith, l))
            ∙ ap (λ (t : Bool). t && not (test_bit (cleared caps v w) i)) (woken-at i l r)
            ∙ sym (left_at i l);
        number = λ i l r m q. instance-after i l ∙ numbered i l m (sym (left_at i l) ∙ q);
        full = λ f. (zero-full f, λ i l. instance-after i l ∙ zeros i (zero-full f) ((S.full f).1 i l));
        unpiped = λ f e. (zero-unpiped f e, λ i l. instance-after i l ∙ zeros i (zero-unpiped f e) ((S.unpiped f e).1 i l));
        piped = S.piped;
      }
    where
      left_at : (i : ℕ) → i < 16 → test_bit (without (woken v w) (cleared caps v w)) i ≡ (test_bit (woken v w) i && not (test_bit (cleared caps v w) i))
      left_at i l = test-without (woken v w) (cleared caps v w) i cleared-low (omega (arith, l))

      instance-after : (i : ℕ) → i < 16 → instance_at (prepared_state caps v w) i ≡ cond (test_bit (cleared caps v w) i) w (instance_at v i)
      instance-after i l = at_place 16 (λ i. cond (test_bit (cleared caps v w) i) w (instance_at v i)) i 0 l

      zeros : (i : ℕ) → w ≡ 0 → instance_at v i ≡ 0 → cond (test_bit (cleared caps v w) i) w (instance_at v i) ≡ 0
      zeros i e q = go (test_bit (cleared caps v w) i)
        where
          go : (t : Bool) → cond t w (instance_at v i) ≡ 0
          go true = e
          go false = q

      numbered : (i : ℕ) → i < 16 → test_bit v.instance_vbuf_mask i ≡ true → (test_bit (woken v w) i && not (test_bit (cleared caps v w) i)) ≡ false
          → cond (test_bit (cleared caps v w) i) w (instance_at v i) ≡ w
      numbered i l m = go (test_bit (cleared caps v w) i)
        where
          go : (t : Bool) → (test_bit (woken v w) i && not t) ≡ false → cond t w (instance_at v i) ≡ w
          go true q = refl
          go false q =
              let asleep = and-false-left (test_bit (woken v w) i) true q refl in
              let p = subst (λ (t : Bool). t && not (eqb w (instance_at v i)) ≡ false) m (quiet-moved v w i l asleep) in
              sym (eqb-true w (instance_at v i) (not-false (eqb w (instance_at v i)) p))

-- ---- a pipeline
-- a description that stays: it steps as the state's does
unchanged : (x y : Option VertexBufferDesc) → changes x y ≡ false → steps_by_instance x ≡ true → (has x ≡ true) × (steps_by_instance y ≡ true)
unchanged None y e h = false-true h
unchanged (Some d) None e h = true-false e
unchanged (Some d) (Some b) e h = (refl, go d.step b.step (and_left (same_step d.step b.step) (eqb d.stride b.stride) (not-false (same_desc d b) e)) h)
  where
    go : (s t : VertexStepMode) → same_step s t ≡ true → is_instance s ≡ true → is_instance t ≡ true
    go Vertex t q i = false-true i
    go Instance Vertex q i = false-true q
    go Instance Instance q i = refl

described-step : (v : VertexState) (i : ℕ) → steps_by_instance (desc_at v i) ≡ true → test_bit v.by_instance i ≡ true
described-step v i = go (test_bit v.described i) (test_bit v.by_instance i)
  where
    go : (t b : Bool) → steps_by_instance (cond t (Some (record { step = step_of b; stride = (slot_at v i).stride })) None) ≡ true → b ≡ true
    go true true h = refl
    go true false h = false-true h
    go false b h = false-true h

stepped-new : (b : Bool) (x : Option VertexBufferDesc) → has x ≡ true → step_or b x ≡ true → steps_by_instance x ≡ true
stepped-new b None h e = false-true h
stepped-new b (Some d) h e = e

pub repiped : (caps : PrivateCapabilities) (o : Option RenderPipeline) (v : VertexState) (d n : ℕ) (p : RenderPipeline) → Same caps o v d n
    → (caps.vertex_buffer_layout ≡ true → caps.fully_featured_instancing ≡ false → (q : RenderPipeline) → o ≡ Some q → (i : ℕ) → i < 16 → known (describes p i) ≡ known (describes q i))
    → Same caps (Some p) (pipeline_vertex caps p v) (bit_or (dirty_before caps p (other d n v)) (changed_slots p v)) n
repiped caps o v d n p S E =
    record {
      low = or_lt 16 (dirty_before caps p v) (changed_slots p v) (before-low v.dirty_vbuf_mask S.low) (by-lt 16 _);
      other_low = or_lt 16 (dirty_before caps p (other d n v)) (changed_slots p v) (before-low d S.other_low) (by-lt 16 _);
      bits = λ i l r.
          test-or (dirty_before caps p (other d n v)) (changed_slots p v) i
          ∙ ap (λ (t : Bool). t || test_bit (changed_slots p v) i) (before-bits i l)
          ∙ sym (test-or (dirty_before caps p v) (changed_slots p v) i);
      number = λ i l r m q.
          let clean = sym (test-or (dirty_before caps p v) (changed_slots p v) i) ∙ q in
          let stays = sym (by-at 16 (λ i. changes (pipe_desc p i) (desc_at v i)) i l) ∙ or_right (test_bit (dirty_before caps p v) i) (test_bit (changed_slots p v) i) clean in
          let u = unchanged (pipe_desc p i) (desc_at v i) stays (sym (by-at 16 (λ i. steps_by_instance (pipe_desc p i)) i l) ∙ m) in
          at i l r u.0 (described-step v i u.1) (or_left (test_bit (dirty_before caps p v) i) (test_bit (changed_slots p v) i) clean) caps.vertex_buffer_layout refl;
      full = S.full;
      unpiped = λ l e. some-none e;
      piped = λ l q e i low h b.
          subst (λ (x : RenderPipeline). has (pipe_desc x i) ≡ true → test_bit (mask_by 16 (λ i. steps_by_instance (pipe_desc p i))) i ≡ true) (some_same p q e)
          (λ k.
          by-at 16 (λ i. steps_by_instance (pipe_desc p i)) i low
          ∙ stepped-new (test_bit v.by_instance i) (pipe_desc p i) k (sym (by-at 16 (λ i. step_or (test_bit v.by_instance i) (pipe_desc p i)) i low) ∙ b)) h;
    }
  where
    some_same : (x y : RenderPipeline) → Some x ≡ Some y → x ≡ y
    some_same x y e = cc

    attrs : ℕ
    attrs = mask_by 16 (λ i. among i (slots_of (attributes_in p)))

    before-low : (k : ℕ) → k < 2 ^ 16 → cond caps.vertex_buffer_layout k attrs < 2 ^ 16
    before-low k l = go caps.vertex_buffer_layout
      where
        go : (t : Bool) → cond t k attrs < 2 ^ 16
        go true = l
        go false = by-lt 16 _

    before-bits : (i : ℕ) → i < 16 → test_bit (cond caps.vertex_buffer_layout d attrs) i ≡ test_bit (cond caps.vertex_buffer_layout v.dirty_vbuf_mask attrs) i
    before-bits i l = go caps.vertex_buffer_layout refl
      where
        go : (t : Bool) → caps.vertex_buffer_layout ≡ t → test_bit (cond t d attrs) i ≡ test_bit (cond t v.dirty_vbuf_mask attrs) i
        go true e = S.bits i l (λ flat. true-false (sym e ∙ flat))
        go false e = refl

    -- an instance slot of the new pipeline that stays clean
    at : (i : ℕ) → i < 16 → Shows caps (pipeline_vertex caps p v) i → has (pipe_desc p i) ≡ true → test_bit v.by_instance i ≡ true
        → test_bit (cond caps.vertex_buffer_layout v.dirty_vbuf_mask attrs) i ≡ false
        → (t : Bool) → caps.vertex_buffer_layout ≡ t → instance_at v i ≡ n
    at i l r h b q true layout = by-pipeline o refl caps.fully_featured_instancing refl
      where
        quiet : test_bit v.dirty_vbuf_mask i ≡ false
        quiet = sym (ap (λ (t : Bool). test_bit (cond t v.dirty_vbuf_mask attrs) i) layout) ∙ q

        by-pipeline : (x : Option RenderPipeline) → o ≡ x → (f : Bool) → caps.fully_featured_instancing ≡ f → instance_at v i ≡ n
        by-pipeline None e f g = let z = S.unpiped layout e in z.1 i l ∙ sym z.0
        by-pipeline (Some q) e true g = let z = S.full g in z.1 i l ∙ sym z.0
        by-pipeline (Some q) e false g =
            let k = sym (described-is q i) ∙ sym (E layout g q e i l) ∙ described-is p i ∙ h in
            S.number i l (λ flat. true-false (sym layout ∙ flat)) (S.piped layout q e i l k b) quiet
    at i l r h b q false flat =
        true-false
        (sym (sym (ap (λ (t : Bool). among i (slots_of (take (cond t v.attribute_count p.vertex_attribute_count) (cond t v.attributes p.vertex_attributes)))) flat) ∙ r flat)
        ∙ sym (by-at 16 (λ i. among i (slots_of (attributes_in p))) i l)
        ∙ sym (ap (λ (t : Bool). test_bit (cond t v.dirty_vbuf_mask attrs) i) flat)
        ∙ q)
