-- A draw rebinds slot i exactly where bit i of the mask `rebound` is set. Assumes nothing.
use Rattle.std.specs.Prelude.{ℕ, ◌^◌, ◌<◌, ◌≡◌, Bool, not, ◌&&◌, ◌||◌, ◌⊎◌, ltb, leb}
use Rattle.std.proofs.Math.Path.{refl, sym}
use Rattle.std.proofs.Common.{ap, ◌∙◌, subst, arith, eq-eqb, eqb-true, ltb-true, ltb-false, leb-false}
use Rattle.std.proofs.Math.Bool.{true, false}
use mathlib.Core.List.{List, [], ◌∷◌, ◌++◌, map}
use Rattle.std.proofs.Math.Logic.{inl, inr}
use Rattle.std.specs.Int.Bits.{bit_and}
use Rattle.std.proofs.lemmas.Nat.{and_comm}
use Rattle.std.proofs.Math.Dec.{eqb}
use Rattle.mask.specs.Mask.{test_bit, places}
use Rattle.mask.specs.Laws.{test-or, test-and, test-beyond, and_lt}
use Rattle.mask.specs.By.{by-at}
use Rattle.records.specs.Check.{some?, among, bad_mask, bad_masks, bad_attribute, bad_units, bad_descriptor, bad_resolve, attributes_of, descriptors_of, resolves_of, state_conditions}
use Rattle.records.specs.Outcome.{accepted}
use Rattle.records.specs.declared.command.Command.{Command}
use Rattle.records.specs.declared.command.Command.TheVariants.{SetVertexBuffer}
use Rattle.records.specs.declared.command.BufferBinding.{BufferBinding}
use Rattle.records.specs.declared.command.VertexBufferDesc.{VertexBufferDesc}
use Rattle.records.specs.declared.pipeline.PrivateCapabilities.{PrivateCapabilities}
use Rattle.records.specs.declared.state.State.{State}
use Rattle.records.specs.declared.state.VertexState.{VertexState}
use Rattle.slots.specs.Vertex.{instance_at}
use Rattle.slots.specs.Places.{among-places, none-past}
use Rattle.slots.specs.Prepare.{working, moved, woken, rebound, buffer_command, buffer_commands}
use Rattle.calls.proofs.Judged.{bad, none-holds}
use Rattle.calls.specs.Planned.{no_rooms}
use Rattle.spans.specs.Place.{wakes}
use Rattle.spans.specs.Span.{StandsIn, Binds, Rebinds, refusal}

-- a place of a mask lies below 32
below-32 : (m i : ℕ) → among i (places m) ≡ true → i < 32
below-32 m i e = go (ltb i 32) refl
  where
    go : (t : Bool) → ltb i 32 ≡ t → i < 32
    go true q = ltb-true i 32 q
    go false q = bad (sym (none-past m i (ltb-false i 32 q)) ∙ e)

-- ---- what a draw records: the buffers of the slots, then its own command
module _ (v : VertexState) (w : ℕ) where
  in_map : (i : ℕ) (b : BufferBinding) (d : VertexBufferDesc) (ks : List ℕ) (l : List Command) → StandsIn (SetVertexBuffer i b d) (map (buffer_command v w) ks ++ l)
      → (among i ks ≡ true) ⊎ StandsIn (SetVertexBuffer i b d) l
  unfolding among
  in_map i b d [] l h = inr h
  in_map i b d (k ∷ ks) l (inl e) = let q : i ≡ k = cc in inl (rw (eq-eqb i k q))
  in_map i b d (k ∷ ks) l (inr h) = go (in_map i b d ks l h)
    where
      more : (s t : Bool) → t ≡ true → s || t ≡ true
      more true t e = refl
      more false t e = e

      go : (among i ks ≡ true) ⊎ StandsIn (SetVertexBuffer i b d) l → (eqb i k || among i ks ≡ true) ⊎ StandsIn (SetVertexBuffer i b d) l
      go (inl e) = inl (more (eqb i k) (among i ks) e)
      go (inr x) = inr x

  from-map : (i : ℕ) (ks : List ℕ) (l : List Command) → among i ks ≡ true → StandsIn (buffer_command v w i) (map (buffer_command v w) ks ++ l)
  unfolding among
  from-map i [] l e = bad e
  from-map i (k ∷ ks) l e = go (eqb i k) refl e (from-map i ks l)
    where
      go : (t : Bool) → eqb i k ≡ t → t || among i ks ≡ true → (among i ks ≡ true → StandsIn (buffer_command v w i) (map (buffer_command v w) ks ++ l))
          → (buffer_command v w i ≡ buffer_command v w k) ⊎ StandsIn (buffer_command v w i) (map (buffer_command v w) ks ++ l)
      go true q p ih = inl (ap (buffer_command v w) (eqb-true i k q))
      go false q p ih = inr (ih p)

  -- the draw's own command binds no buffer
  pub bound-bit : (i : ℕ) (own : Command) → ((b : BufferBinding) (d : VertexBufferDesc) → SetVertexBuffer i b d ≡ own → ⊥)
      → Binds i (buffer_commands v w ++ (own ∷ [])) → (i < 32) × (test_bit (rebound v w) i ≡ true)
  unfolding buffer_commands
  bound-bit i own other (b, d, h) = go (in_map i b d (places (rebound v w)) (own ∷ []) h)
    where
      go : (among i (places (rebound v w)) ≡ true) ⊎ StandsIn (SetVertexBuffer i b d) (own ∷ []) → (i < 32) × (test_bit (rebound v w) i ≡ true)
      go (inl e) = let l = below-32 (rebound v w) i e in (l, sym (among-places (rebound v w) i l) ∙ e)
      go (inr (inl e)) = absurd (other b d e)
      go (inr (inr x)) = absurd x

  pub bit-bound : (i : ℕ) (l : List Command) → i < 32 → test_bit (rebound v w) i ≡ true → Binds i (buffer_commands v w ++ l)
  unfolding buffer_commands
  bit-bound i l h e = (_, _, from-map i (places (rebound v w)) l (among-places (rebound v w) i h ∙ e))

-- ---- a state that is not broken has no slot from 16 on
pub low-described : (s : State) → accepted (refusal s) ≡ true → s.vertex.described < 2 ^ 16
low-described s e =
    let n = none-holds (state_conditions s no_rooms) e in
    let units = bad_units s.bind.sampled 0 s.bind.texture_slots in
    let m = last (some? bad_attribute (attributes_of s)) units (some? bad_descriptor (descriptors_of s)) (some? bad_resolve (resolves_of s)) (bad_masks s) n.range in
    leb-false (2 ^ 16) s.vertex.described (first (bad_mask s.vertex.described) rest m)
  where
    rest : Bool
    rest =
        bad_mask s.vertex.bound
        || (bad_mask s.vertex.by_instance
        || (bad_mask s.vertex.instance_vbuf_mask
        || (bad_mask s.vertex.dirty_vbuf_mask
        || (bad_mask s.bind.sampler_set
        || (bad_mask s.bind.sampled
        || leb (2 ^ 10) s.pass.invalidate_attachments)))))

    first : (t u : Bool) → t || u ≡ false → t ≡ false
    first true u q = q
    first false u q = refl

    last : (a b c d m : Bool) → a || (b || (c || (d || m))) ≡ false → m ≡ false
    last true b c d m q = bad (sym q)
    last false true c d m q = bad (sym q)
    last false false true d m q = bad (sym q)
    last false false false true m q = bad (sym q)
    last false false false false m q = q

module _ (caps : PrivateCapabilities) (s : State) (low : s.vertex.described < 2 ^ 16) where
  abbrev v : VertexState
  v = s.vertex

  abbrev at : ℕ → ℕ
  at n = working caps n

  rebound-low : (n : ℕ) → rebound v (at n) < 2 ^ 16
  rebound-low n =
      subst (λ (x : ℕ). x < 2 ^ 16) (and_comm v.bound (bit_and (woken v (at n)) v.described))
      (and_lt 16 v.bound (bit_and (woken v (at n)) v.described) (and_lt 16 (woken v (at n)) v.described low))

  pub low-place : (n i : ℕ) → test_bit (rebound v (at n)) i ≡ true → i < 16
  low-place n i e = go (ltb i 16) refl
    where
      go : (t : Bool) → ltb i 16 ≡ t → i < 16
      go true q = ltb-true i 16 q
      go false q = bad (sym (test-beyond 16 (rebound v (at n)) i (rebound-low n) (ltb-false i 16 q)) ∙ e)

  pub rebinds : (n i : ℕ) → Rebinds caps s n i → test_bit (rebound v (at n)) i ≡ true
  rebinds n i h = (bound-bit v (at n) i _ (λ b d e. let z : ◌≡◌ {A = ℕ} 0 1 = cc in omega arith) h).1

  pub rebound-so : (n i : ℕ) → test_bit (rebound v (at n)) i ≡ true → Rebinds caps s n i
  rebound-so n i e = let l = low-place n i e in bit-bound v (at n) i _ (omega arith) e

  -- a rebound slot, by what the state says of it
  pub bit_is : (n i : ℕ) → i < 16 → test_bit (rebound v (at n)) i ≡ wakes v (not (eqb (at n) (instance_at v i))) i
  bit_is n i l =
      test-and (bit_and (woken v (at n)) v.described) v.bound i
      ∙ ap (λ (x : Bool). x && test_bit v.bound i)
      (test-and (woken v (at n)) v.described i
      ∙ ap (λ (x : Bool). x && test_bit v.described i)
      (test-or v.dirty_vbuf_mask (moved v (at n)) i
      ∙ ap (λ (x : Bool). test_bit v.dirty_vbuf_mask i || x)
      (by-at 16 (λ j. test_bit v.instance_vbuf_mask j && not (eqb (at n) (instance_at v j))) i l)))
