-- The two masks by place are exact against the draw. Assumes nothing.
-- A slot that is not dirty is rebound for n where the working instance of n is not its own number, and that instance goes up with n:
-- no number of the span gives the own number where it lies outside; some number does not give it where one end does not.
use Rattle.std.specs.Prelude.{ℕ, ◌^◌, ◌≤◌, ◌<◌, ◌≡◌, refl, Bool, true, false, cond, not, ◌&&◌, ◌||◌, ltb, eqb}
use Rattle.std.proofs.Common.{sym, ap, ◌∙◌, le_refl, arith, eq-eqb, ne_eqb, eqb-true, ltb-true, ltb-false}
use Rattle.mask.specs.Mask.{test_bit}
use Rattle.mask.specs.By.{mask_by, by-at, by-lt, by-beyond}
use Rattle.records.specs.declared.pipeline.PrivateCapabilities.{PrivateCapabilities}
use Rattle.records.specs.declared.state.State.{State}
use Rattle.records.specs.declared.state.VertexState.{VertexState}
use Rattle.slots.specs.Vertex.{instance_at}
use Rattle.slots.specs.Prepare.{working}
use Rattle.calls.proofs.Judged.{bad}
use Rattle.spans.specs.Place.{outside, apart, wakes, always_mask, sometimes_mask}
use Rattle.spans.specs.Rebound.{low-place, rebinds, rebound-so, bit_is}
use Rattle.spans.specs.Span.{Rebinds, Always, Sometimes, Exactly}

-- a place of such a mask lies below 16, and the function holds there
low-16 : (f : ℕ → Bool) (i : ℕ) → test_bit (mask_by 16 f) i ≡ true → (i < 16) × (f i ≡ true)
low-16 f i e = go (ltb i 16) refl
  where
    go : (t : Bool) → ltb i 16 ≡ t → (i < 16) × (f i ≡ true)
    go true q = let l = ltb-true i 16 q in (l, sym (by-at 16 f i l) ∙ e)
    go false q = bad (sym (by-beyond 16 f i (ltb-false i 16 q)) ∙ e)

-- more wakes where more moves
more-wakes : (v : VertexState) (p q : Bool) (i : ℕ) → (p ≡ true → q ≡ true) → wakes v p i ≡ true → wakes v q i ≡ true
more-wakes v p q i h e = go (test_bit v.dirty_vbuf_mask i) (test_bit v.instance_vbuf_mask i) p (test_bit v.described i) (test_bit v.bound i) h e
  where
    go : (a b p d c : Bool) → (p ≡ true → q ≡ true) → ((a || (b && p)) && d) && c ≡ true → ((a || (b && q)) && d) && c ≡ true
    go true b p d c h e = e
    go false true true d c h e = rw (h refl) e
    go false true false d c h e = bad e
    go false false p d c h e = e

module _ (caps : PrivateCapabilities) (s : State) (low : s.vertex.described < 2 ^ 16) (lo hi : ℕ) (order : lo ≤ hi) where
  abbrev v : VertexState
  v = s.vertex

  abbrev at : ℕ → ℕ
  at n = working caps n

  -- the number of slot i
  abbrev own : ℕ → ℕ
  own i = instance_at v i

  abbrev differs : ℕ → ℕ → Bool
  differs i n = not (eqb (at n) (own i))

  -- a number of the span with the property P
  abbrev Some : (ℕ → Type 0) → Type 0
  Some P = (n : ℕ) × (lo ≤ n) × (n ≤ hi) × P n

  -- where the slot wakes for n, n rebinds it, and the other way round
  wakes-so : (n i : ℕ) → i < 16 → wakes v (differs i n) i ≡ true → Rebinds caps s n i
  wakes-so n i l e = rebound-so caps s low n i (bit_is caps s low n i l ∙ e)

  so-wakes : (n i : ℕ) → i < 16 → Rebinds caps s n i → wakes v (differs i n) i ≡ true
  so-wakes n i l h = sym (bit_is caps s low n i l) ∙ rebinds caps s low n i h

  below-16 : (n i : ℕ) → Rebinds caps s n i → i < 16
  below-16 n i h = low-place caps s low n i (rebinds caps s low n i h)

  -- ---- the span of working instances
  between : (n : ℕ) → lo ≤ n → n ≤ hi → (at lo ≤ at n) × (at n ≤ at hi)
  between n a b = go caps.fully_featured_instancing
    where
      go : (t : Bool) → (cond t 0 lo ≤ cond t 0 n) × (cond t 0 n ≤ cond t 0 hi)
      go true = (le_refl 0, le_refl 0)
      go false = (a, b)

  -- each working instance between the ends is that of a number
  reach : (x : ℕ) → at lo ≤ x → x ≤ at hi → Some (λ n. at n ≡ x)
  reach x a b = go caps.fully_featured_instancing refl a b
    where
      go : (t : Bool) → caps.fully_featured_instancing ≡ t → cond t 0 lo ≤ x → x ≤ cond t 0 hi → Some (λ n. at n ≡ x)
      go true e p q = (lo, le_refl lo, order, ap (λ (t : Bool). cond t 0 lo) e ∙ omega arith)
      go false e p q = (x, p, q, ap (λ (t : Bool). cond t 0 x) e)

  -- ---- every number
  outside-differs : (n i : ℕ) → lo ≤ n → n ≤ hi → outside v (at lo) (at hi) i ≡ true → differs i n ≡ true
  outside-differs n i a b e = ap not (ne_eqb (at n) (own i) (λ q. go (ltb (own i) (at lo)) (ltb (at hi) (own i)) refl refl e (between n a b) q))
    where
      go : (s t : Bool) → ltb (own i) (at lo) ≡ s → ltb (at hi) (own i) ≡ t → s || t ≡ true → (at lo ≤ at n) × (at n ≤ at hi) → at n ≡ own i → ⊥
      go true t p r e w q = let l = ltb-true (own i) (at lo) p in omega (arith, w.0)
      go false true p r e w q = let l = ltb-true (at hi) (own i) r in omega (arith, w.1)
      go false false p r e w q = bad e

  inside-reached : (i : ℕ) → outside v (at lo) (at hi) i ≡ false → Some (λ n. at n ≡ own i)
  inside-reached i e = go (ltb (own i) (at lo)) (ltb (at hi) (own i)) refl refl e
    where
      go : (s t : Bool) → ltb (own i) (at lo) ≡ s → ltb (at hi) (own i) ≡ t → s || t ≡ false → Some (λ n. at n ≡ own i)
      go true t p r e = bad (sym e)
      go false true p r e = bad (sym e)
      go false false p r e = reach (own i) (ltb-false (own i) (at lo) p) (ltb-false (at hi) (own i) r)

  always-wakes : (i : ℕ) → i < 16 → Always caps s lo hi i → (t : Bool) → outside v (at lo) (at hi) i ≡ t → wakes v t i ≡ true
  always-wakes i l h true q = more-wakes v (differs i lo) true i (λ x. refl) (so-wakes lo i l (h lo (le_refl lo) order))
  always-wakes i l h false q =
      let x = inside-reached i q in
      sym (ap (λ (t : Bool). wakes v (not t) i) (eq-eqb (at x.0) (own i) x.3)) ∙ so-wakes x.0 i l (h x.0 x.1 x.2)

  pub always-exact : Exactly (always_mask v (at lo) (at hi)) (Always caps s lo hi)
  always-exact =
      record {
        low = by-lt 16 (λ i. wakes v (outside v (at lo) (at hi) i) i);
        sound = λ i e n a b.
            let f = low-16 (λ i. wakes v (outside v (at lo) (at hi) i) i) i e in
            wakes-so n i f.0 (more-wakes v (outside v (at lo) (at hi) i) (differs i n) i (outside-differs n i a b) f.1);
        whole = λ i h.
            let l = below-16 lo i (h lo (le_refl lo) order) in
            by-at 16 (λ i. wakes v (outside v (at lo) (at hi) i) i) i l ∙ always-wakes i l h (outside v (at lo) (at hi) i) refl;
      }

  -- ---- at least one number
  apart_some : (i : ℕ) → apart v (at lo) (at hi) i ≡ true → Some (λ n. differs i n ≡ true)
  apart_some i e = go (eqb (at lo) (own i)) (eqb (at hi) (own i)) refl refl e
    where
      go : (s t : Bool) → eqb (at lo) (own i) ≡ s → eqb (at hi) (own i) ≡ t → not (s && t) ≡ true → Some (λ n. differs i n ≡ true)
      go true true p r e = bad e
      go true false p r e = (hi, order, le_refl hi, ap not r)
      go false t p r e = (lo, le_refl lo, order, ap not p)

  differs-apart : (n i : ℕ) → lo ≤ n → n ≤ hi → differs i n ≡ true → apart v (at lo) (at hi) i ≡ true
  differs-apart n i a b e = go (eqb (at lo) (own i)) (eqb (at hi) (own i)) refl refl (between n a b)
    where
      go : (s t : Bool) → eqb (at lo) (own i) ≡ s → eqb (at hi) (own i) ≡ t → (at lo ≤ at n) × (at n ≤ at hi) → not (s && t) ≡ true
      go true true p r w =
          let x = eqb-true (at lo) (own i) p in
          let y = eqb-true (at hi) (own i) r in
          let z : at n ≡ own i = omega (arith, w.0, w.1) in
          bad (sym (ap not (eq-eqb (at n) (own i) z)) ∙ e)
      go true false p r w = refl
      go false t p r w = refl

  wakes-some : (i : ℕ) → i < 16 → (t : Bool) → apart v (at lo) (at hi) i ≡ t → wakes v t i ≡ true → Sometimes caps s lo hi i
  wakes-some i l true q e = let x = apart_some i q in (x.0, x.1, x.2, wakes-so x.0 i l (more-wakes v true (differs i x.0) i (λ y. x.3) e))
  wakes-some i l false q e = (lo, le_refl lo, order, wakes-so lo i l (more-wakes v false (differs i lo) i (λ y. bad y) e))

  pub sometimes-exact : Exactly (sometimes_mask v (at lo) (at hi)) (Sometimes caps s lo hi)
  sometimes-exact =
      record {
        low = by-lt 16 (λ i. wakes v (apart v (at lo) (at hi) i) i);
        sound = λ i e. let f = low-16 (λ i. wakes v (apart v (at lo) (at hi) i) i) i e in wakes-some i f.0 (apart v (at lo) (at hi) i) refl f.1;
        whole = λ i h.
            let l = below-16 h.0 i h.3 in
            by-at 16 (λ i. wakes v (apart v (at lo) (at hi) i) i) i l
            ∙ more-wakes v (differs i h.0) (apart v (at lo) (at hi) i) i (differs-apart h.0 i h.1 h.2) (so-wakes h.0 i l h.3);
      }
