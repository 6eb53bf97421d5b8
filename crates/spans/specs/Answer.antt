-- The answer is one: the contract leaves no choice, and what it is can be worked out. Assumes nothing.
use Rattle.std.specs.Prelude.{ℕ, ◌≤◌, ◌<◌, ◌≡◌, refl, Bool, true, false, cond, ◌&&◌, ◌||◌, ltb, eqb}
use Rattle.std.proofs.Common.{sym, ap, ap₂, ◌∙◌, subst, inl, inr, arith, ne_eqb, lt-ltb, le-ltb, ltb-true, ltb-false}
use Rattle.mask.specs.Mask.{test_bit}
use Rattle.mask.specs.Laws.{ext}
use Rattle.records.specs.Check.{state_conditions}
use Rattle.records.specs.Least.{smallest-is}
use Rattle.records.specs.Outcome.{accepted, holds, number, Smallest}
use Rattle.records.specs.declared.outcome.Conditions.{Conditions}
use Rattle.records.specs.declared.outcome.Outcome.{Outcome}
use Rattle.records.specs.declared.outcome.Outcome.TheVariants.{Done, WrongPhase, TooMany, OutOfRange, Absent, WrongKind, Overflow, NoRoom}
use Rattle.records.specs.declared.pipeline.PrivateCapabilities.{PrivateCapabilities}
use Rattle.records.specs.declared.state.State.{State}
use Rattle.slots.specs.Prepare.{working}
use Rattle.calls.proofs.Judged.{bad, none-holds}
use Rattle.calls.specs.Planned.{no_rooms}
use Rattle.spans.specs.Exact.{always-exact, sometimes-exact}
use Rattle.spans.specs.Place.{always_mask, sometimes_mask, span_by}
use Rattle.spans.specs.Rebound.{low-described}
use Rattle.spans.specs.Span.{Always, Sometimes, Exactly, refusal, SpanOf, span_number, span_holds, SmallestOf}
use Rattle.spans.specs.declared.Span.{Span}
use Rattle.spans.specs.declared.Span.TheVariants.{Masks, Broken, Reversed}

-- two masks with the same slots are one
pub exactly-one : (m k : ℕ) (P : ℕ → Type 0) → Exactly m P → Exactly k P → m ≡ k
exactly-one m k P a b =
    ext 16 m k a.low b.low (λ i l. same (test_bit m i) (test_bit k i) (λ e. b.whole i (a.sound i e)) (λ e. a.whole i (b.sound i e)))
  where
    same : (s t : Bool) → (s ≡ true → t ≡ true) → (t ≡ true → s ≡ true) → s ≡ t
    same true t f g = sym (f refl)
    same false true f g = g refl
    same false false f g = refl

module _ (caps : PrivateCapabilities) (s : State) (lo hi : ℕ) where
  -- an answer that the contract allows is the one that is worked out
  pub span-by : (r : Span) → SpanOf caps s lo hi r → r ≡ span_by caps s lo hi
  span-by (Masks a b) h =
      let low = low-described s h.0 in
      rw (h.0, le-ltb hi lo h.1)
      (ap₂ Masks (exactly-one a _ (Always caps s lo hi) h.2 (always-exact caps s low lo hi h.1)) (exactly-one b _ (Sometimes caps s lo hi) h.3 (sometimes-exact caps s low lo hi h.1)))
  span-by (Broken o) h = rw h.0 (ap Broken h.1)
  span-by Reversed h = rw (h.0, lt-ltb hi lo h.1) refl

  -- and that one is allowed
  pub by_span : SpanOf caps s lo hi (span_by caps s lo hi)
  by_span = go (accepted (refusal s)) (ltb hi lo) refl refl
    where
      masks : Span
      masks = Masks (always_mask s.vertex (working caps lo) (working caps hi)) (sometimes_mask s.vertex (working caps lo) (working caps hi))

      go : (t u : Bool) → accepted (refusal s) ≡ t → ltb hi lo ≡ u → SpanOf caps s lo hi (cond t (cond u Reversed masks) (Broken (refusal s)))
      go true true p q = (p, ltb-true hi lo q)
      go true false p q =
          let low = low-described s p in
          let l = ltb-false hi lo q in
          (p, l, always-exact caps s low lo hi l, sometimes-exact caps s low lo hi l)
      go false u p q = (p, refl)

  -- the contract leaves no choice
  pub span-one : (r q : Span) → SpanOf caps s lo hi r → SpanOf caps s lo hi q → r ≡ q
  span-one r q h k = span-by r h ∙ sym (span-by q k)

  -- ---- the number of the answer is the smallest whose condition holds
  abbrev c : Conditions
  c = state_conditions s no_rooms

  late : (k n : ℕ) → k < n → n ≤ 7 → holds c k ≡ false → span_holds s lo hi k ≡ false
  late k n l m e = rw (e, ne_eqb k 15 (λ q. omega arith)) refl

  -- none of a state that is not broken
  none : accepted (refusal s) ≡ true → (k : ℕ) → holds c k ≡ false
  none e k =
      let n = none-holds c e in
      rw (n.phase, n.many, n.range, n.absent, n.kind, n.sum, n.room) (all (eqb k 1) (eqb k 2) (eqb k 3) (eqb k 4) (eqb k 5) (eqb k 6) (eqb k 7))
    where
      off : (t : Bool) → t && false ≡ false
      off true = refl
      off false = refl

      all : (t u v w x y z : Bool) → (t && false) || ((u && false) || ((v && false) || ((w && false) || ((x && false) || ((y && false) || (z && false)))))) ≡ false
      all t u v w x y z = rw (off t, off u, off v, off w, off x, off y, off z) refl

  small : (o : Outcome) → number o ≤ 7
  small Done = omega arith
  small WrongPhase = omega arith
  small TooMany = omega arith
  small OutOfRange = omega arith
  small Absent = omega arith
  small WrongKind = omega arith
  small Overflow = omega arith
  small NoRoom = omega arith

  zero-done : (o : Outcome) → number o ≡ 0 → accepted o ≡ true
  zero-done Done e = refl
  zero-done WrongPhase e = absurd (omega arith)
  zero-done TooMany e = absurd (omega arith)
  zero-done OutOfRange e = absurd (omega arith)
  zero-done Absent e = absurd (omega arith)
  zero-done WrongKind e = absurd (omega arith)
  zero-done Overflow e = absurd (omega arith)
  zero-done NoRoom e = absurd (omega arith)

  pub numbers : (r : Span) → SpanOf caps s lo hi r → SmallestOf s lo hi (span_number r)
  numbers (Masks a b) h = inr (refl, λ k. rw (none h.0 k, le-ltb hi lo h.1) (off (eqb k 15)))
    where
      off : (t : Bool) → t && false ≡ false
      off true = refl
      off false = refl
  numbers (Broken o) h = go (subst (λ (p : Outcome). Smallest c (number p)) (sym h.1) (smallest-is c))
    where
      go : Smallest c (number o) → SmallestOf s lo hi (number o)
      go (inl x) = inl (rw x.0 refl, λ k l. late k (number o) l (small o) (x.1 k l))
      go (inr x) = bad (sym h.0 ∙ ap accepted (sym h.1) ∙ zero-done o x.0)
  numbers Reversed h = inl (rw (lt-ltb hi lo h.1) refl, λ k l. rw (none h.0 k, ne_eqb k 15 (λ q. omega arith)) refl)
