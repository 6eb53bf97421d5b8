-- The attributes gone through from the last to the first, without layouts. Assumes nothing.
-- `swept-count`, `swept-slots`, `swept-over`: what it finds is what `Prepare` says of the attributes sent.
use Rattle.std.specs.Prelude.{ℕ, ◌+◌, ◌^◌, ◌<◌, ◌≤◌, ◌≡◌, Bool, cond, ◌||◌, ltb}
use Rattle.std.proofs.Math.Path.{refl, ap}
use Rattle.std.proofs.Common.{◌∙◌, arith}
use Rattle.std.proofs.Math.Bool.{true, false}
use mathlib.Core.List.{List, [], ◌∷◌}
use Rattle.std.proofs.Math.Dec.{eqb}
use Rattle.std.proofs.Math.ListN.{length}
use borrow.Author.Tests.{ltb-true, ltb-false, ne_eqb}
use Rattle.mask.specs.Mask.{test_bit, set_bit_if}
use Rattle.mask.specs.Laws.{test_zero}
use Rattle.mask.specs.By.{mask_by, by-is, test-set-if, set-if-lt}
use Rattle.records.specs.Check.{some?, among}
use Rattle.records.specs.declared.command.AttributeDesc.{AttributeDesc}
use Rattle.records.specs.declared.state.VertexState.{VertexState}
use Rattle.slots.specs.declared.prepare.Sweep.{Sweep}
use Rattle.slots.specs.Prepare.{sent_of, slots_of, attribute_over}

-- one attribute more, before those gone through: sent or passed over
abbrev pub sweep_if : Bool → VertexState → ℕ → Sweep → AttributeDesc → Sweep
sweep_if true v w s a =
    record {
      count = s.count + 1;
      slots = set_bit_if (ltb a.buffer_index 16) s.slots a.buffer_index;
      over = attribute_over v w a || s.over;
    }
sweep_if false v w s a = s

unfoldable pub sweep_one : ℕ → VertexState → ℕ → Sweep → AttributeDesc → Sweep
sweep_one m v w s a = sweep_if (test_bit m a.buffer_index) v w s a

unfoldable pub swept : ℕ → VertexState → ℕ → List AttributeDesc → Sweep
swept m v w [] = record { count = 0; slots = 0; over = false }
swept m v w (a ∷ l) = sweep_one m v w (swept m v w l) a

pub sweep-more : (m : ℕ) (v : VertexState) (w : ℕ) (s : Sweep) (a : AttributeDesc) → (sweep_one m v w s a).count ≤ s.count + 1
unfolding sweep_one
sweep-more m v w s a = go (test_bit m a.buffer_index)
  where
    go : (t : Bool) → (sweep_if t v w s a).count ≤ s.count + 1
    go true = omega arith
    go false = omega arith

module _ (m : ℕ) (v : VertexState) (w : ℕ) where
  abbrev sending : List AttributeDesc → List AttributeDesc
  sending l = sent_of m l

  pub swept-count : (l : List AttributeDesc) → (swept m v w l).count ≡ length (sending l)
  unfolding swept sweep_one sent_of
  swept-count [] = refl
  swept-count (a ∷ l) = go (test_bit m a.buffer_index) (swept-count l)
    where
      go : (t : Bool) → (swept m v w l).count ≡ length (sending l)
          → (sweep_if t v w (swept m v w l) a).count ≡ length (cond t (a ∷ sending l) (sending l))
      go true e = omega (arith, e)
      go false e = e

  pub swept-over : (l : List AttributeDesc) → (swept m v w l).over ≡ some? (attribute_over v w) (sending l)
  unfolding swept sweep_one sent_of some?
  swept-over [] = refl
  swept-over (a ∷ l) = go (test_bit m a.buffer_index) (swept-over l)
    where
      go : (t : Bool) → (swept m v w l).over ≡ some? (attribute_over v w) (sending l)
          → (sweep_if t v w (swept m v w l) a).over ≡ some? (attribute_over v w) (cond t (a ∷ sending l) (sending l))
      go true e = ap (λ (b : Bool). attribute_over v w a || b) e
      go false e = e

  -- the slots are those of the attributes sent, below 16
  record Slots (n : ℕ) (l : List AttributeDesc) : Type 0 where
    fits : n < 2 ^ 16
    places : (i : ℕ) → i < 16 → test_bit n i ≡ among i (slots_of l)

  slots-more : (n : ℕ) (l : List AttributeDesc) (a : AttributeDesc) (t : Bool) → ltb a.buffer_index 16 ≡ t → Slots n l
      → Slots (set_bit_if t n a.buffer_index) (a ∷ l)
  unfolding set_bit_if among
  slots-more n l a true e s =
      record {
        fits = set-if-lt true 16 n a.buffer_index s.fits (ltb-true a.buffer_index 16 e) (omega arith);
        places =
            λ i h.
            test-set-if true n i a.buffer_index (omega (arith, ltb-true a.buffer_index 16 e))
            ∙ ap (λ (b : Bool). b || eqb i a.buffer_index) (s.places i h)
            ∙ swap (among i (slots_of l)) (eqb i a.buffer_index);
      }
    where
      swap : (p q : Bool) → p || q ≡ q || p
      swap true true = refl
      swap true false = refl
      swap false true = refl
      swap false false = refl
  slots-more n l a false e s =
      record {
        fits = s.fits;
        places = λ i h. s.places i h ∙ apart i h;
      }
    where
      apart : (i : ℕ) → i < 16 → among i (slots_of l) ≡ eqb i a.buffer_index || among i (slots_of l)
      apart i h = rw (ne_eqb i a.buffer_index (λ q. absurd (omega (arith, q, ltb-false a.buffer_index 16 e))))

  swept-places : (l : List AttributeDesc) → Slots (swept m v w l).slots (sending l)
  unfolding swept sweep_one sent_of among
  swept-places [] = record { fits = omega arith; places = λ i h. test_zero i }
  swept-places (a ∷ l) = go (test_bit m a.buffer_index) (swept-places l)
    where
      go : (t : Bool) → Slots (swept m v w l).slots (sending l)
          → Slots (sweep_if t v w (swept m v w l) a).slots (cond t (a ∷ sending l) (sending l))
      go true s = slots-more (swept m v w l).slots (sending l) a (ltb a.buffer_index 16) refl s
      go false s = s

  pub swept-slots : (l : List AttributeDesc) → (swept m v w l).slots ≡ mask_by 16 (λ i. among i (slots_of (sending l)))
  swept-slots l = by-is 16 (swept m v w l).slots (λ i. among i (slots_of (sending l))) (swept-places l).fits (swept-places l).places
