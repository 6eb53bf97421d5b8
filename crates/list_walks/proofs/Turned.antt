-- Facts of `turns`.
-- Assumes nothing.
use mathlib.Core.Path.{◌≡◌, refl, ◌∙◌, ap, ap₂, sym}
use mathlib.Core.List.{List}
use Prim.Native.Nat.{ℕ, ◌+◌, ◌<◌, ◌≤◌}
use native.Mathlib.Numerals.{add-one}
use native.Mathlib.Omega.{arith}
use lib.ListN.{get_or}
use Rattle.list_walks.specs.Turns.{turns, reading}

pub turns-none : {A : Type 0} (f : A → A) (a : A) → turns f 0 a ≡ a
unfolding turns
turns-none f a = refl

pub turns-more : {A : Type 0} (f : A → A) (n : ℕ) (a : A) → turns f (n + 1) a ≡ f (turns f n a)
unfolding turns
turns-more f n a = ap (λ (m : ℕ). turns f m a) (add-one n)

-- a loop of n turns over two lists: m stands after i of them
pub record Turned {A : Type 0} {X : Type 0} (at_a at_b : A → ℕ) (turn : A → X → X → A) (xs ys : List X) (d : X) (n : ℕ) (m₀ m : A) (i : ℕ) : Type 0 where
  pub upto : i ≤ n
  pub is : m ≡ turns (reading at_a at_b turn xs ys d) i m₀

module _ {A : Type 0} {X : Type 0} (at_a at_b : A → ℕ) (turn : A → X → X → A) (xs ys : List X) (d : X) (n : ℕ) (m₀ : A) where
  pub turned_none : Turned at_a at_b turn xs ys d n m₀ m₀ 0
  turned_none = record { upto = omega arith; is = sym (turns-none (reading at_a at_b turn xs ys d) m₀) }

  -- x and y are read at p and q
  pub turned_more : (m : A) (i p q : ℕ) (x y : X) (next : A) → Turned at_a at_b turn xs ys d n m₀ m i → i < n
      → p ≡ at_a m → x ≡ get_or xs p d → q ≡ at_b m → y ≡ get_or ys q d → next ≡ turn m x y → Turned at_a at_b turn xs ys d n m₀ next (i + 1)
  turned_more m i p q x y next h less e-p e-x e-q e-y e =
      record {
        upto = omega arith;
        is =
            e ∙ ap₂ (turn m) (e-x ∙ ap (λ (k : ℕ). get_or xs k d) e-p) (e-y ∙ ap (λ (k : ℕ). get_or ys k d) e-q)
            ∙ ap (reading at_a at_b turn xs ys d) h.is ∙ sym (turns-more (reading at_a at_b turn xs ys d) i m₀);
      }

  pub turned_end : (m : A) (i : ℕ) → Turned at_a at_b turn xs ys d n m₀ m i → n ≤ i → m ≡ turns (reading at_a at_b turn xs ys d) n m₀
  turned_end m i h past = let e : i ≡ n = omega (arith, h.upto) in h.is ∙ ap (λ (k : ℕ). turns (reading at_a at_b turn xs ys d) k m₀) e
