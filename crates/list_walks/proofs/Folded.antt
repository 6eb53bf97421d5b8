-- Facts of `fold_at`.
-- Assumes nothing.
use mathlib.Core.Path.{◌≡◌, ◌∙◌, ap, sym}
use mathlib.Core.List.{List, [], ◌∷◌, ◌++◌}
use Prim.Native.Nat.{ℕ, suc, ◌+◌, ◌-◌, ◌<◌, ◌≤◌}
use native.Mathlib.Nat.{sub-zero, add-zero, add-suc, suc-add}
use native.Mathlib.Omega.{arith}
use lib.ListN.{length, take, drop, get_or, length-drop}
use lib.Seq.{take-suc, get_or-drop, length-take-le}
use Rattle.list_walks.specs.Fold.{fold_at, part}

module _ {A : Type 0} {X : Type 0} (f : A → ℕ → X → A) where
  pub fold_more : (a : A) (i : ℕ) (xs : List X) (x : X) → fold_at f a i (xs ++ (x ∷ [])) ≡ f (fold_at f a i xs) (i + length xs) x
  unfolding fold_at
  fold_more a i [] x = ap (λ (j : ℕ). f a j x) (sym (add-zero i))
  fold_more a i (y ∷ ys) x = fold_more (f a i y) (suc i) ys x ∙ ap (λ (j : ℕ). f (fold_at f (f a i y) (suc i) ys) j x) (suc-add i (length ys) ∙ sym (add-suc i (length ys)))

module _ {X : Type 0} (l : List X) (from : ℕ) where
  pub part_length : (i : ℕ) → from ≤ i → i ≤ length l → from + length (part l from i) ≡ i
  part_length i h less = omega (arith, length-take-le (i - from) (drop from l) (omega (arith, length-drop from l)))

  pub part-next : (i : ℕ) (d : X) → from ≤ i → i < length l → part l from (i + 1) ≡ part l from i ++ (get_or l i d ∷ [])
  part-next i d h less =
      let one : (i + 1) - from ≡ suc (i - from) = omega arith in
      let place : from + (i - from) ≡ i = omega arith in
      ap (λ (m : ℕ). take m (drop from l)) one ∙ take-suc (drop from l) (i - from) d (omega (arith, length-drop from l))
      ∙ ap (λ (x : X). part l from i ++ (x ∷ [])) (get_or-drop from l (i - from) d ∙ ap (λ (m : ℕ). get_or l m d) place)

  pub part_none : part l from from ≡ []
  part_none = let none : from - from ≡ 0 = omega arith in ap (λ (m : ℕ). take m (drop from l)) none

-- from the start
pub part-first : {X : Type 0} (l : List X) (n : ℕ) → part l 0 n ≡ take n l
part-first l n = ap (λ (m : ℕ). take m l) (sub-zero n)

module _ {A : Type 0} {X : Type 0} (f : A → ℕ → X → A) (a : A) (l : List X) (from : ℕ) where
  pub folded-none : fold_at f a from (part l from from) ≡ a
  unfolding fold_at
  folded-none = ap (fold_at f a from) (part_none l from)

  pub folded-next : (i : ℕ) (d : X) → from ≤ i → i < length l → fold_at f a from (part l from (i + 1)) ≡ f (fold_at f a from (part l from i)) i (get_or l i d)
  folded-next i d h less = ap (fold_at f a from) (part-next l from i d h less) ∙ fold_more f a from (part l from i) (get_or l i d) ∙ ap
      (λ (j : ℕ). f (fold_at f a from (part l from i)) j (get_or l i d)) (part_length l from i h (omega arith))

-- a loop that goes up: a is the value of the elements from `from` up to i, and it ends at `to`
module _ {A : Type 0} {X : Type 0} (f : A → ℕ → X → A) (a₀ : A) (l : List X) (from to : ℕ) where
  abbrev pub Folded : A → ℕ → Type 0
  Folded a i = (from ≤ i) × (i ≤ to) × (a ≡ fold_at f a₀ from (part l from i))

  pub folded_none : from ≤ to → Folded a₀ from
  folded_none h = (omega arith, h, sym (folded-none f a₀ l from))

  pub folded_more : (a b : A) (i : ℕ) (d : X) → Folded a i → i < to → to ≤ length l → b ≡ f a i (get_or l i d) → Folded b (i + 1)
  folded_more a b i d h less within e =
      (omega (arith, h.0), omega arith, e ∙ ap (λ (c : A). f c i (get_or l i d)) h.2 ∙ sym (folded-next f a₀ l from i d h.0 (omega arith)))

  pub folded_end : (a : A) (i : ℕ) → Folded a i → to ≤ i → a ≡ fold_at f a₀ from (part l from to)
  folded_end a i h past = let e : i ≡ to = omega (arith, h.1) in h.2 ∙ ap (λ (m : ℕ). fold_at f a₀ from (part l from m)) e

-- an element of a list that has one
pub any_of : {X : Type 0} (l : List X) (i : ℕ) → i < length l → X
any_of [] i h = absurd (omega arith)
any_of (x ∷ xs) i h = x
