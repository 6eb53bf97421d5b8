-- A function over the elements of a list, one after the other, each with its place. Definitions only.
use Rattle.std.specs.Prelude.{List, [], ◌∷◌, ℕ, suc, ◌-◌, take, drop}

-- from the value a, over elements that stand at i, i + 1, ..
unfoldable pub fold_at : {A : Type 0} {X : Type 0} → (A → ℕ → X → A) → A → ℕ → List X → A
fold_at f a i [] = a
fold_at f a i (x ∷ xs) = fold_at f (f a i x) (suc i) xs

-- the elements of l from one place up to another
abbrev pub part : {X : Type 0} → List X → ℕ → ℕ → List X
part l from to = take (to - from) (drop from l)
