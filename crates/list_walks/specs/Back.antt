-- A function over the elements of a list, from the last to the first, each with its place. Definitions only.
use Rattle.std.specs.Prelude.{List, [], ◌∷◌, ℕ, suc}

-- the value before elements that stand at i, i + 1, .., where a is the value past them
unfoldable pub fold_back : {A : Type 0} {X : Type 0} → (A → ℕ → X → A) → A → ℕ → List X → A
fold_back f a i [] = a
fold_back f a i (x ∷ xs) = f (fold_back f a (suc i) xs) i x

-- each element changed by the value past it
unfoldable pub map_back : {A : Type 0} {X : Type 0} → (A → ℕ → X → X) → (A → ℕ → X → A) → A → ℕ → List X → List X
map_back g f a i [] = []
map_back g f a i (x ∷ xs) = g (fold_back f a (suc i) xs) i x ∷ map_back g f a (suc i) xs
