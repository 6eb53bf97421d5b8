-- Each element of a list changed, by a value that goes on from one to the next. Definitions only.
use Rattle.std.specs.Prelude.{List, [], ◌∷◌, ℕ, suc}

-- of elements that stand at i, i + 1, ..
unfoldable pub map_on : {A : Type 0} {X : Type 0} → (A → ℕ → X → X) → (A → ℕ → X → A) → A → ℕ → List X → List X
map_on g f a i [] = []
map_on g f a i (x ∷ xs) = g a i x ∷ map_on g f (f a i x) (suc i) xs
