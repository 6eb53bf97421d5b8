-- A function of each element of a list, and of its place. Definitions only.
use Rattle.std.specs.Prelude.{List, [], ◌∷◌, ℕ, suc}

-- of elements that stand at i, i + 1, ..
unfoldable pub map_at : {X : Type 0} {Y : Type 0} → (ℕ → X → Y) → ℕ → List X → List Y
map_at f i [] = []
map_at f i (x ∷ xs) = f i x ∷ map_at f (suc i) xs
