-- A machine that reads two lists: a turn reads the element of each at which the machine stands. Definitions only.
use Rattle.std.specs.Prelude.{List, ℕ, zero, suc, get_or}

-- n turns
unfoldable pub turns : {A : Type 0} → (A → A) → ℕ → A → A
turns f zero a = a
turns f (suc n) a = f (turns f n a)

-- a turn over two lists: past the end of a list the element is d
abbrev pub reading : {A : Type 0} {X : Type 0} → (A → ℕ) → (A → ℕ) → (A → X → X → A) → List X → List X → X → A → A
reading at_a at_b turn xs ys d m = turn m (get_or xs (at_a m) d) (get_or ys (at_b m) d)
