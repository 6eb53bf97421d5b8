-- What the functions that give a command by its place say. Definitions only.
use Rattle.std.specs.Prelude.{ℕ, ◌<◌, ◌≡◌, cond, List, ltb, length, get_or}

-- a number where it is below n, else 0
abbrev pub within : ℕ → ℕ → ℕ
within n t = cond (ltb t n) t 0

-- c is element k of a list that has so many
abbrev pub Stands : {A : Type 0} → A → ℕ → List A → Type 0
Stands {A} c k l = k < length l → (d : A) → c ≡ get_or l k d
