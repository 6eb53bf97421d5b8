-- A text as bytes, which are ASCII codes. Definitions only.
use Rattle.std.specs.Prelude.{ℕ, List, [], ◌∷◌}
use Prim.Native.Char.{code}
use Prim.Native.String.{String, [] as empty, ◌∷◌ as ◌∷ₛ◌}

-- a text's bytes
abbrev pub ascii : String → List ℕ
ascii empty = []
ascii (c ∷ₛ s) = code c ∷ ascii s
