-- Words as bytes, the lowest first: document 01, "Words go to the marker bytes little-endian". Definitions only.
use Rattle.std.specs.Prelude.{ℕ, ◌/◌, ◌%◌, ◌^◌, List, [], ◌∷◌, ◌++◌}

-- the four bytes of a word
abbrev pub little_endian : ℕ → List ℕ
little_endian w = (w % 256) ∷ (w / 2 ^ 8 % 256) ∷ (w / 2 ^ 16 % 256) ∷ (w / 2 ^ 24 % 256) ∷ []

-- the bytes of a list of words
unfoldable pub bytes_of : List ℕ → List ℕ
bytes_of [] = []
bytes_of (w ∷ ws) = little_endian w ++ bytes_of ws
