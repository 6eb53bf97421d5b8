-- The elements of a list that are kept. Definitions only.
use Rattle.std.specs.Prelude.{Bool, true, false, List, [], ◌∷◌, ◌++◌, length, drop}

-- an element in front, or not
abbrev pub put_if : {X : Type 0} → Bool → X → List X → List X
put_if true x xs = x ∷ xs
put_if false x xs = xs

unfoldable pub sifted : {X : Type 0} → (X → Bool) → List X → List X
sifted keep [] = []
sifted keep (x ∷ xs) = put_if (keep x) x (sifted keep xs)

-- the list with the elements ks in front, and the rest as it was
abbrev pub over : {X : Type 0} → List X → List X → List X
over ks l = ks ++ drop (length ks) l
