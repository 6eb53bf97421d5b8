-- Orders of places: document 02, request 10, "beginning with the given one and going on by place numbers in dictionary order". Definitions only.
use Rattle.std.specs.Prelude.{ℕ, zero, suc, ◌+◌, ◌*◌, ◌<◌, ◌≡◌, cond, List, [], ◌∷◌, ◌++◌, map, ◌⊎◌, eqb, ltb}

-- how often k stands in a list
unfoldable pub count : ℕ → List ℕ → ℕ
count k [] = 0
count k (x ∷ xs) = cond (eqb k x) 1 0 + count k xs

-- an order of n pieces: each place below n stands in it once, and nothing else
abbrev pub Order : ℕ → List ℕ → Type 0
Order n o = (k : ℕ) → count k o ≡ cond (ltb k n) 1 0

-- i, i + 1, .. : n of them
unfoldable pub from : ℕ → ℕ → List ℕ
from i zero = []
from i (suc n) = i ∷ from (suc i) n

-- the given order
abbrev pub given : ℕ → List ℕ
given n = from 0 n

-- an element of a list, and the rest of the list
pub record Pick : Type 0 where
  pub one : ℕ
  pub rest : List ℕ

abbrev pub before : ℕ → Pick → Pick
before x p = record { one = p.one; rest = x ∷ p.rest }

-- each element in turn, with the rest
unfoldable pub picks : List ℕ → List Pick
picks [] = []
picks (x ∷ xs) = record { one = x; rest = xs } ∷ map (before x) (picks xs)

-- the lists that f makes of each element, one after the other
unfoldable pub each : {A B : Type 0} → (A → List B) → List A → List B
each f [] = []
each f (a ∷ l) = f a ++ each f l

-- all orders of a list of n elements: each element in turn goes first, before each order of the rest
unfoldable pub arranged : ℕ → List ℕ → List (List ℕ)
arranged zero xs = [] ∷ []
arranged (suc n) xs = each (λ (p : Pick). map (λ (o : List ℕ). p.one ∷ o) (arranged n p.rest)) (picks xs)

-- the orders of n pieces
abbrev pub orders : ℕ → List (List ℕ)
orders n = arranged n (given n)

-- how many they are
unfoldable pub factorial : ℕ → ℕ
factorial zero = 1
factorial (suc n) = suc n * factorial n

-- dictionary order by place numbers
abbrev pub Earlier : List ℕ → List ℕ → Type 0
Earlier [] ys = ⊥
Earlier (x ∷ xs) [] = ⊥
Earlier (x ∷ xs) (y ∷ ys) = (x < y) ⊎ ((x ≡ y) × Earlier xs ys)

-- x is an element of the list
abbrev pub In : {A : Type 0} → A → List A → Type 0
In x [] = ⊥
In x (y ∷ ys) = (x ≡ y) ⊎ In x ys
