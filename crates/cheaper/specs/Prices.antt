-- What an order of pieces costs, the floor, and the cheapest: document 02, request 10. Definitions only.
-- A board of pieces is read as a function: thing t of the piece at place a is `v t a`; there are eighteen things.
use Rattle.std.specs.Prelude.{ℕ, zero, suc, ◌+◌, ◌-◌, Bool, false, cond, ◌||◌, List, [], ◌∷◌, map, eqb, ltb, take, drop}
use Rattle.cheaper.specs.Orders.{given, orders}

-- f 0 + f 1 + .. + f (n - 1)
unfoldable pub sum_to : ℕ → (ℕ → ℕ) → ℕ
sum_to zero f = 0
sum_to (suc n) f = sum_to n f + f n

abbrev pub differs : ℕ → ℕ → ℕ
differs x y = cond (eqb x y) 0 1

-- "the price between neighbours is how many of these eighteen differ"
abbrev pub between : (ℕ → ℕ → ℕ) → ℕ → ℕ → ℕ
between v a b = sum_to 18 (λ t. differs (v t a) (v t b))

-- a price between neighbours, summed along an order that begins at a
unfoldable pub along : (ℕ → ℕ → ℕ) → ℕ → List ℕ → ℕ
along d a [] = 0
along d a (b ∷ o) = d a b + along d b o

abbrev pub total : (ℕ → ℕ → ℕ) → List ℕ → ℕ
total d [] = 0
total d (a ∷ o) = along d a o

-- the price of an order
abbrev pub price_of : (ℕ → ℕ → ℕ) → List ℕ → ℕ
price_of v o = total (between v) o

unfoldable pub among : ℕ → List ℕ → Bool
among x [] = false
among x (y ∷ ys) = eqb x y || among x ys

-- how many values a list has: an element that stands again later on is not counted
unfoldable pub distinct : List ℕ → ℕ
distinct [] = 0
distinct (x ∷ xs) = cond (among x xs) 0 1 + distinct xs

-- "over the eighteen things, the distinct values less one, summed"
abbrev pub floor_of : (ℕ → ℕ → ℕ) → ℕ → ℕ
floor_of v n = sum_to 18 (λ t. distinct (map (v t) (given n)) - 1)

-- the cheapest of an order and those after it, the earlier at a tie
unfoldable pub cheapest : (List ℕ → ℕ) → List ℕ → List (List ℕ) → List ℕ
cheapest f x [] = x
cheapest f x (y ∷ ys) = cheapest f (cond (ltb (f y) (f x)) y x) ys

-- "Within a budget of orders tried, beginning with the given one": the orders tried after it, and the cheapest
abbrev pub tried : ℕ → ℕ → List (List ℕ)
tried n budget = drop 1 (take budget (orders n))

abbrev pub chosen : (ℕ → ℕ → ℕ) → ℕ → ℕ → List ℕ
chosen v n budget = cheapest (price_of v) (given n) (tried n budget)
