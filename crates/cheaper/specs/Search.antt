-- The search of the code: orders by their numbers, and the cheapest by a table of prices. Definitions only.
use Rattle.std.specs.Prelude.{ℕ, zero, suc, ◌+◌, ◌*◌, ◌/◌, ◌%◌, List, [], ◌∷◌, get_or}
use Rattle.cheaper.specs.Orders.{given, factorial}
use Rattle.cheaper.specs.Prices.{total, cheapest, tried}

-- the list without its element at place j
unfoldable pub removed : ℕ → List ℕ → List ℕ
removed j [] = []
removed zero (x ∷ xs) = xs
removed (suc j) (x ∷ xs) = x ∷ removed j xs

-- order number i of a list of n elements: the digits of i by factorials say which element goes next
unfoldable pub order_at : ℕ → List ℕ → ℕ → List ℕ
order_at zero xs i = []
order_at (suc n) xs i = get_or xs (i / factorial n) 0 ∷ order_at n (removed (i / factorial n) xs) (i % factorial n)

-- the cheapest of so many orders by a table of prices, that between a and b at 8 a + b
abbrev pub sought : List ℕ → ℕ → ℕ → List ℕ
sought between n turns = cheapest (total (λ a b. get_or between (a * 8 + b) 0)) (given n) (tried n turns)
