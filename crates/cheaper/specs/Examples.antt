-- Document 02, request 10, worked: three pieces that differ in the index buffer alone, 1, 2 and 1. Assumes nothing.
use Rattle.std.specs.Prelude.{ℕ, ◌<◌, ◌≤◌, ◌≡◌, refl, [], ◌∷◌, replicate, Result, Ok, Err, IsOkAnd}
use Rattle.std.proofs.Common.{arith}
use Rattle.cheaper.specs.declared.pieces.Piece.{Piece}
use Rattle.cheaper.specs.declared.search.Refusal.{Refusal}
use Rattle.cheaper.specs.declared.search.Refusal.TheVariants.{TooManyPieces, NoBudget}
use Rattle.cheaper.specs.declared.search.Pieces.{Pieces}
use Rattle.cheaper.specs.declared.search.Cheaper.{Cheaper}
use Rattle.cheaper.specs.Orders.{from, picks, each, arranged}
use Rattle.cheaper.specs.Prices.{sum_to, along, among, distinct, cheapest}
use Rattle.cheaper.specs.Answer.{answered}
use Rattle.cheaper.specs.Claim.{costs}

-- a piece with this index buffer
abbrev piece : ℕ → Piece
piece index = record { pipeline = 7; slots = replicate 16 3; index = index }

-- the first so many of pieces with the index buffers 1, 2, 1 and five others
abbrev counted : ℕ → Pieces
counted n = record { pieces = piece 1 ∷ piece 2 ∷ piece 1 ∷ piece 4 ∷ piece 5 ∷ piece 6 ∷ piece 7 ∷ piece 8 ∷ []; count = n }

abbrev ordered : ℕ → ℕ → ℕ → ℕ → ℕ → Result Cheaper Refusal
ordered a b c price floor = Ok (record { order = a ∷ b ∷ c ∷ replicate 5 0; price = price; floor = floor })

-- a budget of 1 tries the given order alone; the second order is cheaper, and costs the floor; of all six it is the first that does
pub three : (answered (counted 3) 1 ≡ ordered 0 1 2 2 1) × (answered (counted 3) 2 ≡ ordered 0 2 1 1 1) × (answered (counted 3) 6 ≡ ordered 0 2 1 1 1)
unfolding answered sum_to along among distinct cheapest from picks each arranged
three = (refl, refl, refl)

-- no pieces, one piece
pub few : (answered (counted 0) 9 ≡ ordered 0 0 0 0 0) × (answered (counted 1) 9 ≡ ordered 0 0 0 0 0)
unfolding answered sum_to along among distinct cheapest from picks each arranged
few = (refl, refl)

-- 13 before 14
pub refused : (answered (counted 9) 0 ≡ Err TooManyPieces) × (answered (counted 8) 0 ≡ Err NoBudget)
unfolding answered
refused = (refl, refl)

-- why a larger budget is compared with one above 0: for 0 no order is returned, and no price, and that of a budget of 1 is above 0
pub budget-0 : (answered (counted 3) 0 ≡ Err NoBudget) × (IsOkAnd (answered (counted 3) 1) (λ s. 0 < s.price))
    × (IsOkAnd (answered (counted 3) 0) (λ r. IsOkAnd (answered (counted 3) 1) (λ s. s.price ≤ r.price)) → ⊥)
unfolding answered sum_to along among distinct cheapest from picks each arranged
budget-0 = (refl, omega arith, λ h. h)

-- why all orders must be tried for the least price: the order 0, 2, 1 costs less than what a budget of 1 gives
pub not_least : IsOkAnd (answered (counted 3) 1) (λ r. costs (counted 3) (0 ∷ 2 ∷ 1 ∷ []) < r.price)
unfolding answered sum_to along among distinct cheapest from picks each arranged
not_least = omega arith
