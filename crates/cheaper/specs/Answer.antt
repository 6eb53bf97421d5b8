-- What is answered: document 02, request 10. Definitions only.
use Rattle.std.specs.Prelude.{ℕ, ◌-◌, cond, ◌++◌, eqb, ltb, replicate, Result, Ok, Err}
use Rattle.cheaper.specs.declared.search.Refusal.{Refusal}
use Rattle.cheaper.specs.declared.search.Refusal.TheVariants.{TooManyPieces, NoBudget}
use Rattle.cheaper.specs.declared.search.Pieces.{Pieces}
use Rattle.cheaper.specs.declared.search.Cheaper.{Cheaper}
use Rattle.cheaper.specs.Prices.{price_of, floor_of, chosen}
use Rattle.cheaper.specs.Board.{value_in}

-- document 02's number of an answer
abbrev pub number : Result Cheaper Refusal → ℕ
number (Ok r) = 0
number (Err TooManyPieces) = 13
number (Err NoBudget) = 14

-- the cheapest order within the budget, with its price and the floor
abbrev pub found : Pieces → ℕ → Cheaper
found ps budget =
    record {
      order = chosen (value_in ps.pieces) ps.count budget ++ replicate (8 - ps.count) 0;
      price = price_of (value_in ps.pieces) (chosen (value_in ps.pieces) ps.count budget);
      floor = floor_of (value_in ps.pieces) ps.count;
    }

-- "13, more than 8 pieces; 14, a budget of 0; in that order"
unfoldable pub answered : Pieces → ℕ → Result Cheaper Refusal
answered ps budget = cond (ltb 8 ps.count) (Err TooManyPieces) (cond (eqb budget 0) (Err NoBudget) (Ok (found ps budget)))
