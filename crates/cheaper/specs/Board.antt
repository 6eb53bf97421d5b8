-- The pieces that are handed in, read as a board of things: document 02, request 10. Definitions only.
use Rattle.std.specs.Prelude.{ℕ, ◌-◌, cond, List, [], map, eqb, leb, get_or}
use Rattle.cheaper.specs.declared.pieces.Piece.{Piece}

-- the eighteen things of a piece: its pipeline, its sixteen slot buffers, its index buffer
abbrev pub thing_of : Piece → ℕ → ℕ
thing_of p t = cond (eqb t 0) p.pipeline (cond (leb t 16) (get_or p.slots (t - 1) 0) p.index)

-- what a place past the pieces reads as; no order has such a place
abbrev pub no_piece : Piece
no_piece = record { pipeline = 0; slots = []; index = 0 }

-- thing t of the piece at place a
abbrev pub value_in : List Piece → ℕ → ℕ → ℕ
value_in ps t a = thing_of (get_or ps a no_piece) t

-- thing t of each piece
abbrev pub things : ℕ → List Piece → List ℕ
things t ps = map (λ p. thing_of p t) ps
