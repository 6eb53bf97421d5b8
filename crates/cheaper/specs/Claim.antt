-- What document 02, request 10, promises of an answer, sentence by sentence. Definitions only.
use Rattle.std.specs.Prelude.{ℕ, ◌-◌, ◌≤◌, ◌<◌, ◌≡◌, List, [], length, get_or, take}
use Rattle.cheaper.specs.declared.search.Pieces.{Pieces}
use Rattle.cheaper.specs.declared.search.Cheaper.{Cheaper}
use Rattle.cheaper.specs.Orders.{Order, given, orders, factorial, Earlier, In}
use Rattle.cheaper.specs.Prices.{price_of, floor_of}
use Rattle.cheaper.specs.Board.{value_in}

-- "beginning with the given one and going on by place numbers in dictionary order": a list of all orders of n pieces, so gone through
pub record Dictionary (n : ℕ) (l : List (List ℕ)) : Type 0 where
  pub every : (o : List ℕ) → Order n o → In o l
  pub only : (o : List ℕ) → In o l → Order n o
  pub begins : get_or l 0 [] ≡ given n
  pub goes_on : (i k : ℕ) → i < k → k < length l → Earlier (get_or l i []) (get_or l k [])

-- what an order of the pieces costs
abbrev pub costs : Pieces → List ℕ → ℕ
costs ps o = price_of (value_in ps.pieces) o

-- the order that an answer returns: a place number for each piece
abbrev pub returned : Pieces → Cheaper → List ℕ
returned ps r = take ps.count r.order

-- o stands in a list, and what stands before it costs more
pub record First (f : List ℕ → ℕ) (l : List (List ℕ)) (o : List ℕ) : Type 0 where
  pub place : ℕ
  pub inside : place < length l
  pub here : get_or l place [] ≡ o
  pub dearer : (j : ℕ) → j < place → f o < f (get_or l j [])

-- of the answer for at most 8 pieces and a budget above 0
pub record Promised (ps : Pieces) (budget : ℕ) (r : Cheaper) : Type 0 where
  -- an order of all pieces, and "its price"
  pub order : Order ps.count (returned ps r)
  pub price : r.price ≡ costs ps (returned ps r)
  -- "the cheapest seen, the earlier at a tie": of the first `budget` orders in dictionary order
  pub cheapest : (o : List ℕ) → In o (take budget (orders ps.count)) → r.price ≤ costs ps o
  pub earlier : First (costs ps) (take budget (orders ps.count)) (returned ps r)
  -- "a floor: over the eighteen things, the distinct values less one, summed"
  pub floor_is : r.floor ≡ floor_of (value_in ps.pieces) ps.count
  -- "No order costs less than the floor, so price less floor bounds the loss"
  pub floor : (o : List ℕ) → Order ps.count o → r.floor ≤ costs ps o
  pub loss : (o : List ℕ) → Order ps.count o → r.price - costs ps o ≤ r.price - r.floor
  -- "a budget of all orders gives the least price"
  pub least : factorial ps.count ≤ budget → (o : List ℕ) → Order ps.count o → r.price ≤ costs ps o
