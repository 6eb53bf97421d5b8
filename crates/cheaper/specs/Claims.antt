-- What document 02, request 10, promises holds of the function's answer: `dictionary`, `promised`, `never-dearer`, `no_pieces`, `too_many`, `no-budget`, `number_is`.
-- `past-count`: nothing past the count is looked at. Assumes nothing.
use Rattle.std.specs.Prelude.{ℕ, zero, suc, ◌-◌, ◌≤◌, ◌<◌, ◌≡◌, refl, Bool, true, false, cond, List, [], ◌++◌, eqb, ltb, length, get_or, take, replicate, Result, Ok, Err, IsOkAnd}
use Rattle.std.proofs.Common.{sym, ap, ap₂, ◌∙◌, subst, subst₂, arith, get_or-take, lt-ltb, le-ltb, ne_eqb, ltb-true, ltb-false, eqb-true}
use Rattle.std.proofs.Math.Seq.{take-nil, take-append_seam}
use Rattle.std.proofs.lemmas.Bool.{eqb-false}
use Rattle.cheaper.specs.declared.pieces.Piece.{Piece}
use Rattle.cheaper.specs.declared.search.Refusal.{Refusal}
use Rattle.cheaper.specs.declared.search.Refusal.TheVariants.{TooManyPieces, NoBudget}
use Rattle.cheaper.specs.declared.search.Pieces.{Pieces}
use Rattle.cheaper.specs.declared.search.Cheaper.{Cheaper}
use Rattle.cheaper.specs.Orders.{Order, from, given, arranged, orders, factorial}
use Rattle.cheaper.specs.Prices.{sum_to, distinct, price_of, floor_of, cheapest, tried, chosen}
use Rattle.cheaper.specs.Floor.{no-order-below}
use Rattle.cheaper.specs.Budget.{cheapest-in, tried-in, tried-is, first-order, chosen-order, chosen-least, larger-budget, all-orders}
use Rattle.cheaper.specs.Places.{cheapest-first}
use Rattle.cheaper.specs.Same.{order-places}
use Rattle.cheaper.specs.Past.{floor-same, chosen-same, price-same}
use Rattle.cheaper.specs.Board.{no_piece, thing_of, value_in}
use Rattle.cheaper.specs.Answer.{number, found, answered}
use Rattle.cheaper.specs.Claim.{Dictionary, costs, returned, First, Promised}
use Rattle.cheaper.specs.Shuffles.{orders-only, orders-all}
use Rattle.cheaper.specs.Dictionary.{orders-up}
use Rattle.cheaper.specs.Count.{orders-long}

-- the orders that are tried, and how many there are
pub dictionary : (n : ℕ) → Dictionary n (orders n) × (length (orders n) ≡ factorial n)
dictionary n = (
  record {
    every = orders-all n;
    only = orders-only n;
    begins = first-order n [];
    goes_on = λ i k h l. orders-up n i k [] h (subst (λ (m : ℕ). k < m) (orders-long n) l);
  },
  orders-long n,
)

pub is_found : (ps : Pieces) (budget : ℕ) → ps.count ≤ 8 → 0 < budget → answered ps budget ≡ Ok (found ps budget)
unfolding answered
is_found ps budget h p = rw (le-ltb 8 ps.count h, ne_eqb budget 0 (λ e. omega arith))

-- "13, more than 8 pieces; 14, a budget of 0; in that order"
pub too_many : (ps : Pieces) (budget : ℕ) → 8 < ps.count → answered ps budget ≡ Err TooManyPieces
unfolding answered
too_many ps budget h = rw (lt-ltb 8 ps.count h)

pub no-budget : (ps : Pieces) → ps.count ≤ 8 → answered ps 0 ≡ Err NoBudget
unfolding answered
no-budget ps h = rw (le-ltb 8 ps.count h)

pub number_is : (ps : Pieces) (budget : ℕ) → number (answered ps budget) ≡ cond (ltb 8 ps.count) 13 (cond (eqb budget 0) 14 0)
unfolding answered
number_is ps budget = go (ltb 8 ps.count) (eqb budget 0)
  where
    go : (s t : Bool) → number (cond s (Err TooManyPieces) (cond t (Err NoBudget) (Ok (found ps budget)))) ≡ cond s 13 (cond t 14 0)
    go true t = refl
    go false true = refl
    go false false = refl

module _ (ps : Pieces) (h : ps.count ≤ 8) where
  abbrev v : ℕ → ℕ → ℕ
  v = value_in ps.pieces

  abbrev n : ℕ
  n = ps.count

  -- what is returned is the choice
  returned-is : (budget : ℕ) → 0 < budget → returned ps (found ps budget) ≡ chosen v n budget
  returned-is budget p =
      let m = tried-in n budget (chosen v n budget) p (cheapest-in (price_of v) (given n) (tried n budget)) in
      ap (λ (k : ℕ). take k (chosen v n budget ++ replicate (8 - n) 0)) (sym (order-places n (chosen v n budget) m))
      ∙ take-append_seam (chosen v n budget) (replicate (8 - n) 0)

  found-promised : (budget : ℕ) → 0 < budget → Promised ps budget (found ps budget)
  found-promised budget p =
      let e = returned-is budget p in
      record {
        order = subst (Order n) (sym e) (chosen-order v n budget p);
        price = ap (price_of v) (sym e);
        cheapest = λ o m. chosen-least v n budget o p m;
        earlier =
            subst (First (costs ps) (take budget (orders n))) (sym e)
            (subst (λ (l : List (List ℕ)). First (costs ps) l (chosen v n budget)) (tried-is n budget p) (cheapest-first (price_of v) (given n) (tried n budget)));
        floor_is = refl;
        floor = λ o q. no-order-below v n o q;
        loss = λ o q. bounded (price_of v (chosen v n budget)) (price_of v o) (floor_of v n) (no-order-below v n o q);
        least = λ l o q. all-orders v n budget o p (subst (λ (k : ℕ). k ≤ budget) (sym (orders-long n)) l) q;
      }
    where
      bounded : (a b c : ℕ) → c ≤ b → a - b ≤ a - c
      bounded a b c l = omega arith

  pub promised : (budget : ℕ) → 0 < budget → IsOkAnd (answered ps budget) (Promised ps budget)
  promised budget p =
      subst (λ (x : Result Cheaper Refusal). IsOkAnd x (Promised ps budget)) (sym (is_found ps budget h p)) (found-promised budget p)

  -- "A larger budget never gives a dearer order"
  pub never-dearer : (a b : ℕ) → 0 < a → a ≤ b → IsOkAnd (answered ps a) (λ r. IsOkAnd (answered ps b) (λ s. s.price ≤ r.price))
  never-dearer a b p l =
      subst (λ (x : Result Cheaper Refusal). IsOkAnd x (λ r. IsOkAnd (answered ps b) (λ s. s.price ≤ r.price))) (sym (is_found ps a h p))
      (subst (λ (y : Result Cheaper Refusal). IsOkAnd y (λ s. s.price ≤ (found ps a).price)) (sym (is_found ps b h (omega arith))) (larger-budget v n a b p l))

-- r is what `cheaper_order` handed back, and s what it handed back for a larger budget
pub handed : (ps : Pieces) (budget : ℕ) (r : Result Cheaper Refusal) → r ≡ answered ps budget → ps.count ≤ 8 → 0 < budget → IsOkAnd r (Promised ps budget)
handed ps budget r e h p = subst (λ (x : Result Cheaper Refusal). IsOkAnd x (Promised ps budget)) (sym e) (promised ps h budget p)

pub handed-dearer : (ps : Pieces) (a b : ℕ) (r s : Result Cheaper Refusal) → r ≡ answered ps a → s ≡ answered ps b → ps.count ≤ 8 → 0 < a → a ≤ b
    → IsOkAnd r (λ x. IsOkAnd s (λ y. y.price ≤ x.price))
handed-dearer ps a b r s e f h p l =
    subst₂ (λ (v w : Result Cheaper Refusal). IsOkAnd w (λ x. IsOkAnd v (λ y. y.price ≤ x.price))) (sym f) (sym e) (never-dearer ps h a b p l)

-- "No pieces give price 0 and floor 0"
pub no_pieces : (ps : Pieces) (budget : ℕ) → ps.count ≡ 0 → 0 < budget → IsOkAnd (answered ps budget) (λ r. (r.price ≡ 0) × (r.floor ≡ 0))
unfolding sum_to distinct from arranged cheapest
no_pieces ps budget e p =
    subst (λ (x : Result Cheaper Refusal). IsOkAnd x (λ r. (r.price ≡ 0) × (r.floor ≡ 0))) (sym (is_found ps budget (omega arith) p))
    (ap (λ (n : ℕ). costs ps (chosen (value_in ps.pieces) n budget)) e ∙ none budget p, ap (floor_of (value_in ps.pieces)) e ∙ nothing)
  where
    none : (b : ℕ) → 0 < b → costs ps (chosen (value_in ps.pieces) 0 b) ≡ 0
    none zero p = absurd (omega arith)
    none (suc b) p = ap (λ (l : List (List ℕ)). costs ps (cheapest (costs ps) [] l)) (take-nil b)

    nothing : floor_of (value_in ps.pieces) 0 ≡ 0
    nothing = refl

-- pieces that agree up to the count have the same answer
module _ (ps qs : Pieces) (same : ps.count ≡ qs.count) (agree : take ps.count ps.pieces ≡ take ps.count qs.pieces) where
  value_same : (t a : ℕ) → a < ps.count → value_in ps.pieces t a ≡ value_in qs.pieces t a
  value_same t a h =
      ap (λ (p : Piece). thing_of p t)
      (sym (get_or-take ps.count ps.pieces a no_piece h) ∙ ap (λ (l : List Piece). get_or l a no_piece) agree ∙ get_or-take ps.count qs.pieces a no_piece h)

  abbrev made : List ℕ → ℕ → ℕ → ℕ → Cheaper
  made o n price floor = record { order = o ++ replicate (8 - n) 0; price = price; floor = floor }

  found-same : (budget : ℕ) → 0 < budget → found ps budget ≡ found qs budget
  found-same budget p =
      let v = value_in ps.pieces in
      let w = value_in qs.pieces in
      let n = ps.count in
      let o = chosen w n budget in
      let m = tried-in n budget o p (cheapest-in (price_of w) (given n) (tried n budget)) in
      ap (λ (x : List ℕ). made x n (price_of v x) (floor_of v n)) (chosen-same v w n value_same budget p)
      ∙ ap₂ (λ (x y : ℕ). made o n x y) (price-same v w n value_same o m) (floor-same v w n value_same)
      ∙ ap (λ (k : ℕ). made (chosen w k budget) k (price_of w (chosen w k budget)) (floor_of w k)) same

  pub past-count : (budget : ℕ) → answered ps budget ≡ answered qs budget
  past-count budget = go (ltb 8 ps.count) refl (eqb budget 0) refl
    where
      go : (s : Bool) → ltb 8 ps.count ≡ s → (t : Bool) → eqb budget 0 ≡ t → answered ps budget ≡ answered qs budget
      go true e t q = let l = ltb-true 8 ps.count e in too_many ps budget l ∙ sym (too_many qs budget (subst (λ (k : ℕ). 8 < k) same l))
      go false e true q =
          let l = ltb-false 8 ps.count e in
          let z = eqb-true budget 0 q in
          ap (answered ps) z ∙ no-budget ps l ∙ sym (no-budget qs (subst (λ (k : ℕ). k ≤ 8) same l)) ∙ sym (ap (answered qs) z)
      go false e false q =
          let l = ltb-false 8 ps.count e in
          let p = above budget (eqb-false budget 0 q) in
          is_found ps budget l p ∙ ap {B = Result Cheaper Refusal} Ok (found-same budget p) ∙ sym (is_found qs budget (subst (λ (k : ℕ). k ≤ 8) same l) p)
        where
          above : (b : ℕ) → (b ≡ 0 → ⊥) → 0 < b
          above b ne = omega arith
