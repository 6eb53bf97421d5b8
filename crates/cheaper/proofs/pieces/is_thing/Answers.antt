-- `cheaper::pieces::is_thing` meets its contract: x is none of the pieces gone through. Assumes nothing.
use Prim.Native.Nat.{ℕ, suc, ◌+◌}
use mathlib.Core.Path.{◌≡◌, sym, ap, ◌∙◌}
use mathlib.Core.Bool.{Bool, true, ◌||◌}
use mathlib.Core.List.{List, ◌∷◌}
use native.Mathlib.Omega.{arith}
use native.Mathlib.Numerals.{add-one}
use borrow.Author.Tests.{eq-eqb, ne_eqb}
use lib.ListN.{length, drop}
use lib.Seq.{drop-cons, drop-length}
use Rattle.cheaper.specs.declared.pieces.Piece.{Piece}
use Rattle.cheaper.specs.Prices.{among}
use Rattle.cheaper.specs.Board.{thing_of, things}
use Rattle.cheaper.proofs.pieces.is_thing.Goals as goal

here : (x t i r : ℕ) (l : List Piece) (p : Piece) → drop i l ≡ p ∷ drop (suc i) l → r ≡ thing_of p t → x ≡ r → among x (things t (drop i l)) ≡ among x (things t l) → true ≡ among x (things t l)
unfolding among
here x t i r l p d e q h =
    sym (ap (λ (b : Bool). b || among x (things t (drop (suc i) l))) (eq-eqb x (thing_of p t) (q ∙ e))) ∙ sym (ap (λ (k : List Piece). among x (things t k)) d) ∙ h

past : (x t i r : ℕ) (l : List Piece) (p : Piece) → drop i l ≡ p ∷ drop (suc i) l → r ≡ thing_of p t → (x ≡ r → ⊥) → among x (things t (drop i l)) ≡ among x (things t l)
    → among x (things t (drop (i + 1) l)) ≡ among x (things t l)
unfolding among
past x t i r l p d e q h =
    ap (λ (k : ℕ). among x (things t (drop k l))) (add-one i)
    ∙ sym (ap (λ (b : Bool). b || among x (things t (drop (suc i) l))) (ne_eqb x (thing_of p t) (λ z. q (z ∙ sym e))))
    ∙ sym (ap (λ (k : List Piece). among x (things t k)) d)
    ∙ h

pub returns-then-x-thing : goal.returns-then-x-thing
returns-then-x-thing c =
    let l = c.loop-p in
    here c.args.x c.args.t l.p-index c.thing.result c.args.pieces.now _ (drop-cons c.args.pieces.now l.p-index _ (omega arith)) c.thing.ensures c.if-x-thing.true l.invariant

pub loop-p-preserved : goal.loop-p-preserved
loop-p-preserved c =
    let l = c.loop-p in
    past c.args.x c.args.t l.p-index c.thing.result c.args.pieces.now _ (drop-cons c.args.pieces.now l.p-index _ (omega arith)) c.thing.ensures c.if-x-thing.false l.invariant

pub returns : goal.returns
unfolding among
returns c =
    let l = c.loop-p in
    let e : l.p-index ≡ length c.args.pieces.now = omega arith in
    sym (ap (λ (k : List Piece). among c.args.x (things c.args.t k)) (ap (λ (i : ℕ). drop i c.args.pieces.now) e ∙ drop-length c.args.pieces.now)) ∙ l.invariant
