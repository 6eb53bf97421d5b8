-- `cheaper::pieces::distinct_of` meets its contract: with the pieces that are left the count is that of all. Assumes nothing.
use Prim.Native.Nat.{ℕ, suc, ◌+◌, ◌-◌, ◌≤◌}
use mathlib.Core.Path.{◌≡◌, refl, sym, ap, ◌∙◌}
use mathlib.Core.Bool.{Bool, true, false, not, cond}
use mathlib.Core.List.{List, ◌∷◌}
use mir.Val.{bool_byte}
use native.Mathlib.Omega.{arith}
use native.Mathlib.Numerals.{add-one}
use lib.ListN.{length, take, drop, length-drop}
use lib.Seq.{drop-cons, drop-length, take_all}
use Rattle.cheaper.specs.declared.pieces.Piece.{Piece}
use Rattle.cheaper.specs.Prices.{among, distinct}
use Rattle.cheaper.specs.Board.{thing_of, things}
use Rattle.cheaper.proofs.pieces.distinct_of.Goals as goal

one_unless : (t : Bool) → bool_byte (not t) ≡ cond t 0 1
one_unless true = refl
one_unless false = refl

low : (t : Bool) → cond t 0 1 ≤ 1
low true = omega arith
low false = omega arith

-- the piece at place i, and those after it
here : (t i r : ℕ) (l : List Piece) (p : Piece) (k : Bool) → drop i l ≡ p ∷ drop (suc i) l → r ≡ thing_of p t → k ≡ among r (things t (take (length l - (i + 1)) (drop (i + 1) l)))
    → distinct (things t (drop i l)) ≡ cond k 0 1 + distinct (things t (drop (i + 1) l))
unfolding distinct
here t i r l p k d e q =
    ap (λ (m : List Piece). distinct (things t m)) d
    ∙ ap (λ (m : List Piece). cond (among (thing_of p t) (things t m)) 0 1 + distinct (things t m)) (sym next)
    ∙ ap (λ (b : Bool). cond b 0 1 + distinct (things t (drop (i + 1) l))) (sym (q ∙ ap (λ (m : List Piece). among r (things t m)) all ∙ ap (λ (x : ℕ). among x (things t (drop (i + 1) l))) e))
  where
    next : drop (i + 1) l ≡ drop (suc i) l
    next = ap (λ (j : ℕ). drop j l) (add-one i)

    all : take (length l - (i + 1)) (drop (i + 1) l) ≡ drop (i + 1) l
    all = take_all (length l - (i + 1)) (drop (i + 1) l) (omega (arith, length-drop (i + 1) l))

pub loop-i-preserved : goal.loop-i-preserved
loop-i-preserved c =
    let l = c.loop-i in
    let a = c.args in
    let s = here a.t l.i c.thing.result a.pieces.now _ c.is_thing.result (drop-cons a.pieces.now l.i _ (omega arith)) c.thing.ensures c.is_thing.ensures in
    let one : c.from-count.result ≡ cond c.is_thing.result 0 1 = c.from-count.ensures ∙ one_unless c.is_thing.result in
    let least = low c.is_thing.result in
    (omega (arith, s), omega arith)

pub returns : goal.returns
unfolding distinct
returns c =
    let l = c.loop-i in
    let e : l.i ≡ length c.args.pieces.now = omega arith in
    let z : distinct (things c.args.t (drop l.i c.args.pieces.now)) ≡ 0 = ap (λ (m : List Piece). distinct (things c.args.t m)) (ap (λ (i : ℕ). drop i c.args.pieces.now) e ∙ drop-length c.args.pieces.now) in
    (omega arith, omega arith)
