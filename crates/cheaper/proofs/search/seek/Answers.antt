-- `cheaper::search::seek` meets its contract: x is the cheapest so far: with the orders that are left it gives the cheapest of all. Assumes nothing.
use Prim.Native.Nat.{ℕ, suc, ◌+◌, ◌-◌, ◌*◌}
use mathlib.Core.Path.{◌≡◌, refl, sym, ap, ap₂, ◌∙◌}
use mathlib.Core.Bool.{Bool, true, false, cond}
use mathlib.Core.List.{List, ◌∷◌, ◌++◌}
use native.Mathlib.Omega.{arith}
use native.Mathlib.Numerals.{add-one}
use lib.ListN.{get_or}
use lib.Dec.{ltb}
use lib.ListN.{take, drop, replicate}
use Rattle.cheaper.specs.Orders.{given, orders}
use Rattle.cheaper.specs.Count.{factorial-pos}
use Rattle.cheaper.specs.Prices.{total, cheapest}
use Rattle.cheaper.specs.declared.search.Tried.{Tried}
use Rattle.cheaper.specs.Search.{order_at, sought}
use Rattle.cheaper.proofs.Totals.{left-begins, left-none, first-is}
use Rattle.cheaper.proofs.search.seek.Goals as goal

-- the better of two, and what is left
chose : (f : List ℕ → ℕ) (n : ℕ) (x y g : List ℕ) (ys : List (List ℕ)) (a b r : Tried) → a.order ≡ x ++ replicate (8 - n) 0 → a.price ≡ f x → b.order ≡ y ++ replicate (8 - n) 0 → b.price ≡ f y
    → r ≡ cond (ltb b.price a.price) b a → cheapest f x (y ∷ ys) ≡ g → (z : List ℕ) × (r.order ≡ z ++ replicate (8 - n) 0) × (r.price ≡ f z) × (cheapest f z ys ≡ g)
unfolding cheapest
chose f n x y g ys a b r ao ap' bo bp e h = go (ltb b.price a.price) e (ap₂ ltb bp ap') h
  where
    go : (t : Bool) → r ≡ cond t b a → t ≡ ltb (f y) (f x) → cheapest f (cond (ltb (f y) (f x)) y x) ys ≡ g → (z : List ℕ) × (r.order ≡ z ++ replicate (8 - n) 0) × (r.price ≡ f z) ×
        (cheapest f z ys ≡ g)
    go true e q h = (y, ap (λ (t : Tried). t.order) e ∙ bo, ap (λ (t : Tried). t.price) e ∙ bp, ap (λ (t : Bool). cheapest f (cond t y x) ys) q ∙ h)
    go false e q h = (x, ap (λ (t : Tried). t.order) e ∙ ao, ap (λ (t : Tried). t.price) e ∙ ap', ap (λ (t : Bool). cheapest f (cond t y x) ys) q ∙ h)

pub loop-i-init : goal.loop-i-init
loop-i-init c =
    let a = c.args in
    let f : List ℕ → ℕ = total (λ x y. get_or a.between.now (x * 8 + y) 0) in
    let e = first-is a.n (factorial-pos a.n) in
    (given a.n, c.tried_at-best.ensures.0 ∙ ap (λ (o : List ℕ). o ++ replicate (8 - a.n) 0) e, c.tried_at-best.ensures.1 ∙ ap f e, refl)

pub loop-i-preserved : goal.loop-i-preserved
loop-i-preserved c =
    let l = c.loop-i in
    let a = c.args in
    let f : List ℕ → ℕ = total (λ x y. get_or a.between.now (x * 8 + y) 0) in
    let d = l.invariant in
    let y = order_at a.n (given a.n) l.i in
    let g = sought a.between.now a.n a.turns in
    let r = chose f a.n d.0 y g (drop (suc l.i) (take a.turns (orders a.n))) l.best c.tried_at.result c.better-best.result d.1 d.2
    c.tried_at.ensures.0 c.tried_at.ensures.1 c.better-best.ensures
    (ap (cheapest f d.0) (sym (left-begins a.n a.turns l.i (omega arith) c.requires.2)) ∙ d.3) in
    (r.0, r.1, r.2, ap (λ (k : ℕ). cheapest f r.0 (drop k (take a.turns (orders a.n)))) (add-one l.i) ∙ r.3)

pub returns : goal.returns
unfolding cheapest
returns c =
    let l = c.loop-i in
    let a = c.args in
    let f : List ℕ → ℕ = total (λ x y. get_or a.between.now (x * 8 + y) 0) in
    let d = l.invariant in
    let z : a.turns ≡ l.i = omega arith in
    let e : d.0 ≡ sought a.between.now a.n a.turns = ap (cheapest f d.0)
    (sym (ap (λ (k : ℕ). drop k (take a.turns (orders a.n))) (sym z) ∙ left-none a.n a.turns c.requires.2)) ∙ d.3 in
    (d.1 ∙ ap (λ (o : List ℕ). o ++ replicate (8 - a.n) 0) e, d.2 ∙ ap f e)
