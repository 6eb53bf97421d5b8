-- `cheaper::pieces::differing` meets its contract: the sum so far is that of the things gone through. Assumes nothing.
use Prim.Native.Nat.{ℕ, ◌+◌, ◌≤◌}
use mathlib.Core.Path.{◌≡◌, refl, ap₂, ◌∙◌}
use mathlib.Core.Bool.{Bool, true, false, not, cond}
use mir.Val.{bool_byte}
use lib.Dec.{eqb}
use native.Mathlib.Omega.{arith}
use native.Mathlib.Numerals.{add-one}
use Rattle.cheaper.specs.Prices.{sum_to, differs}
use Rattle.cheaper.proofs.pieces.differing.Goals as goal

one_where : (t : Bool) → bool_byte (not t) ≡ cond t 0 1
one_where true = refl
one_where false = refl

differs_low : (x y : ℕ) → differs x y ≤ 1
differs_low x y = go (eqb x y)
  where
    go : (t : Bool) → cond t 0 1 ≤ 1
    go true = omega arith
    go false = omega arith

pub loop-t-init : goal.loop-t-init
unfolding sum_to
loop-t-init c = (refl, omega arith)

pub loop-t-preserved : goal.loop-t-preserved
unfolding sum_to
loop-t-preserved c =
    let l = c.loop-t in
    let e : c.from-sum.result ≡ differs c.thing.result c.thing-in-loop-t.result = c.from-sum.ensures ∙ one_where (eqb c.thing.result c.thing-in-loop-t.result) in
    let low = differs_low c.thing.result c.thing-in-loop-t.result in
    (rw add-one (ap₂ (λ (x y : ℕ). x + y) l.invariant.0 (e ∙ ap₂ differs c.thing.ensures c.thing-in-loop-t.ensures)), omega arith)
