-- `cheaper::pieces::floor_of` meets its contract: the sum so far is that of the things gone through. Assumes nothing.
use Prim.Native.Nat.{ℕ, ◌+◌, ◌-◌}
use mathlib.Core.Path.{refl, ap, ap₂, ◌∙◌}
use native.Mathlib.Omega.{arith}
use native.Mathlib.Numerals.{add-one}
use Rattle.cheaper.specs.Prices.{sum_to}
use Rattle.cheaper.proofs.pieces.floor_of.Goals as goal

pub loop-t-init : goal.loop-t-init
unfolding sum_to
loop-t-init c = (refl, omega arith)

pub loop-t-preserved : goal.loop-t-preserved
unfolding sum_to
loop-t-preserved c =
    let l = c.loop-t in
    (rw add-one (ap₂ (λ (x y : ℕ). x + y) l.invariant.0 (c.saturating_sub-sum.ensures ∙ ap (λ (x : ℕ). x - 1) c.distinct_of.ensures.0)), omega arith)
