-- `cheaper::search::price` meets its contract: with the price from the place before k on the sum is the whole. Assumes nothing.
use Prim.Native.Nat.{ℕ, suc, ◌+◌, ◌-◌, ◌*◌, ◌≤◌, ◌<◌}
use mathlib.Core.Path.{◌≡◌, ap, ◌∙◌}
use mathlib.Core.List.{List}
use native.Mathlib.Omega.{arith}
use lib.ListN.{length, get_or, drop}
use Rattle.cheaper.specs.Prices.{total}
use Rattle.cheaper.proofs.Totals.{total-step, total-last}
use Rattle.cheaper.proofs.search.price.Goals as goal

-- one place on
on : (d : ℕ → ℕ → ℕ) (l : List ℕ) (k s w : ℕ) → 1 ≤ k → k < length l → s + total d (drop (k - 1) l) ≡ w
    → s + d (get_or l (k - 1) 0) (get_or l k 0) + total d (drop (k + 1 - 1) l) ≡ w
on d l k s w p h e =
    let j : suc (k - 1) ≡ k = omega arith in
    let n : k + 1 - 1 ≡ k = omega arith in
    let step : total d (drop (k - 1) l) ≡ d (get_or l (k - 1) 0) (get_or l k 0) + total d (drop k l) =
    total-step d l (k - 1) (omega arith) ∙ ap (λ (i : ℕ). d (get_or l (k - 1) 0) (get_or l i 0) + total d (drop i l)) j in
    let z : total d (drop (k + 1 - 1) l) ≡ total d (drop k l) = ap (λ (i : ℕ). total d (drop i l)) n in
    omega arith

pub loop-k-preserved : goal.loop-k-preserved
loop-k-preserved c =
    let l = c.loop-k in
    let a = c.args in
    let x = get_or a.order.now (l.k - 1) 0 in
    let y = get_or a.order.now l.k 0 in
    let x-low : x < 8 = c.requires.1 (l.k - 1) in
    let y-low : y < 8 = c.requires.1 l.k in
    let small : get_or a.between.now (x * 8 + y) 0 ≤ 18 = c.requires.2 (x * 8 + y) (omega arith) in
    let d : ℕ → ℕ → ℕ = λ x y. get_or a.between.now (x * 8 + y) 0 in
    (on d a.order.now l.k l.sum (total d a.order.now) (omega arith) (omega arith) l.invariant.0, omega arith, omega arith)

pub returns : goal.returns
returns c =
    let l = c.loop-k in
    let a = c.args in
    let d : ℕ → ℕ → ℕ = λ x y. get_or a.between.now (x * 8 + y) 0 in
    let e : l.k - 1 ≡ length a.order.now - 1 = omega arith in
    let z : total d (drop (l.k - 1) a.order.now) ≡ 0 = ap (λ (i : ℕ). total d (drop i a.order.now)) e ∙ total-last d a.order.now in
    let w : l.sum + total d (drop (l.k - 1) a.order.now) ≡ total d a.order.now = l.invariant.0 in
    omega arith
