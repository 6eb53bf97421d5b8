-- `single_calls::barriers::texture_uses` meets its contract. Invariant: `uses` are those of the counted barriers from `i` on. Assumes nothing.
use mathlib.Core.Path.{◌≡◌}
use native.Mathlib.Omega.{arith}
use Rattle.single_calls.proofs.Pairs.{none-behind, one-behind}
use Rattle.single_calls.proofs.barriers.texture_uses.Goals as goal

pub loop-i-init : goal.loop-i-init
loop-i-init c =
    let a = c.args in
    (omega arith, rw (none-behind a.run.now a.count c.within-n.result (omega arith)))

pub loop-i-preserved : goal.loop-i-preserved
loop-i-preserved c =
    let a = c.args in
    let l = c.loop-i in
    (omega arith, rw (one-behind a.run.now a.count l.i c.loop-i-test.true l.invariant.0, c.texture_use-uses.ensures, l.invariant.1))

pub returns : goal.returns
returns c =
    let l = c.loop-i in
    let e : l.i ≡ 0 = omega arith in
    rw e at l.invariant.1
