-- `transfer_calls::barriers::barrier_absent` meets its contract. Assumes nothing.
use mathlib.Core.Path.{◌≡◌}
use native.Mathlib.Omega.{arith}
use Rattle.records.specs.Check.{some?}
use Rattle.transfer_calls.proofs.Triples.{none-behind, one-behind, barriers}
use Rattle.transfer_calls.proofs.barriers.barrier_absent.Goals as goal

pub loop-i-init : goal.loop-i-init
unfolding some?
loop-i-init c =
    let a = c.args in
    (c.elements-n.ensures.0, rw (none-behind _ _ barriers a.run.now a.count _ c.elements-n.ensures.1))

pub loop-i-preserved : goal.loop-i-preserved
unfolding some?
loop-i-preserved c =
    let a = c.args in
    let l = c.loop-i in
    (omega arith, rw (one-behind _ _ barriers a.run.now a.count l.i c.loop-i-test.true l.invariant.0, c.absent-bad.ensures, l.invariant.1))

pub returns : goal.returns
returns c =
    let l = c.loop-i in
    let e : l.i ≡ 0 = omega arith in
    rw e at l.invariant.1
