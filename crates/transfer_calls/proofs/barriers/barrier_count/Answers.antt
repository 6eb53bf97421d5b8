-- `transfer_calls::barriers::barrier_count` meets its contract. Assumes nothing.
use mathlib.Core.Path.{◌≡◌}
use native.Mathlib.Omega.{arith}
use Rattle.calls.specs.Transfers.{buffer_barrier_commands}
use Rattle.transfer_calls.specs.Barriers.{barrier_at}
use Rattle.transfer_calls.proofs.Triples.{none-behind, one-behind, barriers}
use Rattle.transfer_calls.proofs.Recorded.{one-longer}
use Rattle.transfer_calls.proofs.barriers.barrier_count.Goals as goal

pub loop-i-init : goal.loop-i-init
unfolding buffer_barrier_commands
loop-i-init c =
    let a = c.args in
    let h = c.elements-all.ensures.0 in
    (omega arith, rw (none-behind _ _ barriers a.run.now a.count _ c.elements-all.ensures.1))

pub loop-i-preserved : goal.loop-i-preserved
loop-i-preserved c =
    let a = c.args in
    let l = c.loop-i in
    (omega arith, rw (one-behind _ _ barriers a.run.now a.count l.i c.loop-i-test.true (omega arith), one-longer (barrier_at a.run.now _) _, c.one_if.ensures.0, c.synchronizes-some.ensures, l.invariant.1))

pub returns : goal.returns
returns c =
    let l = c.loop-i in
    let e : l.i ≡ 0 = omega arith in
    rw e at l.invariant.1
