-- `records::check::bad_few` meets its contract. Assumes nothing.
use Prim.Native.Nat.{◌≤◌, ◌<◌}
use mathlib.Core.Path.{◌≡◌}
use native.Mathlib.Omega.{arith}
use lib.ListN.{length, take, length-take, drop_of_length-le}
use Rattle.records.specs.Check.{some?, bad_descriptor}
use Rattle.records.specs.Start.{start_immediate}
use Rattle.records.proofs.Long.{descs-long}
use Rattle.records.proofs.Scanning.{one-if-counted}
use Rattle.records.proofs.check.bad_few.Goals as goal

pub loop-i-init : goal.loop-i-init
unfolding some?
loop-i-init c =
    let i = c.args.immediates in
    λ few. rw (drop_of_length-le (take i.count i.descs) {i = 8} (omega (arith, few, length-take i.count i.descs)))

pub loop-i-preserved : goal.loop-i-preserved
loop-i-preserved c =
    let i = c.args.immediates in
    let l = c.loop-i in
    let p : 0 < l.i = omega arith in
    let b : l.i ≤ 8 = omega arith in
    let k : l.i ≤ length i.descs = omega (arith, descs-long i _ c.well_formed.0) in
    λ few. rw (one-if-counted bad_descriptor i.descs i.count l.i start_immediate p k, c.bad_descriptor.ensures, l.invariant few)

pub returns : goal.returns
returns c =
    let l = c.loop-i in
    let e : l.i ≡ 0 = omega arith in
    rw e at l.invariant
