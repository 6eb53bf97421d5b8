-- `text::put::put_decimal` meets its contract: what is left to put are the digits of `rest`. Assumes nothing.
use Prim.Native.Nat.{◌≤◌, ◌<◌}
use native.Mathlib.Nat.{le_refl}
use native.Mathlib.Omega.{arith}
use lib.ListN.{length}
use Rattle.text.proofs.Puts.{going_start, going-put, going_end, going-room}
use Rattle.text.proofs.Digits.{decimal-last, decimal_step, decimal-long}
use Rattle.text.proofs.put.put_decimal.Goals as goal

pub loop-rest-init : goal.loop-rest-init
loop-rest-init c = (le_refl _, going_start _ _ _)

pub put-i-requires : goal.put-i-requires
put-i-requires c =
    let room : (0 < c.loop-rest.i) × (c.loop-rest.i ≤ length c.loop-rest.line) = going-room 1 c.loop-rest.invariant.1 c.requires.1 (omega (arith, c.requires.0, decimal-long c.args.n, decimal-long c.loop-rest.rest)) in
    room

pub put-requires : goal.put-requires
put-requires c =
    let room : (0 < c.loop-rest.i) × (c.loop-rest.i ≤ length c.loop-rest.line) = going-room 1 c.loop-rest.invariant.1 c.requires.1 (omega (arith, c.requires.0, decimal-long c.args.n, decimal-long c.loop-rest.rest)) in
    room

pub loop-rest-preserved : goal.loop-rest-preserved
loop-rest-preserved c =
    let l = c.loop-rest in
    let p = c.put-i in
    let e = decimal_step l.rest c.loop-rest-test.true (omega (arith, l.invariant.0)) in
    (omega arith, going-put (rw e at l.invariant.1) p.ensures p.auto.line)

pub returns : goal.returns
returns c =
    let l = c.loop-rest in
    let p = c.put in
    going_end (going-put (rw (decimal-last l.rest (omega arith)) at l.invariant.1) p.ensures p.auto.line)
