-- `text::put::put_hex` meets its contract: what is left to put are the last k digits of `rest`. Assumes nothing.
use native.Mathlib.Omega.{arith}
use Rattle.text.proofs.Puts.{going-put, going_end, going-room}
use Rattle.text.proofs.Digits.{hex-step, hex-none, hex-long}
use Rattle.text.proofs.put.put_hex.Goals as goal

pub put-i-requires : goal.put-i-requires
put-i-requires c =
    let l = c.loop-k in
    going-room 1 l.invariant c.requires.1 (omega (arith, c.requires.0, hex-long 8 c.args.n, hex-long l._k l.rest))

pub loop-k-preserved : goal.loop-k-preserved
loop-k-preserved c =
    let l = c.loop-k in
    let p = c.put-i in
    going-put (rw (hex-step l._k l.rest (omega arith), ← c.hex_digit.ensures) at l.invariant) p.ensures p.auto.line

pub returns : goal.returns
returns c =
    going_end (rw (hex-none c.loop-k._k c.loop-k.rest (omega arith)) at c.loop-k.invariant)
