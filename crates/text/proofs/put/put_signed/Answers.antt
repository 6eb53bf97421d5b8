-- `text::put::put_signed` meets its contract: by the bits of z. Assumes nothing.
use Prim.Native.Nat.{◌-◌}
use native.Mathlib.Omega.{arith}
use Rattle.text.proofs.Puts.{put_then, put-room}
use Rattle.text.proofs.Digits.{signed_by, decimal-long}
use Rattle.text.proofs.put.put_signed.Goals as goal

pub returns-then-n-lt2147483648 : goal.returns-then-n-lt2147483648
returns-then-n-lt2147483648 c =
    let u = c.as_u32-n in
    let e = (signed_by c.args.z u.result c.ranges.z.sfits u.ensures).0 c.if-n-lt2147483648.true in
    rw e c.put_decimal.ensures

pub returns : goal.returns
returns c =
    let u = c.as_u32-n in
    let e = (signed_by c.args.z u.result c.ranges.z.sfits u.ensures).1 c.if-n-lt2147483648.false in
    rw e (put_then c.put_decimal-i.ensures c.put.ensures)

pub put-requires : goal.put-requires
put-requires c =
    let u = c.as_u32-n in
    let p = c.put_decimal-i in
    put-room 1 p.ensures p.auto.line (omega (arith, c.requires.0, decimal-long (4294967296 - u.result))) c.requires.1
