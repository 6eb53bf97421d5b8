-- `text::put::put_line` meets its contract: the number in front of the rest. Assumes nothing.
use native.Mathlib.Omega.{arith}
use Rattle.text.proofs.Puts.{put_then, put-room}
use Rattle.text.proofs.Fields.{body-short}
use Rattle.text.proofs.put.put_line.Goals as goal

pub returns : goal.returns
returns c = put_then c.put_shown-i.ensures c.put_decimal.ensures

pub put_decimal-requires : goal.put_decimal-requires
put_decimal-requires c =
    put-room 20 c.put_shown-i.ensures c.put_shown-i.auto.line
    (omega (arith, body-short c.args.shown c.requires.1 c.requires.2))
    (omega (arith, c.requires.0))
