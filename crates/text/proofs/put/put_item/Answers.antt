-- `text::put::put_item` meets its contract: a field, and a blank in front. Assumes nothing.
use native.Mathlib.Omega.{arith}
use Rattle.text.proofs.Puts.{put_then, put-room}
use Rattle.text.proofs.Fields.{field-short}
use Rattle.text.proofs.put.put_item.Goals as goal

pub returns : goal.returns
returns c = put_then c.put_field-i.ensures c.put.ensures

pub put-requires : goal.put-requires
put-requires c =
    let p = c.put_field-i in
    put-room 1 p.ensures p.auto.line (omega (arith, c.requires.0, field-short c.args.field)) c.requires.1
