-- `text::put::put_shown` meets its contract: three texts, each in front of the last. Assumes nothing.
use native.Mathlib.Omega.{arith}
use mathlib.Core.Path.{◌∙◌}
use mathlib.Core.List.{[], ◌∷◌}
use lib.ListN.{length-append}
use Rattle.text.specs.Field.{spaced}
use Rattle.text.specs.Shown.{list_of}
use Rattle.text.proofs.Puts.{put_then, put-room}
use Rattle.text.proofs.Fields.{shown-short}
use Rattle.text.proofs.put.put_shown.Goals as goal

pub returns : goal.returns
returns c =
    put_then (put_then c.put-end.ensures c.put_fields-fields.ensures) c.put_name.ensures

pub put_name-requires : goal.put_name-requires
put_name-requires c =
    let f = spaced (list_of c.args.shown) in
    let m = put-room 24 (put_then c.put-end.ensures c.put_fields-fields.ensures) (c.put_fields-fields.auto.line ∙ c.put-end.auto.line)
    (omega (arith, shown-short c.args.shown c.requires.2, length-append f (10 ∷ []))) (omega (arith, c.requires.0)) in
    (m.0, m.1, c.requires.1)
