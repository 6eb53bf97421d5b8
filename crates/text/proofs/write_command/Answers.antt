-- `text::write_command` meets its contract: what stands in `line` from `start` on is the line. Assumes nothing.
use mathlib.Core.Path.{◌≡◌, refl, ◌∙◌}
use mathlib.Core.List.{append-nil}
use lib.ListN.{drop}
use Rattle.text.specs.Command.{line_of}
use Rattle.text.specs.Put.{line_from}
use Rattle.text.proofs.Placed.{placed, line-is}
use Rattle.text.proofs.write_command.Goals as goal

pub put_line-start-requires : goal.put_line-start-requires
put_line-start-requires c =
    let t = c.shown-told.ensures in
    (refl, rw t.named (placed c.args.command).0, t.within)

pub returns : goal.returns
returns c =
    let a = c.args in
    let t = c.shown-told in
    let e : drop c.put_line-start.result c.put_line-start.new.line ≡ line_of a.number a.command =
    c.put_line-start.ensures.holds
    ∙ append-nil (line_from a.number t.result)
    ∙ line-is a.number a.command t.result t.ensures in
    rw (← e) c.paste.ensures
