-- `pipeline::plan::clip_count` meets its contract. Assumes nothing.
use mathlib.Core.Bool.{not}
use lib.Dec.{eqb}
use Rattle.records.specs.declared.command.Command.TheVariants.{SetClipDistances}
use Rattle.pipeline.proofs.Ladder.{only-long}
use Rattle.pipeline.proofs.plan.clip_count.Goals as goal

pub returns : goal.returns
returns c =
    let a = c.args in
    (rw (only-long (not (eqb a.new a.old)) (SetClipDistances a.old a.new)) c.one_if.ensures.0, c.one_if.ensures.1)
