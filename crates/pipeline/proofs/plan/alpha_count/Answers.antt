-- `pipeline::plan::alpha_count` meets its contract. Assumes nothing.
use mathlib.Core.Bool.{not}
use Rattle.records.specs.Same.{same_bool}
use Rattle.records.specs.declared.command.Command.TheVariants.{SetAlphaToCoverage}
use Rattle.pipeline.proofs.Ladder.{only-long}
use Rattle.pipeline.proofs.plan.alpha_count.Goals as goal

pub returns : goal.returns
returns c =
    let a = c.args in
    (rw (only-long (not (same_bool a.new a.old)) (SetAlphaToCoverage a.new)) c.one_if.ensures.0, c.one_if.ensures.1)
