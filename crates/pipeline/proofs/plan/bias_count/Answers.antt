-- `pipeline::plan::bias_count` meets its contract. Assumes nothing.
use mathlib.Core.Bool.{not}
use Rattle.records.specs.Same.{same_depth_bias}
use Rattle.records.specs.declared.command.Command.TheVariants.{SetDepthBias}
use Rattle.pipeline.proofs.Ladder.{only-long}
use Rattle.pipeline.proofs.plan.bias_count.Goals as goal

pub returns : goal.returns
returns c =
    let a = c.args in (
      rw (only-long (not (same_depth_bias a.new a.old)) (SetDepthBias a.new), c.one_if.ensures.0, c.same_depth_bias-differs.ensures),
      c.one_if.ensures.1,
    )
