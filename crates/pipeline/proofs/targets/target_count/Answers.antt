-- `pipeline::targets::target_count` meets its contract. Assumes nothing.
use mathlib.Core.Path.{sym, ◌∙◌}
use native.Mathlib.Omega.{arith}
use lib.ListN.{length-take}
use Rattle.pipeline.specs.Fixed.{targets_in}
use Rattle.pipeline.specs.Targets.{each_long}
use Rattle.pipeline.proofs.Long.{targets-long}
use Rattle.pipeline.proofs.Target.{alike_is, each-is}
use Rattle.pipeline.proofs.targets.target_count.Goals as goal

pub returns-then-alike : goal.returns-then-alike
returns-then-alike c = (λ e. rw (alike_is (targets_in c.args.p) (sym e ∙ c.if-alike.true)), omega arith)

pub returns-else-alike : goal.returns-else-alike
returns-else-alike c =
    let p = c.args.p in
    let n = length-take p.color_target_count p.color_targets in (
      λ e. rw (each-is (targets_in p) (sym e ∙ c.if-alike.false), each_long 0 (targets_in p)) (omega (arith, n, targets-long p _ c.well_formed.0)),
      omega arith,
    )
