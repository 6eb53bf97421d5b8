-- `pipeline::targets::target_command_at` meets its contract, by the place of the target. Assumes nothing.
use mathlib.Core.Path.{sym, ◌∙◌}
use Rattle.pipeline.specs.Fixed.{targets_in}
use Rattle.pipeline.proofs.Target.{stands_alike, stands-each}
use Rattle.pipeline.proofs.targets.target_command_at.Goals as goal

pub returns-then-alike : goal.returns-then-alike
returns-then-alike c = λ e. rw (c.target_in.ensures, c.counted-targets.ensures) (stands_alike (targets_in c.args.p) c.args.k (sym e ∙ c.if-alike.true))

pub returns-else-alike : goal.returns-else-alike
returns-else-alike c =
    λ e. rw (c.target_in-else-alike.ensures, c.counted-targets.ensures) (stands-each (targets_in c.args.p) c.args.k (sym e ∙ c.if-alike.false))
