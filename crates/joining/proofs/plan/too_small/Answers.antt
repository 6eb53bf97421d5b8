use native.Mathlib.Omega.{arith}
use Rattle.joining.proofs.Sums.{short-commands, short-bytes, short-queries}
use Rattle.joining.proofs.plan.too_small.Goals as goal

-- src/plan.rt:240:46
pub overflow_add-commands : goal.overflow_add-commands
overflow_add-commands c = omega (arith, short-commands c.args.x c.args.n c.requires)

-- src/plan.rt:240:29
pub overflow_add-commands-2 : goal.overflow_add-commands-2
overflow_add-commands-2 c = omega (arith, short-commands c.args.x c.args.n c.requires)

-- src/plan.rt:241:27
pub overflow_add-bytes : goal.overflow_add-bytes
overflow_add-bytes c = omega (arith, short-bytes c.args.x c.args.n c.requires)

-- src/plan.rt:242:31
pub overflow_add-queries : goal.overflow_add-queries
overflow_add-queries c = omega (arith, short-queries c.args.x c.args.n c.requires)
