use native.Mathlib.Omega.{arith}
use Rattle.joining.proofs.Sums.{short-commands, short-bytes, short-queries}
use Rattle.joining.proofs.plan.done_plan.Goals as goal

-- src/plan.rt:320:35
pub overflow_add-used : goal.overflow_add-used
overflow_add-used c = omega (arith, short-commands c.args.x c.args.n c.requires)

-- src/plan.rt:320:19
pub overflow_add-used-2 : goal.overflow_add-used-2
overflow_add-used-2 c = omega (arith, short-commands c.args.x c.args.n c.requires)

-- src/plan.rt:321:16
pub overflow_add-used-3 : goal.overflow_add-used-3
overflow_add-used-3 c = omega (arith, short-bytes c.args.x c.args.n c.requires)

-- src/plan.rt:322:18
pub overflow_add-used-4 : goal.overflow_add-used-4
overflow_add-used-4 c = omega (arith, short-queries c.args.x c.args.n c.requires)

-- src/plan.rt:325:19
pub overflow_add-from : goal.overflow_add-from
overflow_add-from c = omega (arith, short-commands c.args.x c.args.n c.requires)
