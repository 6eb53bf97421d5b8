-- `joining::ending::bound_after` meets its contract, a lemma of `Bounded.antt` for each return. Assumes nothing.
use native.Mathlib.Omega.{arith}
use Rattle.joining.proofs.Bounded.{up-new, up-old, down-above, down-old, down-new}
use Rattle.joining.proofs.ending.bound_after.Goals as goal

-- src/ending.rt:109:13
pub returns-then-bound-new : goal.returns-then-bound-new
returns-then-bound-new c = up-new c.args.bound c.args.old c.args.new (omega arith) (omega arith)

-- src/ending.rt:111:9
pub returns-then-old-new : goal.returns-then-old-new
returns-then-old-new c = up-old c.args.bound c.args.old c.args.new (omega arith) (omega arith)

-- src/ending.rt:114:9
pub returns-then-old-bound : goal.returns-then-old-bound
returns-then-old-bound c = down-above c.args.bound c.args.old c.args.new (omega arith) (omega arith)

-- src/ending.rt:117:9
pub returns-then-bound-new-2 : goal.returns-then-bound-new-2
returns-then-bound-new-2 c = down-old c.args.bound c.args.old c.args.new (omega arith) (omega arith) (omega arith)

-- src/ending.rt:104:1
pub returns : goal.returns
returns c = down-new c.args.bound c.args.old c.args.new (omega arith) (omega arith) (omega arith)
