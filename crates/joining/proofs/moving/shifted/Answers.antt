use native.Mathlib.Omega.{arith}
use Rattle.joining.proofs.Sums.{shift-here, shift-far, shift-wide}
use Rattle.joining.proofs.moving.shifted.Goals as goal

-- src/moving.rt:17:13
pub returns-then-sum-lt4294967296 : goal.returns-then-sum-lt4294967296
returns-then-sum-lt4294967296 c = shift-here c.args.by c.args.n (omega arith) (omega arith)

-- src/moving.rt:11:1
pub returns-else-sum-lt4294967296 : goal.returns-else-sum-lt4294967296
returns-else-sum-lt4294967296 c = shift-far c.args.by c.args.n (omega arith)

-- src/moving.rt:11:1
pub returns-else-by-le65536 : goal.returns-else-by-le65536
returns-else-by-le65536 c = shift-wide c.args.by c.args.n (omega arith)
