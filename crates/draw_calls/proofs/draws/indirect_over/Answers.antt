use Prim.Native.Nat.{◌-◌, ◌<◌, ◌^◌}
use native.Mathlib.Omega.{arith}
use borrow.Author.Tests.{lt-ltb}
use Rattle.slots.proofs.Product.{below}
use Rattle.draw_calls.proofs.Index.{past-field}
use Rattle.draw_calls.proofs.draws.indirect_over.Goals as goal

pub returns-then-count-eq0 : goal.returns-then-count-eq0
returns-then-count-eq0 c = rw c.if-count-eq0.true

pub overflow_mul-more : goal.overflow_mul-more
overflow_mul-more c =
    let s : c.args.size < 2 ^ 32 = omega (arith, c.requires) in
    let k : c.args.count - 1 < 2 ^ 32 = omega arith in
    record { fits = omega (arith, below 32 k s) }

pub returns : goal.returns
returns c =
    let h : c.args.offset < 2 ^ 64 = omega arith in
    let l = c.if-count-eq0.false in
    rw (lt-ltb 0 c.args.count (omega arith)) (past-field c.args.offset _ h)
