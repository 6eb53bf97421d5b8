use Prim.Native.Nat.{◌<◌, ◌^◌}
use native.Mathlib.Omega.{arith}
use Rattle.slots.proofs.Product.{below}
use Rattle.draw_calls.proofs.Index.{size_small}
use Rattle.draw_calls.proofs.draws.index_offset.Goals as goal

pub overflow_mul-more : goal.overflow_mul-more
overflow_mul-more c =
    let s : c.index_size-size.result < 2 ^ 32 = rw c.index_size-size.ensures (size_small c.args.d.index_format) in
    let f : c.args.first < 2 ^ 32 = omega arith in
    record { fits = omega (arith, below 32 s f) }

pub returns-then-d-more : goal.returns-then-d-more
returns-then-d-more c =
    λ h.
    let t = c.if-d-more.true in
    let e = c.index_size-size.ensures in
    absurd (omega (arith, rw e at t, h))

pub returns-else-d-more : goal.returns-else-d-more
returns-else-d-more c = λ h. rw c.index_size-size.ensures
