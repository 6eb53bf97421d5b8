use Prim.Native.Nat.{◌<◌, ◌^◌}
use native.Mathlib.Omega.{arith}
use Rattle.slots.proofs.Product.{below}
use Rattle.draw_calls.proofs.Index.{size_small, past-field}
use Rattle.draw_calls.proofs.draws.index_over.Goals as goal

pub overflow_mul-more : goal.overflow_mul-more
overflow_mul-more c =
    let s : c.index_size-size.result < 2 ^ 32 = rw c.index_size-size.ensures (size_small c.args.d.index_format) in
    let f : c.args.first < 2 ^ 32 = omega arith in
    record { fits = omega (arith, below 32 s f) }

pub returns : goal.returns
returns c =
    let h : c.args.d.index_offset < 2 ^ 64 = omega arith in
    rw c.index_size-size.ensures (past-field _ _ h)
