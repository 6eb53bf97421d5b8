use Prim.Native.Nat.{◌<◌, ◌^◌}
use native.Mathlib.Omega.{arith}
use Rattle.slots.proofs.Product.{below}
use Rattle.draw_calls.proofs.drawn.record_offset.Goals as goal

pub overflow_mul-more : goal.overflow_mul-more
overflow_mul-more c =
    let s : c.args.size < 2 ^ 32 = omega (arith, c.requires.1) in
    record { fits = omega (arith, below 32 c.requires.0 s) }
