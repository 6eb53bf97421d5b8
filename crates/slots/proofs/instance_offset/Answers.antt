-- `slots::instance_offset` meets its contract: the product is that of the branching form. Assumes nothing.
use Prim.Native.Nat.{◌*◌, ◌^◌, ◌<◌}
use native.Mathlib.Omega.{arith}
use Rattle.slots.specs.Step.{product-of-bit, digit-times}
use Rattle.slots.proofs.Product.{below}
use Rattle.slots.proofs.instance_offset.Goals as goal

pub overflow_mul-result : goal.overflow_mul-result
overflow_mul-result c =
    let few : c.step_digit.result * c.args.w < 2 ^ 32 = let h = digit-times c.args.by_instance c.args.w in rw c.step_digit.ensures (omega (arith, h)) in
    omega (arith, few)

pub overflow_mul-result-2 : goal.overflow_mul-result-2
overflow_mul-result-2 c =
    let few : c.step_digit.result * c.args.w < 2 ^ 32 = let h = digit-times c.args.by_instance c.args.w in rw c.step_digit.ensures (omega (arith, h)) in
    let hn : c.args.stride < 2 ^ 32 = omega arith in
    omega (arith, below 32 few hn)

pub returns : goal.returns
returns c = rw c.step_digit.ensures (product-of-bit c.args.by_instance c.args.w c.args.stride)
