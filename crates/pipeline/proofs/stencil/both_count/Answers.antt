-- `pipeline::stencil::both_count` meets its contract. Assumes nothing.
use native.Mathlib.Omega.{arith}
use lib.ListN.{length-append}
use Rattle.pipeline.specs.Fixed.{stencil_funcs, stencil_ops}
use Rattle.pipeline.proofs.stencil.both_count.Goals as goal

pub returns : goal.returns
returns c =
    let s = c.args.s in
    (omega (arith, length-append (stencil_funcs s) (stencil_ops s), c.stencil_op_count.ensures.0, c.stencil_func_count.ensures.0), omega arith)
