-- `pipeline::stencil::stencil_op_count` meets its contract. Assumes nothing.
use mathlib.Core.Path.{sym, ◌∙◌}
use native.Mathlib.Omega.{arith}
use Rattle.pipeline.proofs.stencil.stencil_op_count.Goals as goal

pub returns-then-same_op : goal.returns-then-same_op
returns-then-same_op c = (rw (sym c.same_op.ensures ∙ c.if-same_op.true), omega arith)

pub returns-else-same_op : goal.returns-else-same_op
returns-else-same_op c = (rw (sym c.same_op.ensures ∙ c.if-same_op.false), omega arith)
