-- `pipeline::stencil::stencil_func_count` meets its contract. Assumes nothing.
use mathlib.Core.Path.{sym, ◌∙◌}
use native.Mathlib.Omega.{arith}
use Rattle.pipeline.proofs.stencil.stencil_func_count.Goals as goal

pub returns-then-same_stencil_func : goal.returns-then-same_stencil_func
returns-then-same_stencil_func c = (rw (sym c.same_stencil_func.ensures ∙ c.if-same_stencil_func.true), omega arith)

pub returns-else-same_stencil_func : goal.returns-else-same_stencil_func
returns-else-same_stencil_func c = (rw (sym c.same_stencil_func.ensures ∙ c.if-same_stencil_func.false), omega arith)
