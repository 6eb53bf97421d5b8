-- `pipeline::stencil::both_at` meets its contract: the functions, then the operations. Assumes nothing.
use Prim.Native.Nat.{ℕ, ◌-◌, ◌≤◌, ◌<◌}
use mathlib.Core.Path.{subst}
use native.Mathlib.Omega.{arith}
use lib.ListN.{length}
use Rattle.slots.specs.Place.{Stands}
use Rattle.slots.proofs.Parts.{stands-left, stands-right}
use Rattle.pipeline.specs.Fixed.{stencil_funcs, stencil_ops}
use Rattle.pipeline.proofs.stencil.both_at.Goals as goal

pub returns-then-k-n : goal.returns-then-k-n
returns-then-k-n c =
    let a = c.args in
    let h : a.k < length (stencil_funcs a.s) = omega (arith, c.stencil_func_count-n.ensures.0) in
    stands-left c.stencil_func_at.result a.k (stencil_funcs a.s) (stencil_ops a.s) h c.stencil_func_at.ensures

pub returns-else-k-n : goal.returns-else-k-n
returns-else-k-n c =
    let a = c.args in
    let e = c.stencil_func_count-n.ensures.0 in
    let h : length (stencil_funcs a.s) ≤ a.k = omega (arith, e) in
    stands-right c.stencil_op_at.result a.k (stencil_funcs a.s) (stencil_ops a.s) h
    (subst (λ (n : ℕ). Stands c.stencil_op_at.result (a.k - n) (stencil_ops a.s)) e c.stencil_op_at.ensures)
