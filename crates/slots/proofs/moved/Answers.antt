-- `slots::moved` meets its contract. Assumes nothing.
use Prim.Native.Nat.{ℕ}
use mathlib.Core.Bool.{not, ◌&&◌}
use native.Mathlib.Omega.{arith}
use lib.Dec.{eqb}
use Rattle.mask.specs.Mask.{test_bit}
use Rattle.mask.specs.By.{by-is}
use Rattle.mask.specs.Laws.{test_zero}
use Rattle.slots.specs.Vertex.{instance_at}
use Rattle.slots.proofs.moved.Goals as goal

-- no slot is stepped by instance
pub returns-then-v-eq0 : goal.returns-then-v-eq0
returns-then-v-eq0 c =
    let a = c.args in
    by-is 16 0 (λ (i : ℕ). test_bit a.v.instance_vbuf_mask i && not (eqb a.w (instance_at a.v i))) (omega arith) (λ i h. rw (c.if-v-eq0.true, test_zero i))
