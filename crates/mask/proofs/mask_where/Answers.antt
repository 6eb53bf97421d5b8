-- `mask::mask_where` meets its contract. Assumes nothing.
use Rattle.std.proofs.Common.{ℕ, ◌^◌, ◌<◌, arith, subst}
use Rattle.mask.specs.Mask.{test_bit}
use Rattle.mask.specs.By.{by-is, grown, set-if-grown}
use Rattle.mask.proofs.mask_where.Goals as goal

pub loop-i-preserved : goal.loop-i-preserved
loop-i-preserved g c =
    let l = c.loop-i in (
      rw c.set_if-m.ensures (set-if-grown c.f.result l.i l.m l.invariant.0 (omega arith)),
      rw c.set_if-m.ensures (grown (λ j b. g.F.Fn.post c.args.f (j, tt) b) c.f.result l.i l.m (omega arith) l.invariant.0 c.f.ensures l.invariant.1),
    )

pub returns-clause-made : goal.returns-clause-made
returns-clause-made g c f e = let l = c.loop-i in by-is c.args.n l.m f (subst (λ (k : ℕ). l.m < 2 ^ k) (omega arith) l.invariant.0) (λ i h. e i (test_bit l.m i) h (l.invariant.1 i (omega arith)))
