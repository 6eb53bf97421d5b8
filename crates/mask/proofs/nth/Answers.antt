-- `mask::nth` meets its contract: what is left has the place at k - counter. Assumes nothing.
use Rattle.std.proofs.Common.{rules, ◌≡◌, ℕ, suc, ◌+◌, ◌-◌, get_or, sym, ap, ◌∙◌, arith}
use Rattle.mask.specs.Mask.{places}
use Rattle.mask.specs.Laws.{nth-zero, nth-rest, nth-none, rest_le}
use Rattle.mask.proofs.nth.Goals as goal

pub returns-then-k-ge32 : goal.returns-then-k-ge32
returns-then-k-ge32 c = sym (nth-none c.args.m c.args.k c.ranges.m.fits c.if-k-ge32.true)

pub loop-init : goal.loop-init
loop-init c = search rules

pub loop-preserved : goal.loop-preserved
loop-preserved c =
    let l = c.loop in
    let k = c.args.k in
    let e : k - l.counter ≡ suc (k - (l.counter + 1)) = omega (arith, c.loop-test.true) in (
      omega (arith, c.rest-left.ensures, rest_le l.left, l.invariant.0),
      rw c.rest-left.ensures (sym (nth-rest l.left (k - (l.counter + 1)) l.invariant.0) ∙ ap (λ (n : ℕ). get_or (places l.left) n 32) (sym e) ∙ l.invariant.1),
    )

pub returns : goal.returns
returns c =
    let l = c.loop in
    let k = c.args.k in
    let e : k - l.counter ≡ 0 = omega (arith, c.loop-test.false) in
    rw c.lowest.ensures (sym (nth-zero l.left l.invariant.0) ∙ ap (λ (n : ℕ). get_or (places l.left) n 32) (sym e) ∙ l.invariant.1)
