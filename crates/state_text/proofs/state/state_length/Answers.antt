-- `state_text::state::state_length` meets its contract. Invariant: the bytes of the first k lines. Measure: the lines left. Assumes nothing.
use Prim.Native.Nat.{suc, ◌+◌}
use native.Mathlib.Omega.{arith}
use mathlib.Core.Path.{◌≡◌, refl}
use Rattle.state_text.specs.State.{lines_to, state_line}
use Rattle.state_text.proofs.Lines.{next-long}
use Rattle.state_text.proofs.state.state_length.Goals as goal

pub loop-k-init : goal.loop-k-init
unfolding lines_to
loop-k-init c = (omega arith, refl)

pub loop-k-preserved : goal.loop-k-preserved
loop-k-preserved c =
    let l = c.loop-k in
    let a = c.args in
    let r = c.line_length-total.ensures in
    let e : l.k + 1 ≡ suc l.k = omega arith in
    let n = next-long l.k (state_line a.s.now) in
    (omega (arith, r.1, l.invariant.0), rw e (omega (arith, n, l.invariant.1, r.0)))

pub returns : goal.returns
returns c =
    let l = c.loop-k in
    let e : l.k ≡ 375 = omega arith in
    rw e at l.invariant.1
