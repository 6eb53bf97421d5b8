-- `state_text::write_lines` meets its contract. Invariant: the first k lines are laid into `out`. Measure: the lines left. Assumes nothing.
use Prim.Native.Nat.{ℕ, suc, ◌+◌, ◌≤◌}
use native.Mathlib.Omega.{arith}
use mathlib.Core.Path.{◌≡◌, ap, ◌∙◌}
use lib.ListN.{length}
use Rattle.state_text.specs.State.{lines_to, state_line}
use Rattle.text.specs.Wrote.{laid}
use Rattle.state_text.proofs.Lines.{start, laid-start, next-lines, next-long, lines-le, laid-long, laid-join}
use Rattle.state_text.proofs.write_lines.Goals as goal

pub loop-k-init : goal.loop-k-init
loop-k-init c =
    let a = c.args in
    (start a.at (state_line a.s.now), laid-start a.out.now a.at (state_line a.s.now))

pub shape_of-out : goal.shape_of-out
shape_of-out c =
    let fit : (j : ℕ) → j ≤ 375 → c.args.at + length (lines_to j (state_line c.args.s.now)) ≤ length c.args.out.now = λ j h. omega (arith, c.requires, lines-le (state_line c.args.s.now) j 375 h) in
    let long : (j : ℕ) → j ≤ 375 → length (laid c.args.out.now c.args.at (lines_to j (state_line c.args.s.now))) ≡ length c.args.out.now = λ j h. laid-long c.args.out.now c.args.at (lines_to j (state_line c.args.s.now)) (fit j h) in
    let l = c.loop-k in
    ap length l.invariant.1 ∙ long l.k (omega arith)

pub returns : goal.returns
returns c =
    let l = c.loop-k in
    let e : l.k ≡ 375 = omega arith in
    (rw e at l.invariant.1, rw e at l.invariant.0)

pub write_next-i-requires : goal.write_next-i-requires
write_next-i-requires c =
    let fit : (j : ℕ) → j ≤ 375 → c.args.at + length (lines_to j (state_line c.args.s.now)) ≤ length c.args.out.now = λ j h. omega (arith, c.requires, lines-le (state_line c.args.s.now) j 375 h) in
    let long : (j : ℕ) → j ≤ 375 → length (laid c.args.out.now c.args.at (lines_to j (state_line c.args.s.now))) ≡ length c.args.out.now = λ j h. laid-long c.args.out.now c.args.at (lines_to j (state_line c.args.s.now)) (fit j h) in
    let l = c.loop-k in
    let h = fit (suc l.k) (omega arith) in
    omega (arith, h, long l.k (omega arith), ap length l.invariant.1, next-long l.k (state_line c.args.s.now), l.invariant.0)

pub loop-k-preserved : goal.loop-k-preserved
loop-k-preserved c =
    let l = c.loop-k in
    let a = c.args in
    let w = c.write_next-i.ensures in
    let f = state_line a.s.now in
    let t = lines_to l.k f in
    let fits : a.at + length t ≤ length a.out.now = omega (arith, c.requires, lines-le f l.k 375 (omega arith)) in
    let e : l.k + 1 ≡ suc l.k = omega arith in (
      rw e (omega (arith, w.1, l.invariant.0, next-long l.k f)),
      rw e
          (w.0
          ∙ ap (λ x. laid x l.i (f l.k)) l.invariant.1
          ∙ ap (λ i. laid (laid a.out.now a.at t) i (f l.k)) l.invariant.0
          ∙ laid-join a.out.now a.at t (f l.k) fits
          ∙ ap (laid a.out.now a.at) (next-lines l.k f)),
    )
