-- `pass::opening::push_label` meets its contract: what is in its field is not cut. Assumes nothing.
use mathlib.Core.Path.{◌≡◌}
use native.Mathlib.Omega.{arith}
use Rattle.pass.proofs.opening.push_label.Goals as goal

pub returns : goal.returns
returns c =
    λ h.
    let a = c.args in
    let p : c.within-start.result ≡ a.at = omega (arith, h, c.within-start.ensures) in
    let q : c.within.result ≡ a.bytes = omega (arith, h, p, c.within.ensures) in
    rw (p, q)
