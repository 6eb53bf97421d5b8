-- `pass::begin::draw_buffers` meets its contract. Assumes nothing.
use mathlib.Core.Path.{◌≡◌}
use native.Mathlib.Omega.{arith}
use Rattle.pass.proofs.begin.draw_buffers.Goals as goal

pub returns : goal.returns
returns c =
    λ h.
    let n : c.within-n.result ≡ c.args.count = omega (arith, h, c.within-n.ensures) in
    rw n
