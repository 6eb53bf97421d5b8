-- `cheaper::order::remove` meets its contract: below j nothing has changed; from j up to the place before k each element is the next one. Assumes nothing.
use mathlib.Core.Path.{◌≡◌}
use native.Mathlib.Omega.{arith}
use borrow.Author.Rules.{rules}
use Rattle.cheaper.proofs.Digits.{moved_down}
use Rattle.cheaper.proofs.order.remove.Goals as goal

pub returns : goal.returns
returns c =
    let l = c.loop-k in
    let a = c.args in
    let e : l.k ≡ a.m = omega arith in
    moved_down a.left l.r a.m a.j (search rules) l.invariant.0 c.requires.0 c.requires.1 l.invariant.1 (λ q h m. l.invariant.2 q h (omega arith))
