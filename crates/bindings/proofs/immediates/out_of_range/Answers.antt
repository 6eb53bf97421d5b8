-- `bindings::immediates::out_of_range` meets its contract. Assumes nothing.
use Prim.Native.Nat.{ℕ, ◌+◌, ◌/◌, min}
use mathlib.Core.Bool.{Bool, true, false}
use mathlib.Core.Path.{◌≡◌, refl}
use native.Mathlib.Omega.{arith}
use lib.Dec.{ltb}
use borrow.Author.Tests.{ltb-true, ltb-false, lt-ltb, le-ltb}
use Rattle.bindings.proofs.immediates.out_of_range.Goals as goal

-- the sum is above 64 with the count, or with 65 in its place where it is larger
same : (x n : ℕ) → ltb 64 (x + min n 65) ≡ ltb 64 (x + n)
same x n = go (ltb 64 (x + n)) refl
  where
    go : (t : Bool) → ltb 64 (x + n) ≡ t → ltb 64 (x + min n 65) ≡ t
    go true e = lt-ltb 64 (x + min n 65) (omega (arith, ltb-true 64 (x + n) e))
    go false e = le-ltb 64 (x + min n 65) (omega (arith, ltb-false 64 (x + n) e))

pub returns : goal.returns
returns c =
    let a = c.args in
    rw (c.min.ensures, same (a.offset / 4) a.count)
