-- The index offset of a draw, within 64 bits or not. Assumes nothing.
use Prim.Native.Nat.{ℕ, ◌+◌, ◌-◌, ◌<◌, ◌≤◌, ◌^◌}
use mathlib.Core.Bool.{Bool, true, false}
use mathlib.Core.Path.{◌≡◌, refl}
use native.Mathlib.Omega.{arith}
use lib.Dec.{ltb, leb, lit<}
use borrow.Author.Tests.{leb-true, leb-false, lt-ltb, le-ltb}
use Rattle.records.specs.declared.state.IndexFormat.{IndexFormat}
use Rattle.records.specs.declared.state.IndexFormat.TheVariants.{Uint16, Uint32}
use Rattle.calls.specs.Draws.{index_size}

pub size_small : (f : IndexFormat) → index_size f < 2 ^ 32
size_small Uint16 = lit< tt
size_small Uint32 = lit< tt

-- a sum past 64 bits, said without the sum
pub past-field : (offset more : ℕ) → offset < 2 ^ 64 → ltb (18446744073709551615 - offset) more ≡ leb (2 ^ 64) (offset + more)
past-field offset more h = go (leb (2 ^ 64) (offset + more)) refl
  where
    go : (t : Bool) → leb (2 ^ 64) (offset + more) ≡ t → ltb (18446744073709551615 - offset) more ≡ t
    go true e = let l : 2 ^ 64 ≤ offset + more = leb-true (2 ^ 64) (offset + more) e in lt-ltb (18446744073709551615 - offset) more (omega arith)
    go false e = let l : offset + more < 2 ^ 64 = leb-false (2 ^ 64) (offset + more) e in le-ltb (18446744073709551615 - offset) more (omega arith)
