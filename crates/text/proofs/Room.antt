-- What is left in lent bytes, and answered, where there is room for a text and where there is none. Assumes nothing.
use Prim.Native.Nat.{ℕ, ◌+◌, ◌≤◌, ◌<◌}
use mathlib.Core.Path.{◌≡◌}
use mathlib.Core.List.{List}
use lib.ListN.{length}
use borrow.Author.Tests.{le-leb, lt-leb}
use Rattle.std.specs.Prelude.{None, Some}
use Rattle.text.specs.Wrote.{laid, pasted, wrote_of}

pub room : (out : List ℕ) (at : ℕ) (t : List ℕ) → at + length t ≤ length out
    → (pasted out at t ≡ laid out at t) × (wrote_of out at t ≡ Some (at + length t))
room out at t h = let e = le-leb (at + length t) (length out) h in (rw e, rw e)

pub no_room : (out : List ℕ) (at : ℕ) (t : List ℕ) → length out < at + length t → (out ≡ pasted out at t) × (None ≡ wrote_of out at t)
no_room out at t h = let e = lt-leb (at + length t) (length out) h in (rw e, rw e)
