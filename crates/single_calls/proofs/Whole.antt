-- An `i32` that a function gives, read back from its bits. Assumes nothing.
use Prim.Native.Nat.{◌<◌, ◌^◌}
use mathlib.Core.Path.{◌≡◌, ◌∙◌}
use lib.IntN.{ℤ}
use lib.Signed.{mag}
use mir.Syntax.{w32}
use mir.Val.{to_z, of_z}
use mir.ValLaws.{to_z-of_z}

pub whole : (z : ℤ) {y : ℤ} → mag z < 2 ^ 31 → z ≡ y → to_z w32 (of_z w32 z) ≡ y
whole z h e = to_z-of_z w32 z (record { sfits = h }) ∙ e
