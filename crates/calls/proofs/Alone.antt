-- A list of one command, by place. Assumes nothing.
use Prim.Native.Nat.{ℕ, zero, suc}
use mathlib.Core.List.{[], ◌∷◌}
use mathlib.Core.Path.{refl}
use native.Mathlib.Nat.{le_of_suc-le-suc, not-suc-le-zero}
use Rattle.records.specs.declared.command.Command.{Command}
use Rattle.slots.specs.Place.{Stands}

pub alone : (c : Command) (k : ℕ) → Stands c k (c ∷ [])
alone c zero h d = refl
alone c (suc k) h d = absurd (not-suc-le-zero (le_of_suc-le-suc h))
