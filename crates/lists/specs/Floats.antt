-- The floats that a record sets: a record's type has no others than those of `f32`. Definitions only.
use Rattle.std.specs.Prelude.{◌≡◌, T, Float}
use Rattle.std.specs.Float.{binary32}
use Rattle.std.specs.Float.Ieee.{fits}
use Rattle.records.specs.declared.command.ColorF32.{ColorF32}
use Rattle.records.specs.declared.command.Command.{Command}
use Rattle.records.specs.declared.command.Command.TheVariants.{SetBlendConstant}

-- a value of the type `f32`: the logic has one type for the floats of all formats
abbrev pub IsF32 : Float → Type 0
IsF32 x = T (fits binary32 x)

abbrev pub AreF32 : ColorF32 → Type 0
AreF32 c = IsF32 c.r × IsF32 c.g × IsF32 c.b × IsF32 c.a

-- the blend constants that a command sets
abbrev pub SetsF32 : Command → Type 0
SetsF32 c = (x : ColorF32) → c ≡ SetBlendConstant x → AreF32 x
