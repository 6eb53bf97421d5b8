-- "Whatever was unequal remains unequal" (document 02 §12): what §3's comparison of floats (`same_number`) answers of two lists, and what §12's (`same_bits`) does. Definitions only.
use Rattle.std.specs.Prelude.{ℕ, ◌≤◌, ◌≡◌, Bool, false, List, T, Float}
use Rattle.std.specs.Float.{binary32}
use Rattle.std.specs.Float.Ieee.{fits, eq, of_bits}
use Rattle.records.specs.declared.command.ColorF32.{ColorF32}
use Rattle.machine.specs.Each.{Each}
use Rattle.machine.specs.Machine.{Shot}
use Rattle.lists.specs.Limits.{Handed}
use Rattle.boards.specs.declared.compare.Compared.{Compared}
use Rattle.boards.specs.declared.compare.Compared.TheVariants.{Equal, Differs, TooMany, OutOfRange, NoRoom, DrawCounts}
use Rattle.boards.specs.Alike.{same_bits, same_number}
use Rattle.boards.specs.Compared.{number, draws_of, compared}

-- where draw k was the first that differed it is, or an earlier one; a refusal remains the same, and where there was none there is none
abbrev pub Remains : Compared → Compared → Type 0
Remains Equal r = number r ≡ 0
Remains (Differs k) r = (j : ℕ) × (j ≤ k) × (r ≡ Differs j)
Remains TooMany r = r ≡ TooMany
Remains OutOfRange r = r ≡ OutOfRange
Remains NoRoom r = r ≡ NoRoom
Remains DrawCounts r = r ≡ DrawCounts

-- a value of the type `f32`: the logic has one type for the floats of all formats
abbrev pub IsF32 : Float → Type 0
IsF32 x = T (fits binary32 x)

-- a property of each of four constants, and of all blend constants that draws find
abbrev pub OfEach : (Float → Type 0) → ColorF32 → Type 0
OfEach P c = P c.r × P c.g × P c.b × P c.a

abbrev pub OfConstants : (Float → Type 0) → List Shot → Type 0
OfConstants P = Each (λ (s : Shot). OfEach P s.gl.screen.blend)

-- each blend constant that a draw of the list finds is one: so it is of every lent run, whose records hold no other floats (`finds-f32`)
abbrev pub FindsF32 : Handed → Type 0
FindsF32 l = OfConstants IsF32 (draws_of l)

-- zero or minus zero
abbrev pub is_zero : Float → Bool
is_zero x = eq x (of_bits binary32 0)

-- no draw of a list finds a minus zero
abbrev pub NotMinusZero : Float → Type 0
NotMinusZero x = same_bits x (of_bits binary32 0x8000_0000) ≡ false

abbrev pub NoMinusZero : Handed → Type 0
NoMinusZero l = OfConstants NotMinusZero (draws_of l)

-- what `compare` promises of its answer r: it is §12's; whatever was unequal by §3's comparison of floats is unequal by it; and without a minus zero it is §3's
abbrev pub Answered : Handed → Handed → Compared → Type 0
Answered a b r = (r ≡ compared same_bits a b) × Remains (compared same_number a b) r × (NoMinusZero a → NoMinusZero b → r ≡ compared same_number a b)
