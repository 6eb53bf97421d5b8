-- A field's text, by the signs of tools/oracle/README.md, 'Fields'. Definitions only.
use Rattle.std.specs.Prelude.{ℕ, Bool, true, false, cond, List, [], ◌∷◌, ◌++◌, eqb, Option, None, Some}
use Rattle.numbers.specs.Convert.{bits32}
use Rattle.text.specs.declared.field.Field.{Field}
use Rattle.text.specs.declared.field.Field.TheVariants.{Number, Long, Signed, Flag, Float, Bits, Optional, Buffer, Absent, Text}
use Rattle.text.specs.declared.field.Word.{Word}
use Rattle.text.specs.declared.field.Word.TheVariants.{DirtyMask, State}
use Rattle.names.specs.Ascii.{ascii}
use Rattle.text.specs.Digits.{decimal, hex, signed, dash}

-- a flag: 0 or 1
abbrev pub flag_byte : Bool → ℕ
flag_byte true = 49
flag_byte false = 48

-- a number, or `-`
abbrev pub optional : Option ℕ → List ℕ
optional None = dash
optional (Some n) = decimal n

-- a buffer's number: 0 is none
abbrev pub present_of : ℕ → Option ℕ
present_of n = cond (eqb n 0) None (Some n)

-- a word between the fields
abbrev pub word_text : Word → List ℕ
word_text DirtyMask = ascii "dirty_mask"
word_text State = ascii "state"

-- u, u of 64 bits, i, b, x, X, o, o of a buffer, none, a word
abbrev pub field_text : Field → List ℕ
field_text (Number n) = decimal n
field_text (Long n) = decimal n
field_text (Signed z) = signed z
field_text (Flag b) = flag_byte b ∷ []
field_text (Float x) = hex (bits32 x)
field_text (Bits n) = hex n
field_text (Optional o) = optional o
field_text (Buffer n) = optional (present_of n)
field_text Absent = dash
field_text (Text w) = word_text w

-- fields in a row, each after a blank
unfoldable pub spaced : List Field → List ℕ
spaced [] = []
spaced (f ∷ fs) = 32 ∷ (field_text f ++ spaced fs)
