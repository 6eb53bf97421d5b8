-- Laws of the fields of a line: how long they are, and how a row of fields ends. Assumes nothing.
use Prim.Native.Nat.{ℕ, zero, suc, ◌-◌, ◌*◌, ◌≤◌, ◌<◌}
use native.Mathlib.Omega.{arith}
use mathlib.Core.Path.{◌≡◌, refl, sym, ap, ◌∙◌}
use mathlib.Core.List.{List, [], ◌∷◌, ◌++◌, append_assoc, append-nil}
use lib.IntN.{ℤ, pos, negsuc}
use lib.ListN.{length, take, get_or, length-append, length-take}
use lib.Seq.{take-suc}
use Rattle.numbers.specs.Convert.{bits32}
use Rattle.std.specs.Prelude.{Option, None, Some}
use Rattle.text.specs.declared.field.Field.{Field}
use Rattle.text.specs.declared.field.Field.TheVariants.{Number, Long, Signed, Flag, Float, Bits, Optional, Buffer, Absent, Text}
use Rattle.text.specs.declared.field.Word.{Word}
use Rattle.text.specs.declared.field.Word.TheVariants.{DirtyMask, State}
use Rattle.text.specs.declared.field.Shown.{Shown}
use Rattle.text.specs.Digits.{signed}
use Rattle.text.specs.Field.{optional, present_of, word_text, field_text, spaced}
use Rattle.text.specs.Shown.{list_of, name_at}
use Rattle.text.specs.Put.{body_of}
use Rattle.text.proofs.Digits.{decimal-long, hex-long}
use Rattle.text.proofs.Names.{name-short}

signed-short : (z : ℤ) → length (signed z) ≤ 21
signed-short (pos n) = omega (arith, decimal-long n)
signed-short (negsuc n) = omega (arith, decimal-long (suc n))

optional-short : (o : Option ℕ) → length (optional o) ≤ 21
optional-short None = omega arith
optional-short (Some n) = omega (arith, decimal-long n)

pub word-short : (w : Word) → length (word_text w) ≤ 21
word-short DirtyMask = omega arith
word-short State = omega arith

-- a field has at most 21 bytes
pub field-short : (f : Field) → length (field_text f) ≤ 21
field-short (Number n) = omega (arith, decimal-long n)
field-short (Long n) = omega (arith, decimal-long n)
field-short (Signed z) = signed-short z
field-short (Flag b) = omega arith
field-short (Float x) = omega (arith, hex-long 8 (bits32 x))
field-short (Bits n) = omega (arith, hex-long 8 n)
field-short (Optional o) = optional-short o
field-short (Buffer n) = optional-short (present_of n)
field-short Absent = omega arith
field-short (Text w) = word-short w

-- a row of fields, each after a blank
spaced-short : (fs : List Field) → length (spaced fs) ≤ 22 * length fs
unfolding spaced
spaced-short [] = omega arith
spaced-short (f ∷ fs) = omega (arith, length-append (field_text f) (spaced fs), field-short f, spaced-short fs)

pub shown-short : (s : Shown) → s.count ≤ 14 → length (spaced (list_of s)) ≤ 308
shown-short s h =
    let n : length (list_of s) ≤ 14 = simp length-take (omega arith) in
    omega (arith, spaced-short (list_of s))

-- a name, its fields and a newline
pub body-short : (s : Shown) → s.name < 74 → s.count ≤ 14 → length (body_of s) ≤ 333
body-short s n h =
    let f = spaced (list_of s) in
    omega (
      arith,
      shown-short s h,
      name-short s.name n,
      length-append f (10 ∷ []),
      length-append (name_at s.name) (f ++ (10 ∷ [])),
    )

spaced-append : (xs ys : List Field) → spaced (xs ++ ys) ≡ spaced xs ++ spaced ys
unfolding spaced
spaced-append [] ys = refl
spaced-append (x ∷ xs) ys =
    ap (λ t. 32 ∷ (field_text x ++ t)) (spaced-append xs ys)
    ∙ ap (λ t. 32 ∷ t) (sym (append_assoc (field_text x) (spaced xs) (spaced ys)))

spaced-one : (f : Field) → spaced (f ∷ []) ≡ 32 ∷ field_text f
unfolding spaced
spaced-one f = ap (λ t. 32 ∷ t) (append-nil (field_text f))

-- the last of k fields
pub spaced-step : (l : List Field) (k : ℕ) (d : Field) → 0 < k → k ≤ length l
    → spaced (take k l) ≡ spaced (take (k - 1) l) ++ (32 ∷ field_text (get_or l (k - 1) d))
spaced-step l k d p h =
    let e : k ≡ suc (k - 1) = omega arith in
    let i : k - 1 < length l = omega arith in
    ap (λ j. spaced (take j l)) e
    ∙ ap spaced (take-suc l (k - 1) d i)
    ∙ spaced-append (take (k - 1) l) (get_or l (k - 1) d ∷ [])
    ∙ ap (λ t. spaced (take (k - 1) l) ++ t) (spaced-one (get_or l (k - 1) d))

-- no field
pub spaced-none : (l : List Field) (k : ℕ) → k ≤ 0 → spaced (take k l) ≡ []
unfolding spaced
spaced-none l zero h = refl
spaced-none l (suc _) h = elim h [ ]
