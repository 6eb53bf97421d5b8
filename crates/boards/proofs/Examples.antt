-- Worked rows of the comparison: two lists and their answer, by computation, by §12's comparison of floats and by §3's. Assumes nothing.
use Prim.Native.Nat.{ℕ, ◌-◌, ◌^◌}
use mathlib.Core.Path.{◌≡◌, refl}
use mathlib.Core.Bool.{false}
use mathlib.Core.List.{List, [], ◌∷◌, map}
use lib.Ieee.{fin, binary32, to_bits, of_bits, eq, is_nan, fits}
use lib.IntN.{pos, negsuc}
use lib.ListN.{length}
use Rattle.numbers.specs.Convert.{bits32}
use Rattle.records.specs.Check.{some?}
use Rattle.records.specs.declared.command.AttributeDesc.{AttributeDesc}
use Rattle.records.specs.declared.command.Command.{Command}
use Rattle.records.specs.declared.command.Command.TheVariants.{Draw, ResetFramebuffer, SetVertexAttribute, UnsetVertexAttribute, SetVertexBuffer, SetProgram, SetBlendConstant}
use Rattle.records.specs.declared.command.Command.TheVariants.{SetDrawColorBuffers, PushDebugGroup, SetImmediates, CopyQueryResults, BindBuffer, PopDebugGroup}
use Rattle.std.specs.Prelude.{None, Some}
use Rattle.records.specs.declared.command.VertexAttribKind.TheVariants as kind
use Rattle.records.specs.declared.command.VertexBufferDesc.{VertexBufferDesc}
use Rattle.records.specs.declared.command.VertexStepMode.TheVariants.{Vertex}
use Rattle.lists.specs.Shots.{shots_from}
use Rattle.lists.specs.Limits.{Handed}
use Rattle.boards.specs.declared.compare.Compared.{Compared}
use Rattle.boards.specs.declared.compare.Compared.TheVariants.{Equal, Differs, TooMany, OutOfRange, NoRoom, DrawCounts}
use Rattle.boards.specs.Alike.{same_bits, same_number, all_below}
use Rattle.boards.specs.Compared.{first_off, compared}
use Rattle.boards.specs.Remains.{Remains}
use Rattle.boards.proofs.StillUnequal.{still-unequal, as_before}

-- ---- commands
abbrev d : Command
d = Draw 4 0 3 0 1 None

-- an attribute of two floats
abbrev at : ℕ → ℕ → ℕ → AttributeDesc
at location slot offset =
    record { location = location; offset = offset; buffer_index = slot; format_desc = record { element_count = pos 2; element_format = 5126; attrib_kind = kind.Float } }

abbrev by8 : VertexBufferDesc
by8 = record { step = Vertex; stride = 8 }

-- with layout: location and slot, its buffer from the slot; and the slot's buffer
abbrev laid : ℕ → ℕ → ℕ → Command
laid location slot offset = SetVertexAttribute None by8 (at location slot offset)

abbrev slotted : ℕ → ℕ → ℕ → Command
slotted slot raw offset = SetVertexBuffer slot (record { raw = raw; offset = offset }) by8

-- without: the buffer stands in the attribute
abbrev own : ℕ → ℕ → ℕ → ℕ → Command
own location slot raw offset = SetVertexAttribute (Some raw) by8 (at location slot offset)

-- blend constants with these bits
abbrev blend : ℕ → ℕ → ℕ → ℕ → Command
blend r g b a = SetBlendConstant (record { r = of_bits binary32 r; g = of_bits binary32 g; b = of_bits binary32 b; a = of_bits binary32 a })

abbrev alpha : ℕ → Command
alpha bits = blend 0 0 0 bits

abbrev minus : ℕ
minus = 0x8000_0000

-- ---- lists
-- with marker bytes and queries, in a run of `room` records
abbrev list : ℕ → ℕ → ℕ → List Command → Handed
list room bytes queries cs = record { room = room; used = record { commands = length cs; bytes = bytes; queries = queries }; commands = cs }

abbrev plain : List Command → Handed
plain cs = list (length cs) 0 0 cs

pub record Row : Type 0 where
  pub a : Handed
  pub b : Handed
  pub was : Compared
  pub is : Compared

-- the answer by §3 and by §12
abbrev changed : List Command → List Command → Compared → Compared → Row
changed a b r s = record { a = plain a; b = plain b; was = r; is = s }

abbrev row : List Command → List Command → Compared → Row
row a b r = changed a b r r

-- the same list on both sides
abbrev alone : Handed → Compared → Row
alone l r = record { a = l; b = l; was = r; is = r }

abbrev pub rows : List Row
rows =
    -- no draws; a draw with nothing set
    row [] [] Equal
    ∷ row (d ∷ []) (d ∷ []) Equal
    -- the offsets of attribute and slot are added: 4 and 16 against 20 and against 16
    ∷ row (laid 0 3 4 ∷ slotted 3 7 16 ∷ d ∷ []) (own 0 3 7 20 ∷ d ∷ []) Equal
    ∷ row (laid 0 3 4 ∷ slotted 3 7 16 ∷ d ∷ []) (own 0 3 7 16 ∷ d ∷ []) (Differs 0)
    -- a sum beyond 64 bits is no other sum
    ∷ row (laid 0 3 1 ∷ slotted 3 7 (2 ^ 64 - 1) ∷ d ∷ []) (own 0 3 7 0 ∷ d ∷ []) (Differs 0)
    -- another buffer; another slot is no difference
    ∷ row (laid 0 3 4 ∷ slotted 3 7 16 ∷ d ∷ []) (own 0 3 8 20 ∷ d ∷ []) (Differs 0)
    ∷ row (laid 0 3 4 ∷ slotted 3 7 16 ∷ d ∷ []) (own 0 5 7 20 ∷ d ∷ []) Equal
    -- a location that an earlier pipeline left, with layout; without layout it is part of the comparison
    ∷ row (laid 0 3 0 ∷ laid 1 3 0 ∷ slotted 3 7 0 ∷ d ∷ []) (own 0 3 7 0 ∷ d ∷ []) Equal
    ∷ row (laid 0 3 0 ∷ slotted 3 7 0 ∷ d ∷ []) (own 0 3 7 0 ∷ own 1 3 7 0 ∷ d ∷ []) (Differs 0)
    -- set and unset before the draw; unset after it
    ∷ row (laid 0 3 0 ∷ slotted 3 7 0 ∷ d ∷ []) (own 0 3 7 0 ∷ own 1 3 7 0 ∷ UnsetVertexAttribute 1 ∷ d ∷ []) Equal
    ∷ row (laid 0 3 0 ∷ slotted 3 7 0 ∷ d ∷ []) (own 0 3 7 0 ∷ own 1 3 7 0 ∷ d ∷ UnsetVertexAttribute 1 ∷ []) (Differs 0)
    -- a slot without a buffer on one side, and on both
    ∷ row (laid 0 3 0 ∷ d ∷ []) (own 0 3 7 0 ∷ d ∷ []) (Differs 0)
    ∷ row (laid 0 3 0 ∷ d ∷ []) (laid 0 3 0 ∷ d ∷ []) Equal
    -- the program, on one side and on both
    ∷ row (SetProgram 5 ∷ d ∷ []) (d ∷ []) (Differs 0)
    ∷ row (SetProgram 5 ∷ d ∷ []) (SetProgram 5 ∷ d ∷ []) Equal
    -- minus zero is the number zero, and has other bits: in each of the four, and in the other list; it is like itself
    ∷ changed (blend minus 0 0 0 ∷ d ∷ []) (d ∷ []) Equal (Differs 0)
    ∷ changed (blend 0 minus 0 0 ∷ d ∷ []) (d ∷ []) Equal (Differs 0)
    ∷ changed (blend 0 0 minus 0 ∷ d ∷ []) (d ∷ []) Equal (Differs 0)
    ∷ changed (blend 0 0 0 minus ∷ d ∷ []) (d ∷ []) Equal (Differs 0)
    ∷ changed (d ∷ []) (alpha minus ∷ d ∷ []) Equal (Differs 0)
    ∷ row (alpha minus ∷ d ∷ []) (alpha minus ∷ d ∷ []) Equal
    -- it is found before a draw that differed already; other numbers of draws are found before it
    ∷ changed (alpha minus ∷ d ∷ SetProgram 5 ∷ d ∷ []) (d ∷ d ∷ []) (Differs 1) (Differs 0)
    ∷ row (alpha minus ∷ d ∷ []) (d ∷ d ∷ []) DrawCounts
    -- a NaN is like a NaN, and like no number: there is one, whatever bits it was made of
    ∷ row (alpha 0x7fc0_0000 ∷ d ∷ []) (alpha 0x7fc0_0000 ∷ d ∷ []) Equal
    ∷ row (alpha 0x7fc0_0000 ∷ d ∷ []) (alpha 0xffc0_0001 ∷ d ∷ []) Equal
    ∷ row (alpha 0x7fc0_0000 ∷ d ∷ []) (d ∷ []) (Differs 0)
    -- one is one, and not two; the least number above zero is not zero; infinities have signs
    ∷ row (alpha 0x3f80_0000 ∷ d ∷ []) (alpha 0x3f80_0000 ∷ d ∷ []) Equal
    ∷ row (alpha 0x3f80_0000 ∷ d ∷ []) (alpha 0x4000_0000 ∷ d ∷ []) (Differs 0)
    ∷ row (alpha 1 ∷ d ∷ []) (d ∷ []) (Differs 0)
    ∷ row (alpha 0x7f80_0000 ∷ d ∷ []) (alpha 0xff80_0000 ∷ d ∷ []) (Differs 0)
    -- draws are counted from 0, over all render passes
    ∷ row (ResetFramebuffer false ∷ d ∷ ResetFramebuffer false ∷ SetProgram 5 ∷ d ∷ []) (ResetFramebuffer false ∷ d ∷ ResetFramebuffer false ∷ d ∷ []) (Differs 1)
    -- 9 before a draw that differs
    ∷ row (SetProgram 5 ∷ d ∷ []) (d ∷ d ∷ []) DrawCounts
    -- 2, 3 and 7, each at its edge; the smallest of both lists, before 9
    ∷ alone (plain (SetDrawColorBuffers 8 ∷ [])) Equal
    ∷ alone (plain (SetDrawColorBuffers 9 ∷ [])) TooMany
    ∷ alone (plain (UnsetVertexAttribute 15 ∷ slotted 15 7 0 ∷ laid 15 15 0 ∷ [])) Equal
    ∷ alone (plain (laid 16 0 0 ∷ [])) OutOfRange
    ∷ alone (plain (laid 0 16 0 ∷ [])) OutOfRange
    ∷ alone (plain (UnsetVertexAttribute 16 ∷ [])) OutOfRange
    ∷ alone (plain (slotted 16 7 0 ∷ [])) OutOfRange
    ∷ alone (plain (BindBuffer 35345 255 7 (pos 0) (pos 4) ∷ [])) Equal
    ∷ alone (plain (BindBuffer 35345 256 7 (pos 0) (pos 4) ∷ [])) OutOfRange
    ∷ alone (list 1 4 0 (PushDebugGroup (record { start = 0; end = 4 }) ∷ [])) Equal
    ∷ alone (list 1 4 0 (PushDebugGroup (record { start = 0; end = 5 }) ∷ [])) NoRoom
    ∷ alone (list 1 4 0 (PushDebugGroup (record { start = 3; end = 2 }) ∷ [])) NoRoom
    ∷ alone (list 1 4 0 (SetImmediates (record { location = 0; ty = 5126; offset = 252; size_bytes = 4 }) 0 ∷ [])) Equal
    ∷ alone (list 1 4 0 (SetImmediates (record { location = 0; ty = 5126; offset = 252; size_bytes = 4 }) 1 ∷ [])) NoRoom
    ∷ alone (list 1 8 0 (SetImmediates (record { location = 0; ty = 35664; offset = 252; size_bytes = 8 }) 0 ∷ [])) OutOfRange
    ∷ alone (list 1 0 2 (CopyQueryResults (record { start = 0; end = 2 }) 7 34962 0 ∷ [])) Equal
    ∷ alone (list 1 0 2 (CopyQueryResults (record { start = 0; end = 3 }) 7 34962 0 ∷ [])) NoRoom
    ∷ alone (list 1 0 2 (CopyQueryResults (record { start = 2; end = 1 }) 7 34962 0 ∷ [])) OutOfRange
    ∷ alone (list 0 0 0 (PopDebugGroup ∷ [])) NoRoom
    ∷ alone (list 1 65537 0 (PopDebugGroup ∷ [])) NoRoom
    ∷ alone (list 1 0 1025 (PopDebugGroup ∷ [])) NoRoom
    ∷ row (laid 16 0 0 ∷ d ∷ []) (SetDrawColorBuffers 9 ∷ []) TooMany
    ∷ row (laid 16 0 0 ∷ d ∷ []) (PushDebugGroup (record { start = 0; end = 5 }) ∷ []) OutOfRange
    ∷ row (PushDebugGroup (record { start = 0; end = 5 }) ∷ d ∷ []) [] NoRoom
    ∷ []

pub worked : map (λ (r : Row). compared same_bits r.a r.b) rows ≡ map (λ (r : Row). r.is) rows
unfolding first_off shots_from all_below some? bits32 to_bits of_bits
worked = refl

pub worked-before : map (λ (r : Row). compared same_number r.a r.b) rows ≡ map (λ (r : Row). r.was) rows
unfolding first_off shots_from all_below some? eq is_nan of_bits
worked-before = refl

-- ---- the premises of `still-unequal` and `as_before`
-- that the constants are `f32`s holds of lists with zeros of both signs
remains-here : Remains (Differs 1) (Differs 0)
unfolding first_off shots_from all_below some? bits32 to_bits eq is_nan of_bits fits
remains-here = still-unequal (plain (alpha minus ∷ d ∷ SetProgram 5 ∷ d ∷ [])) (plain (d ∷ d ∷ [])) (((tt, tt, tt, tt), ((tt, tt, tt, tt), tt))) (((tt, tt, tt, tt), ((tt, tt, tt, tt), tt)))

-- all of them hold of these two, which differ; without the one on minus zero the answers are two, as rows above have it
abbrev shown : ℕ → Handed
shown bits = plain (alpha bits ∷ d ∷ [])

as-before-here : compared same_bits (shown 0x3f80_0000) (shown 0x4000_0000) ≡ compared same_number (shown 0x3f80_0000) (shown 0x4000_0000)
unfolding shots_from bits32 to_bits of_bits fits
as-before-here =
    as_before (shown 0x3f80_0000) (shown 0x4000_0000) ((tt, tt, tt, tt), tt) ((tt, tt, tt, tt), tt) ((refl, refl, refl, refl), tt) ((refl, refl, refl, refl), tt)

-- that they are `f32`s is needed: 2 to the -200 is no `f32`, and the bits of the nearest one below it are zero's
abbrev tiny : Command
tiny = SetBlendConstant (record { r = fin false 1 (negsuc 199); g = of_bits binary32 0; b = of_bits binary32 0; a = of_bits binary32 0 })

f32-needed : (compared same_number (plain (tiny ∷ d ∷ [])) (plain (d ∷ [])) ≡ Differs 0) × (compared same_bits (plain (tiny ∷ d ∷ [])) (plain (d ∷ [])) ≡ Equal)
unfolding first_off shots_from all_below some? bits32 to_bits eq is_nan of_bits
f32-needed = (refl, refl)
