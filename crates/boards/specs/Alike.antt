-- When two draws fetch alike: document 02 §3, "by each attribute location set and not unset in the list without layout, the buffer, first byte, stride, step and format,
-- and besides these the program and the blend constants". Read off the machines that the draws find (machine/specs/Found.antt). Definitions only.
use Rattle.std.specs.Prelude.{ℕ, zero, suc, ◌≡◌, Bool, true, false, ◌&&◌, ◌||◌, eqb, Float, Option, None, Some}
use Rattle.std.specs.Float.Ieee.{eq, is_nan}
use Rattle.numbers.specs.Convert.{bits32}
use Rattle.records.specs.Same.{same_int}
use Rattle.records.specs.declared.command.ColorF32.{ColorF32}
use Rattle.records.specs.declared.command.VertexAttribKind.{VertexAttribKind}
use Rattle.records.specs.declared.command.VertexAttribKind.TheVariants as kind
use Rattle.records.specs.declared.command.VertexFormatDesc.{VertexFormatDesc}
use Rattle.records.specs.declared.command.VertexStepMode.{VertexStepMode}
use Rattle.records.specs.declared.command.VertexStepMode.TheVariants.{Vertex, Instance}
use Rattle.machine.specs.View.{Source, Fetch}
use Rattle.machine.specs.Machine.{Gl}
use Rattle.machine.specs.Found.{fetch_at}

-- ---- comparisons of floats
-- document 02 §12: "floats are now alike only if their bits are, so a NaN is alike only to itself with the same bits". The bits are the printed ones (`bits32`).
-- Here a NaN is one value, with the bits 7fc00000, whatever sign and payload it was given with (docs/DIFFERENCES.md, A18): so a NaN is alike to a NaN, and to nothing else
abbrev pub same_bits : Float → Float → Bool
same_bits x y = eqb (bits32 x) (bits32 y)

-- §3, before §12: "Floats compare as numbers, NaN equal to NaN": by IEEE 754, 5.11, minus zero is equal to zero and a NaN to nothing
abbrev pub same_number : Float → Float → Bool
same_number x y = eq x y || (is_nan x && is_nan y)

-- a comparison by which a float is like itself: both of these are (`bits-self`, `number-self`)
abbrev pub Reflexive : (Float → Float → Bool) → Type 0
Reflexive same = (x : Float) → same x x ≡ true

-- ---- what two draws find
-- the four blend constants, by a comparison of floats
abbrev pub same_color : (Float → Float → Bool) → ColorF32 → ColorF32 → Bool
same_color same x y = same x.r y.r && (same x.g y.g && (same x.b y.b && same x.a y.a))

abbrev pub same_step : VertexStepMode → VertexStepMode → Bool
same_step Vertex Vertex = true
same_step Vertex Instance = false
same_step Instance Vertex = false
same_step Instance Instance = true

abbrev pub same_kind : VertexAttribKind → VertexAttribKind → Bool
same_kind kind.Float kind.Float = true
same_kind kind.Float kind.Integer = false
same_kind kind.Integer kind.Float = false
same_kind kind.Integer kind.Integer = true

-- "format": how many elements, of which type, and read as floats or as integers
abbrev pub formats_alike : VertexFormatDesc → VertexFormatDesc → Bool
formats_alike x y = same_int x.element_count y.element_count && (eqb x.element_format y.element_format && same_kind x.attrib_kind y.attrib_kind)

-- "the buffer, first byte, stride, step"; without a buffer on both sides alike, on one side not
abbrev pub sources_alike : Option Source → Option Source → Bool
sources_alike None None = true
sources_alike None (Some y) = false
sources_alike (Some x) None = false
sources_alike (Some x) (Some y) = eqb x.buffer y.buffer && (eqb x.first y.first && (eqb x.stride y.stride && same_step x.step y.step))

-- one location, first the list with layout: where the list without layout has no attribute set it is no part of the comparison
abbrev pub location_alike : Option Fetch → Option Fetch → Bool
location_alike x None = true
location_alike None (Some y) = false
location_alike (Some x) (Some y) = formats_alike x.format y.format && sources_alike x.source y.source

-- no program on both sides, or the same one
abbrev pub same_program : Option ℕ → Option ℕ → Bool
same_program None None = true
same_program None (Some q) = false
same_program (Some p) None = false
same_program (Some p) (Some q) = eqb p q

-- at every place below n
unfoldable pub all_below : ℕ → (ℕ → Bool) → Bool
all_below zero f = true
all_below (suc n) f = f n && all_below n f

-- g is what the draw of the list with layout finds, h what that of the list without layout does; document 01 has "locations 0 to 15"
abbrev pub alike : (Float → Float → Bool) → Gl → Gl → Bool
alike same g h =
    all_below 16 (λ l. location_alike (fetch_at g.vertices l) (fetch_at h.vertices l))
    && (same_program g.fixed.program h.fixed.program && same_color same g.screen.blend h.screen.blend)
