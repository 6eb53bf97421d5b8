-- The draw commands. Definitions only.
use Rattle.std.specs.Prelude.{ℕ, ◌+◌, ◌*◌, ◌-◌, ◌^◌, Bool, ◌&&◌, List, ltb, leb, eqb, ℤ, Option}
use Rattle.tables.specs.Tabulate.{tabulate}
use Rattle.names.specs.Gl.{GL_UNSIGNED_SHORT, GL_UNSIGNED_INT}
use Rattle.records.specs.declared.command.Command.{Command}
use Rattle.records.specs.declared.command.Command.TheVariants.{Draw, DrawIndexed, DrawIndirect, DrawIndexedIndirect}
use Rattle.records.specs.declared.state.IndexFormat.{IndexFormat}
use Rattle.records.specs.declared.state.IndexFormat.TheVariants.{Uint16, Uint32}

abbrev pub index_type_of : IndexFormat → ℕ
index_type_of Uint16 = GL_UNSIGNED_SHORT
index_type_of Uint32 = GL_UNSIGNED_INT

abbrev pub index_size : IndexFormat → ℕ
index_size Uint16 = 2
index_size Uint32 = 4

-- what a draw command takes from the last pipeline and index buffer
pub record DrawArgs : Type 0 where
  pub topology : ℕ
  pub location : Option ℕ
  pub format : IndexFormat
  pub offset : ℕ

abbrev pub draw_command : DrawArgs → ℕ → ℕ → ℕ → ℕ → Command
draw_command a vertex vertices instance instances = Draw a.topology vertex vertices instance instances a.location

-- the index offset is the index buffer's offset plus index size times first index
abbrev pub index_offset_of : DrawArgs → ℕ → ℕ
index_offset_of a first = a.offset + index_size a.format * first

-- 6: the index offset past 64 bits
abbrev pub index_over : DrawArgs → ℕ → Bool
index_over a first = leb (2 ^ 64) (index_offset_of a first)

abbrev pub draw_indexed_command : DrawArgs → ℕ → ℕ → ℤ → ℕ → ℕ → Command
draw_indexed_command a first count base instance instances =
    DrawIndexed a.topology (index_type_of a.format) count (index_offset_of a first) base instance instances a.location

-- "an indirect call makes as many as its count": 16 bytes apart, and 20 where indexed
unfoldable pub indirect_commands : DrawArgs → ℕ → ℕ → ℕ → List Command
indirect_commands a raw offset n = tabulate n (λ i. DrawIndirect a.topology raw (offset + i * 16) a.location)

unfoldable pub indexed_indirect_commands : DrawArgs → ℕ → ℕ → ℕ → List Command
indexed_indirect_commands a raw offset n = tabulate n (λ i. DrawIndexedIndirect a.topology (index_type_of a.format) raw (offset + i * 20) a.location)

-- 6: the last record's offset past 64 bits; only of a count above 0
abbrev pub indirect_over : ℕ → ℕ → ℕ → Bool
indirect_over size offset n = ltb 0 n && leb (2 ^ 64) (offset + (n - 1) * size)

-- 4: an absent buffer; only of a count above 0
abbrev pub indirect_absent : ℕ → ℕ → Bool
indirect_absent raw n = ltb 0 n && eqb raw 0
