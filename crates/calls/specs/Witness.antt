-- Draws worked out, by computation. Assumes nothing.
use Rattle.std.specs.Prelude.{◌≡◌, refl, [], ◌∷◌, pos, None}
use Rattle.tables.specs.Tabulate.{tabulate}
use Rattle.records.specs.declared.command.Command.TheVariants.{DrawIndexed, DrawIndexedIndirect}
use Rattle.records.specs.declared.state.IndexFormat.TheVariants.{Uint16}
use Rattle.calls.specs.Draws.{DrawArgs, draw_indexed_command, indexed_indirect_commands}

-- triangles, indices of two bytes from byte 100 on
abbrev args : DrawArgs
args = record { topology = 4; location = None; format = Uint16; offset = 100 }

-- the third index stands two sizes past the index buffer's offset
index-moved : draw_indexed_command args 2 6 (pos 0) 0 1 ≡ DrawIndexed 4 5123 6 104 (pos 0) 0 1 None
index-moved = refl

-- records of twenty bytes
indirect-moved : indexed_indirect_commands args 9 40 2 ≡ DrawIndexedIndirect 4 5123 9 40 None ∷ DrawIndexedIndirect 4 5123 9 60 None ∷ []
unfolding indexed_indirect_commands tabulate
indirect-moved = refl
