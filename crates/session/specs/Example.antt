-- Document 01's example, line by line: the text of what its calls record. Assumes nothing.
use Rattle.std.specs.Prelude.{ℕ, suc, ◌≡◌, refl, List, [], ◌∷◌, ◌++◌}
use Rattle.std.specs.Float.Ieee.{of_bits, to_bits, round}
use Rattle.mask.specs.Mask.{test_bit, bit_at, set_bit, without, mask_of, places_from}
use Rattle.mask.specs.By.{mask_by}
use Rattle.tables.specs.Tabulate.{tabulate}
use Rattle.numbers.specs.Convert.{convert_to, bits32}
use Rattle.records.specs.Check.{some?, bad_units, among, twice}
use Rattle.records.specs.Outcome.{smallest}
use Rattle.records.specs.Start.{start_state}
use Rattle.records.specs.declared.command.Command.{Command}
use Rattle.slots.specs.Prepare.{buffer_commands, attribute_commands, sent_of}
use Rattle.pass.specs.Render.{begin_render_commands, attach_colors, resolves_from, invalidations, clear_colors}
use Rattle.names.specs.Ascii.{ascii}
use Rattle.text.specs.Digits.{decimal_in, hex_in}
use Rattle.text.specs.Field.{spaced}
use Rattle.text.specs.Command.{line_of}
use Rattle.calls.specs.Call.{Call, set_vertex_buffer, draw}
use Rattle.calls.specs.Step.{outcome_of}
use Rattle.book.specs.Run.{record_calls, begun}
use Rattle.cases.specs.Samples.{emulated, rooms, bare_pass}

-- "an unlabelled 4 by 3 pass without attachments, slot 0 bound, then `draw(0,3,0,1)`"
abbrev pub example : List Call
example = bare_pass ∷ set_vertex_buffer 0 7 0 ∷ draw 0 3 0 1 ∷ []

-- "one line a command: number, name, fields in the Rust's order"
unfoldable pub lines_from : ℕ → List Command → List ℕ
lines_from n [] = []
lines_from n (c ∷ cs) = line_of n c ++ lines_from (suc n) cs

pub example-lines :
    lines_from 0 (record_calls emulated rooms (begun emulated rooms start_state) example).list
    ≡ ascii "0 ResetFramebuffer 0\n1 SetScissor 0 0 4 3\n2 SetViewport 0 0 4 3 00000000 3f800000\n3 SetDrawColorBuffers 0\n4 Draw 0 0 3 0 1 -\n"
unfolding lines_from record_calls outcome_of smallest some? bad_units among twice test_bit bit_at set_bit without mask_of places_from mask_by tabulate convert_to of_bits to_bits round
    buffer_commands attribute_commands sent_of begin_render_commands attach_colors resolves_from invalidations clear_colors bits32 decimal_in hex_in spaced
example-lines = refl
