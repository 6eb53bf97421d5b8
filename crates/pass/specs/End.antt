-- The parts of what the end of a render pass records. Definitions only.
use Rattle.std.specs.Prelude.{List, map, ◌++◌, take}
use Rattle.records.specs.declared.command.Command.{Command}
use Rattle.records.specs.declared.state.PassState.{PassState}
use Rattle.records.specs.declared.state.ResolveDesc.{ResolveDesc}
use Rattle.records.specs.declared.state.VertexState.{VertexState}
use Rattle.slots.specs.Vertex.{attributes_of}
use Rattle.pipeline.specs.Vertex.{unset_attribute}
use Rattle.pass.specs.Marks.{pop_label, timestamp}
use Rattle.pass.specs.Render.{resolve_command, invalidate_command}

abbrev pub resolves_in : PassState → List ResolveDesc
resolves_in s = take s.resolve_count s.resolves

abbrev pub resolve_commands : PassState → List Command
resolve_commands s = map (resolve_command s.render_size) (resolves_in s)

-- the attributes' unsets and the timestamp
abbrev pub unsetting : PassState → VertexState → List Command
unsetting s v = map unset_attribute (attributes_of v) ++ timestamp s.end_of_pass_timestamp

-- what comes after the resolves
abbrev pub after_resolves : PassState → VertexState → List Command
after_resolves s v = invalidate_command s.invalidate_attachments ++ (pop_label s.has_pass_label ++ unsetting s v)
