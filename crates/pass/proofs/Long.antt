-- How many elements the array of colour places of an owned descriptor has. Assumes nothing.
use Prim.Native.Nat.{◌≤◌}
use mathlib.Core.Path.{◌≡◌}
use mathlib.Core.List.{List}
use native.Mathlib.Omega.{arith}
use lib.ListN.{length, length-take}
use mir.Val.{Val}
use denote.Laws.{Is}
use denote.Struct.Declared.{row}
use Rattle.records.specs.declared.pass.RenderPassDescriptor.{RenderPassDescriptor}
use Rattle.records.specs.contracts.pass.RenderPassDescriptor.{the_type as the-descriptor}
use Rattle.pass.specs.Render.{places_of}

-- field 2
pub places-long : (d : RenderPassDescriptor) (vs : List Val) → Is (row the-descriptor) d vs → length d.color_attachments ≡ 8
places-long d vs g = g.1.1.1.1.0.1.0.1

pub places-few : (d : RenderPassDescriptor) (vs : List Val) → Is (row the-descriptor) d vs → length (places_of d) ≤ 8
places-few d vs g = omega (arith, places-long d vs g, length-take d.color_attachment_count d.color_attachments)
