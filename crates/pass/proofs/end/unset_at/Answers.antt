-- `pass::end::unset_at` meets its contract: the attributes, then the timestamp. Assumes nothing.
use Prim.Native.Nat.{◌-◌, ◌<◌}
use mathlib.Core.List.{map}
use native.Mathlib.Omega.{arith}
use lib.ListN.{length, get_or, length-map, length-take}
use lib.Seq.{get_or-take}
use Rattle.records.specs.Start.{start_attribute}
use Rattle.records.specs.declared.command.Command.TheVariants.{UnsetVertexAttribute}
use Rattle.records.proofs.Long.{attributes-long}
use Rattle.slots.specs.Vertex.{attributes_of}
use Rattle.slots.proofs.Flags.{map_at}
use Rattle.pipeline.specs.Vertex.{unset_attribute}
use Rattle.slots.proofs.Parts.{stands-left, stands-right}
use Rattle.pass.specs.Marks.{timestamp}
use Rattle.pass.specs.Places.{no_command}
use Rattle.pass.proofs.Gathered.{only}
use Rattle.pass.proofs.Ending.{few-stamp}
use Rattle.pass.proofs.end.unset_at.Goals as goal

pub returns-then-at-n : goal.returns-then-at-n
returns-then-at-n c =
    let v = c.args.v in
    let k = c.args.k in
    let q = length-map (attributes_of v) unset_attribute in
    let n : k < v.attribute_count = omega (arith, c.if-at-n.true, c.within-n.ensures) in
    let l : k < length (attributes_of v) =
    omega (arith, c.if-at-n.true, c.within-n.ensures, length-take v.attribute_count v.attributes, attributes-long v _ c.well_formed.1.0) in
    stands-left (UnsetVertexAttribute (get_or v.attributes k start_attribute).location) k (map unset_attribute (attributes_of v)) (timestamp c.args.s.end_of_pass_timestamp) (omega (arith, q, l))
    (λ h x. rw (map_at unset_attribute (attributes_of v) k start_attribute x l, get_or-take v.attribute_count v.attributes k start_attribute n))

pub returns-else-at-n : goal.returns-else-at-n
returns-else-at-n c =
    let v = c.args.v in
    let k = c.args.k in
    let xs = map unset_attribute (attributes_of v) in
    let t = c.args.s.end_of_pass_timestamp in
    let q = length-map (attributes_of v) unset_attribute in
    stands-right c.stamp_command.result k xs (timestamp t)
    (omega (arith, q, c.if-at-n.false, c.within-n.ensures, length-take v.attribute_count v.attributes, attributes-long v _ c.well_formed.1.0))
    (rw c.stamp_command.ensures (only (timestamp t) no_command (k - length xs) (few-stamp t)))
