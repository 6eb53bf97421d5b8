-- `pipeline::attributes::unset_count` meets its contract. Assumes nothing.
use native.Mathlib.Omega.{arith}
use lib.ListN.{length-map, length-take}
use Rattle.records.proofs.Long.{attributes-long}
use Rattle.slots.specs.Vertex.{attributes_of}
use Rattle.pipeline.specs.Vertex.{unset_attribute}
use Rattle.pipeline.proofs.attributes.unset_count.Goals as goal

pub returns : goal.returns
returns c =
    let v = c.args.v in
    let n = length-take v.attribute_count v.attributes in (
      rw (length-map (attributes_of v) unset_attribute) (omega (arith, c.within.ensures, n, attributes-long v _ c.well_formed.0)),
      omega arith,
    )
