-- `pipeline::attributes::vertex_count` meets its contract. Assumes nothing.
use native.Mathlib.Omega.{arith}
use lib.ListN.{length-map, length-take}
use Rattle.pipeline.specs.Vertex.{attributes_in, set_attribute}
use Rattle.pipeline.proofs.Long.{attributes-long}
use Rattle.pipeline.proofs.attributes.vertex_count.Goals as goal

pub returns-then-caps : goal.returns-then-caps
returns-then-caps c =
    let p = c.args.p in
    let n = length-take p.vertex_attribute_count p.vertex_attributes in (
      rw (c.if-caps.true, length-map (attributes_in p) (set_attribute p)) (omega (arith, c.within.ensures, n, attributes-long p _ c.well_formed.1.0)),
      omega arith,
    )

pub returns-else-caps : goal.returns-else-caps
returns-else-caps c = (rw c.if-caps.false c.unset_count.ensures.0, c.unset_count.ensures.1)
