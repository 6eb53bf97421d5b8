-- `pass::end::unset_count` meets its contract. Assumes nothing.
use native.Mathlib.Omega.{arith}
use lib.ListN.{length-take}
use Rattle.records.proofs.Long.{attributes-long}
use Rattle.pass.proofs.end.unset_count.Goals as goal

pub returns : goal.returns
returns c =
    let v = c.args.v in
    (omega (arith, c.within-n.ensures, length-take v.attribute_count v.attributes, attributes-long v _ c.well_formed.0), omega (arith, c.within-n.ensures))
