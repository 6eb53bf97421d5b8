-- `pass::end::resolve_count` meets its contract. Assumes nothing.
use native.Mathlib.Omega.{arith}
use lib.ListN.{length-take}
use Rattle.records.proofs.Long.{resolves-long}
use Rattle.pass.proofs.end.resolve_count.Goals as goal

pub returns : goal.returns
returns c =
    let p = c.args.s in
    (omega (arith, c.within-n.ensures, length-take p.resolve_count p.resolves, resolves-long p _ c.well_formed.0), omega (arith, c.within-n.ensures))
