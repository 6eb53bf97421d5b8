-- `transfer_calls::regions::region_count` meets its contract. Assumes nothing.
use Rattle.transfer_calls.proofs.Triples.{as_many, copies}
use Rattle.transfer_calls.proofs.regions.region_count.Goals as goal

pub returns : goal.returns
returns c = as_many _ _ copies _ _ _ c.elements.ensures.0 c.elements.ensures.1
