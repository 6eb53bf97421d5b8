-- The places of the mask, one after the other.
use Rattle.std.proofs.Common.{rules, tests}
use Rattle.std.proofs.lemmas.Iterator.Consumers.{YieldsList-from_first}
use Rattle.std.proofs.lemmas.Iterator.Search.{any_from_yields_List}
use Rattle.mask.specs.Visit.{places_left}
use Rattle.slots.specs.Prepare.{slot_over}
use Rattle.slots.proofs.prepare.slots_over.Goals as goal

pub returns : goal.returns
returns c = any_from_yields_List (slot_over c.args.v c.args.w) _ _ c.any.result c.any.ensures.ran (YieldsList-from_first (λ x. x) places_left _ c.visit.ensures.places) (λ x r q k. search (rules, tests))
