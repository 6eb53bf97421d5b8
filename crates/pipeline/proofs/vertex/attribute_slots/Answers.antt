-- `pipeline::vertex::attribute_slots` meets its contract, by the mask that grows by one attribute. Assumes nothing.
use Rattle.std.proofs.Common.{◌≡◌, ◌∙◌, rules, tests}
use Rattle.std.specs.List.{fold}
use Rattle.pipeline.specs.Slots.{slot_step, slots-are}
use Rattle.pipeline.proofs.vertex.attribute_slots.Goals as goal

pub returns : goal.returns
returns c = let e : c.fold.result ≡ fold slot_step 0 c.args.attributes.now = search (rules, tests) in e ∙ slots-are _
