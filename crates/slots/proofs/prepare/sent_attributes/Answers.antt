-- `slots::prepare::sent_attributes` meets its contract. Assumes nothing.
use Rattle.std.proofs.Common.{ℕ, List, get_or, map, ap, ◌∙◌, rules}
use borrow.Author.Tests.{tests}
use Rattle.mask.specs.Mask.{test_bit, mask_of}
use Rattle.records.specs.Start.{start_attribute}
use Rattle.records.specs.declared.command.AttributeDesc.{AttributeDesc}
use Rattle.slots.proofs.Flags.{flags-by}
use Rattle.slots.proofs.prepare.sent_attributes.Goals as goal

pub returns : goal.returns
returns c =
    let l = c.counted-attributes.result.now in
    c.mask_where.ensures.made (λ (i : ℕ). test_bit c.args.m (get_or l i start_attribute).buffer_index) (λ i b h k. search (rules, tests))
    ∙ flags-by c.args.m l start_attribute
    ∙ ap (λ (x : List AttributeDesc). mask_of (map (λ (a : AttributeDesc). test_bit c.args.m a.buffer_index) x)) c.counted-attributes.ensures
