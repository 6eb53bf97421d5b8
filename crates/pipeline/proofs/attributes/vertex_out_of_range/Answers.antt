-- `pipeline::attributes::vertex_out_of_range` meets its contract. Assumes nothing.
use mathlib.Core.Path.{◌∙◌, sym}
use Rattle.std.proofs.Common.{rules, tests}
use Rattle.std.proofs.lemmas.Iterator.{YieldsList-from_slice}
use Rattle.std.proofs.lemmas.Iterator.Search.{any_from_yields_List}
use Rattle.records.specs.Any.{some-any}
use Rattle.records.specs.Check.{bad_attribute}
use Rattle.pipeline.specs.Vertex.{attributes_in}
use Rattle.pipeline.proofs.attributes.vertex_out_of_range.Goals as goal

pub returns : goal.returns
returns c =
    any_from_yields_List bad_attribute _ _ _ c.any.ensures.ran (YieldsList-from_slice (attributes_in c.args.p) (cc)) (λ x b q k. search (rules, tests))
    ∙ sym (some-any bad_attribute (attributes_in c.args.p))
