-- `pipeline::attributes::vertex_absent` meets its contract. Assumes nothing.
use mathlib.Core.Path.{◌∙◌, sym}
use Rattle.std.proofs.Common.{rules, tests}
use Rattle.std.proofs.lemmas.Iterator.{YieldsList-from_slice}
use Rattle.std.proofs.lemmas.Iterator.Search.{any_from_yields_List}
use Rattle.records.specs.Any.{some-any}
use Rattle.std.specs.Prelude.{not}
use Rattle.records.specs.declared.command.AttributeDesc.{AttributeDesc}
use Rattle.pipeline.specs.Vertex.{attributes_in, has, pipe_desc}
use Rattle.pipeline.proofs.attributes.vertex_absent.Goals as goal

pub returns : goal.returns
returns c =
    any_from_yields_List (λ (a : AttributeDesc). not (has (pipe_desc c.args.p a.buffer_index))) _ _ _ c.any.ensures.ran (YieldsList-from_slice (attributes_in c.args.p) (cc)) (λ x b q k. search (rules, tests))
    ∙ sym (some-any (λ (a : AttributeDesc). not (has (pipe_desc c.args.p a.buffer_index))) (attributes_in c.args.p))
