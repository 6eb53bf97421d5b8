-- `pipeline::inner::bad_words` meets its contract. Assumes nothing.
use mathlib.Core.Path.{◌∙◌, sym}
use Rattle.std.proofs.Common.{rules, tests}
use Rattle.std.proofs.lemmas.Iterator.{YieldsList-from_slice}
use Rattle.std.proofs.lemmas.Iterator.Search.{any_from_yields_List}
use Rattle.records.specs.Any.{some-any}
use Rattle.records.specs.Check.{some?, bad_descriptor}
use Rattle.pipeline.specs.Inner.{inner_descriptors}
use Rattle.pipeline.proofs.inner.bad_words.Goals as goal

pub returns : goal.returns
returns c =
    any_from_yields_List bad_descriptor _ _ _ c.any.ensures.ran (YieldsList-from_slice (inner_descriptors c.args.p) (cc)) (λ x b q k. search (rules, tests))
    ∙ sym (some-any bad_descriptor (inner_descriptors c.args.p))

pub returns-then-p-eq0 : goal.returns-then-p-eq0
unfolding some?
returns-then-p-eq0 c = rw c.if-p-eq0.true
