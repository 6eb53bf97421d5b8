-- `pipeline::inner::bad_numbers` meets its contract. Assumes nothing.
use mathlib.Core.Path.{◌∙◌, sym}
use Rattle.std.proofs.Common.{rules, tests}
use Rattle.std.proofs.lemmas.Iterator.{YieldsList-from_slice}
use Rattle.std.proofs.lemmas.Iterator.Search.{any_from_yields_List}
use Rattle.records.specs.Any.{some-any}
use Rattle.pipeline.specs.Inner.{bad_number}
use Rattle.pipeline.proofs.inner.bad_numbers.Goals as goal

pub returns : goal.returns
returns c =
    any_from_yields_List bad_number _ _ _ c.any.ensures.ran (YieldsList-from_slice (c.args.map.now) (cc)) (λ x b q k. search (rules, tests))
    ∙ sym (some-any bad_number (c.args.map.now))
