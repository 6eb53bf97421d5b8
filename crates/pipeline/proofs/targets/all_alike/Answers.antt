-- `pipeline::targets::all_alike` meets its contract. Assumes nothing.
use mathlib.Core.Path.{◌∙◌, sym}
use Rattle.std.proofs.Common.{rules, tests}
use Rattle.std.proofs.lemmas.Iterator.{YieldsList-from_slice}
use Rattle.std.proofs.lemmas.Iterator.Search.{all_from_yields_List}
use Rattle.records.specs.Same.{same_color_target}
use Rattle.pipeline.specs.Fixed.{targets_in}
use Rattle.pipeline.specs.Targets.{first_target}
use Rattle.pipeline.proofs.Target.{same-all}
use Rattle.pipeline.proofs.targets.all_alike.Goals as goal

pub returns : goal.returns
returns c =
    let p = c.args.p in
    all_from_yields_List (λ x. same_color_target x (first_target p)) _ _ _ c.all.ensures.ran (YieldsList-from_slice (targets_in p) (cc))
    (λ x b q k. search (rules, tests))
    ∙ sym (same-all (first_target p) (targets_in p))
