-- `pass::render::to_external` meets its contract. Assumes nothing.
use mathlib.Core.Path.{◌∙◌, sym}
use Rattle.std.proofs.Common.{rules, tests}
use Rattle.std.proofs.lemmas.Iterator.{YieldsList-from_slice}
use Rattle.std.proofs.lemmas.Iterator.Search.{any_from_yields_List}
use Rattle.records.specs.Any.{some-any}
use Rattle.records.specs.declared.pass.ColorPlace.{ColorPlace}
use Rattle.pass.specs.Render.{places_of, filled_with, is_external}
use Rattle.pass.proofs.render.to_external.Goals as goal

pub returns : goal.returns
returns c =
    any_from_yields_List (λ (p : ColorPlace). filled_with is_external p.attachment) _ _ _ c.any.ensures.ran (YieldsList-from_slice (places_of c.args.d.now) (cc)) (λ x b q k. search (rules, tests))
    ∙ sym (some-any (λ (p : ColorPlace). filled_with is_external p.attachment) (places_of c.args.d.now))
