-- `pass::render::default_first` meets its contract: the first of the places. Assumes nothing.
use mathlib.Core.List.{List, [], ◌∷◌}
use mathlib.Core.Path.{◌≡◌, refl}
use lib.ListN.{get_or}
use Rattle.records.specs.declared.pass.ColorPlace.{ColorPlace}
use Rattle.pass.specs.Render.{places_of, no_place, default_first, filled_with, is_default}
use Rattle.pass.proofs.render.default_first.Goals as goal

first : (l : List ColorPlace) → default_first l ≡ filled_with is_default (get_or l 0 no_place).attachment
first [] = refl
first (p ∷ ps) = refl

pub returns : goal.returns
returns c = rw (c.filled_default.ensures, c.place_at-p.ensures, first (places_of c.args.d))
