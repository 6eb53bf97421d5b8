-- What an iterator over a mask's places has left. Definitions only.
use Rattle.std.specs.Prelude.{ℕ, List}
use Rattle.mask.specs.declared.Places.{Places}
use Rattle.mask.specs.Mask.{places}

abbrev pub places_left : Places → List ℕ
places_left p = places p.left
