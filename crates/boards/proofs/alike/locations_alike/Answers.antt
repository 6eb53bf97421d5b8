-- One more location.
use Rattle.std.proofs.Common.{◌≡◌, ℕ, ◌+◌, Bool, ◌&&◌, ◌∙◌, sym, ap, ap₂, refl, add-one}
use Rattle.machine.specs.Found.{fetch_at}
use Rattle.boards.specs.declared.settings.Settings.{Settings}
use Rattle.boards.specs.Alike.{location_alike, all_below}
use Rattle.boards.specs.Settings.{vertices_of}
use Rattle.boards.proofs.alike.locations_alike.Goals as goal

-- the location is alike in both settings
abbrev at : Settings → Settings → ℕ → Bool
at x y l = location_alike (fetch_at (vertices_of x) l) (fetch_at (vertices_of y) l)

one_more : (x y : Settings) (l : ℕ) (p q : Bool) → p ≡ at x y l → q ≡ all_below l (at x y) → p && q ≡ all_below (l + 1) (at x y)
unfolding all_below
one_more x y l p q e f = ap₂ (λ (s t : Bool). s && t) e f ∙ ap (λ (n : ℕ). all_below n (at x y)) (sym (add-one l))

pub loop-l-init : goal.loop-l-init
unfolding all_below
loop-l-init c = refl

pub loop-l-preserved : goal.loop-l-preserved
loop-l-preserved c = one_more c.args.x.now c.args.y.now _ _ _ c.location_alike-same.ensures c.loop-l.invariant
