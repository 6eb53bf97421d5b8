-- `pass::clears::clear_color_at` meets its contract, by the place of the cleared one. Assumes nothing.
use Prim.Native.Nat.{ℕ, ◌<◌}
use mathlib.Core.Path.{◌≡◌, refl, ap, ◌∙◌}
use native.Mathlib.Omega.{arith}
use lib.ListN.{length, get_or}
use Rattle.mask.specs.Mask.{places}
use Rattle.pass.specs.Render.{places_of, no_place}
use Rattle.pass.specs.Gather.{gather}
use Rattle.pass.specs.Survey.{clears_at, clear_at, clear-gather}
use Rattle.pass.specs.Plan.{cleared_mask}
use Rattle.pass.proofs.Long.{places-few}
use Rattle.pass.proofs.Gathered.{gather-at}
use Rattle.pass.proofs.clears.clear_color_at.Goals as goal

pub returns : goal.returns
returns c =
    λ o h x.
    let a = c.args in
    let ps = places_of a.d in
    let few = places-few a.d _ c.well_formed.0 in
    let q = clear-gather 0 ps in
    let l : a.k < length (gather clears_at clear_at 0 ps) = rw q at h in
    let u : c.nth-i.result ≡ get_or (places (cleared_mask a.d)) a.k 32 = c.nth-i.ensures ∙ ap (λ (m : ℕ). get_or (places m) a.k 32) o in
    rw (c.clear_place.ensures, c.place_at-p.ensures, u, q) (gather-at clears_at clear_at no_place (λ i. refl) 8 ps few (omega arith) a.k l x)
