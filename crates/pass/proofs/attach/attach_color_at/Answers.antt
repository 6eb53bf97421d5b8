-- `pass::attach::attach_color_at` meets its contract, by the place of the filled one. Assumes nothing.
use Prim.Native.Nat.{ℕ, ◌<◌}
use mathlib.Core.Path.{◌≡◌, refl, ap, ◌∙◌}
use native.Mathlib.Omega.{arith}
use lib.ListN.{length, get_or}
use Rattle.mask.specs.Mask.{places}
use Rattle.pass.specs.Render.{places_of, no_place}
use Rattle.pass.specs.Gather.{gather}
use Rattle.pass.specs.Survey.{fills_at, attach_at, attach-gather}
use Rattle.pass.specs.Plan.{filled_mask}
use Rattle.pass.proofs.Long.{places-few}
use Rattle.pass.proofs.Gathered.{gather-below, gather-at}
use Rattle.pass.proofs.attach.attach_color_at.Goals as goal

pub returns : goal.returns
returns c =
    λ e h x.
    let a = c.args in
    let ps = places_of a.d in
    let n = a.d.sample_count in
    let few = places-few a.d _ c.well_formed.1.0 in
    let q = attach-gather a.caps n 0 ps in
    let l : a.k < length (gather fills_at (attach_at a.caps n) 0 ps) = rw q at h in
    let u : c.nth-i.result ≡ get_or (places (filled_mask a.d)) a.k 32 = c.nth-i.ensures ∙ ap (λ (m : ℕ). get_or (places m) a.k 32) e in
    let b : c.nth-i.result < 8 = rw u (gather-below fills_at (attach_at a.caps n) no_place (λ i. refl) 8 ps few (omega arith) a.k l) in
    rw (c.attach_place.ensures b, c.place_at-p.ensures, u, q) (gather-at fills_at (attach_at a.caps n) no_place (λ i. refl) 8 ps few (omega arith) a.k l x)
