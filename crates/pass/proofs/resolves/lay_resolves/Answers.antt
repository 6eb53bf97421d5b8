-- `pass::resolves::lay_resolves` meets its contract. Invariant: the resolves of the first i places are laid over the old ones. Assumes nothing.
use Prim.Native.Nat.{suc, ◌+◌}
use mathlib.Core.Path.{◌≡◌, refl, ap}
use mathlib.Core.Bool.{cond}
use mathlib.Core.List.{[], ◌∷◌, ◌++◌}
use native.Mathlib.Nat.{zero-add}
use native.Mathlib.Omega.{arith}
use lib.ListN.{length, take}
use lib.Seq.{take_all}
use Rattle.records.proofs.Long.{resolves-long}
use Rattle.pass.specs.Render.{places_of, no_place}
use Rattle.pass.specs.Places.{place_at, is_resolved, resolve_desc}
use Rattle.pass.specs.Gather.{gather, gather-next}
use Rattle.pass.specs.Resolves.{append_if, resolves_at, resolve_at, resolve-gather, lay-next, append-more}
use Rattle.pass.specs.declared.resolves.Resolves.{Resolves}
use Rattle.pass.proofs.Long.{places-few}
use Rattle.pass.proofs.resolves.lay_resolves.Goals as goal

pub loop-i-init : goal.loop-i-init
unfolding gather
loop-i-init c = (omega arith, refl)

pub loop-i-preserved : goal.loop-i-preserved
loop-i-preserved c =
    let a = c.args in
    let l = c.loop-i in
    let i = l.i in
    let old = a.s.resolves in
    let ps = places_of a.d in
    let n : length old ≡ 8 = resolves-long a.s _ c.well_formed.1.1.0 in
    let p : i + 1 ≡ suc i = omega arith in
    let g : gather (resolves_at a.caps) resolve_at 0 (take (suc i) ps)
    ≡ gather (resolves_at a.caps) resolve_at 0 (take i ps) ++ cond (is_resolved a.caps i (place_at a.d i)) (resolve_desc i (place_at a.d i) ∷ []) [] =
    rw (zero-add i) at (gather-next (resolves_at a.caps) resolve_at no_place (λ k. refl) i 0 ps) in
    let xs = gather (resolves_at a.caps) resolve_at 0 (take i ps) in
    let e : l.r.count ≡ length xs = ap (λ (x : Resolves). x.count) l.invariant.1 in
    let here = is_resolved a.caps i (place_at a.d i) in
    let desc = resolve_desc i (place_at a.d i) in
    let by : c.append_resolve-r.result ≡ append_if here desc l.r = c.append_resolve-r.ensures here desc (rw (c.resolve_of.ensures, c.place_at.ensures)) in
    let q = ap (λ (x : Resolves). x.count) by in
    let m = append-more here desc l.r in (
      omega (arith, q, m),
      rw (p, g, by, l.invariant.1) (lay-next here desc xs old (omega (arith, e, n))),
    )

pub returns : goal.returns
returns c =
    let a = c.args in
    let l = c.loop-i in
    let ps = places_of a.d in
    let e : l.i ≡ 8 = omega arith in
    let t : take 8 ps ≡ ps = take_all 8 ps (places-few a.d _ c.well_formed.1.0) in
    rw (e, t, ← resolve-gather a.caps 0 ps) at l.invariant.1
