-- `pass::end::resolve_at` meets its contract: the place of a resolve is below 8. Assumes nothing.
use Prim.Native.Nat.{ℕ, ◌+◌, ◌^◌, ◌<◌}
use mathlib.Core.Path.{◌≡◌, subst}
use native.Mathlib.Omega.{arith}
use lib.ListN.{length, get_or, length-map, length-take}
use lib.Seq.{get_or-take}
use borrow.Author.Tests.{lt-ltb, leb-false}
use Rattle.names.specs.Gl.{GL_COLOR_ATTACHMENT0}
use Rattle.records.specs.Check.{bad_resolve}
use Rattle.records.specs.Start.{start_resolve}
use Rattle.records.proofs.Long.{resolves-long}
use Rattle.slots.proofs.Flags.{map_at}
use Rattle.pass.specs.Render.{resolve_command}
use Rattle.pass.specs.End.{resolves_in}
use Rattle.pass.proofs.Ending.{none-at}
use Rattle.pass.proofs.end.resolve_at.Goals as goal

pub returns-then-at-n : goal.returns-then-at-n
returns-then-at-n c =
    λ e h x.
    let s = c.args.s in
    let k = c.args.k in
    let r = get_or s.resolves k start_resolve in
    let n : k < s.resolve_count = omega (arith, c.if-at-n.true, c.within-n.ensures) in
    let l : k < length (resolves_in s) = subst (λ (m : ℕ). k < m) (length-map (resolves_in s) (resolve_command s.render_size)) h in
    let m : get_or (resolves_in s) k start_resolve ≡ r = get_or-take s.resolve_count s.resolves k start_resolve n in
    let b : r.place < 8 = leb-false 8 r.place (rw m at (none-at bad_resolve (resolves_in s) k start_resolve l e)) in
    rw (c.color_point.ensures, lt-ltb (GL_COLOR_ATTACHMENT0 + r.place) (2 ^ 32) (omega (arith, b)), map_at (resolve_command s.render_size) (resolves_in s) k start_resolve x l, m)

pub returns-else-at-n : goal.returns-else-at-n
returns-else-at-n c =
    λ e h x.
    let s = c.args.s in
    let q = length-map (resolves_in s) (resolve_command s.render_size) in
    absurd (omega (arith, h, q, c.if-at-n.false, c.within-n.ensures, length-take s.resolve_count s.resolves, resolves-long s _ c.well_formed.0))
