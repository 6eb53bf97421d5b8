-- `bindings::immediate_command::place_descriptors` meets its contract. Invariant: the first j descriptors are placed. Assumes nothing.
use Prim.Native.Nat.{ℕ, suc, ◌+◌, ◌<◌, min}
use mathlib.Core.List.{List}
use mathlib.Core.Path.{◌≡◌, refl, sym, ap, ap₂, ◌∙◌}
use native.Mathlib.Omega.{arith}
use lib.ListN.{length, take, length-set}
use lib.Seq.{take_all}
use Rattle.records.specs.declared.command.ImmediateDesc.{ImmediateDesc}
use Rattle.records.proofs.Long.{descs-long}
use Rattle.bindings.specs.Immediates.{descriptors_of}
use Rattle.bindings.specs.Placed.{places_of, size_of, bytes-size}
use Rattle.bindings.proofs.Bytes.{counted-long, place-step}
use Rattle.bindings.proofs.immediate_command.place_descriptors.Goals as goal

pub loop-j-init : goal.loop-j-init
unfolding places_of size_of
loop-j-init c = (omega arith, omega arith, refl, λ count m g. (refl, refl))

pub loop-j-preserved : goal.loop-j-preserved
loop-j-preserved c =
    let i = c.args.i in
    let l = c.loop-j in
    let first = c.min-first.result in
    let e = descs-long i _ c.well_formed.0 in
    let p : l.j + 1 ≡ suc l.j = omega arith in (
      omega arith,
      omega (arith, c.min.ensures),
      length-set l.p.at l.j (first + l.p.total) ∙ l.invariant.2,
      λ count m g.
          let h : l.j < min count 192 = omega (arith, m) in
          let q = l.invariant.3 count m g in
          rw p (place-step i.descs count e l.j first l.p.total c.min.result l.p.at h l.invariant.2 c.min.ensures g q.0 q.1),
    )

pub returns : goal.returns
returns c =
    let a = c.args in
    let i = a.i in
    let l = c.loop-j in
    let ds = descriptors_of i in
    let e = counted-long i.descs i.count (descs-long i _ c.well_formed.0) in
    let n : length ds ≡ l.j = omega (arith, c.min-n.ensures) in (
      omega arith,
      λ g h.
          let q = l.invariant.3 i.count c.min-n.ensures g in
          let t : take l.j ds ≡ ds = take_all l.j ds (omega arith) in
          let f : c.min-first.result ≡ a.at = omega (arith, c.min-first.ensures) in (
            rw n (q.0 ∙ ap₂ (λ (xs : List ImmediateDesc) (k : ℕ). places_of xs k) t f),
            λ ws w. q.1 ∙ ap size_of t ∙ sym (bytes-size ws ds w g),
          ),
    )
