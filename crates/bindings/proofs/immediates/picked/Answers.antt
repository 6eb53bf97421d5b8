-- `bindings::immediates::picked` meets its contract. Assumes nothing.
use Prim.Native.Nat.{ℕ, ◌+◌, ◌≤◌}
use mathlib.Core.Path.{◌≡◌, refl, ap, ◌∙◌}
use mathlib.Core.Bool.{Bool, cond, not, ◌||◌}
use mathlib.Core.List.{List}
use native.Mathlib.Omega.{arith}
use lib.ListN.{length, get_or, set, take, length-set, length-take}
use lib.Seq.{take_all}
use Rattle.records.specs.declared.command.ImmediateDesc.{ImmediateDesc}
use Rattle.records.proofs.Long.{descs-long}
use Rattle.bindings.specs.Immediates.{sends, filter}
use Rattle.bindings.proofs.Picking.{kept_more}
use Rattle.bindings.proofs.immediates.picked.Goals as goal

abbrev none : ImmediateDesc
none = record { location = 0; ty = 0; offset = 0; size_bytes = 0 }

few : (l m : List ImmediateDesc) (n : ℕ) → length l ≡ 192 → m ≡ take n l → length m ≤ 192
few l m n e q = omega (arith, ap (λ (x : List ImmediateDesc). length x) q, length-take n l)

pub loop-d-init : goal.loop-d-init
unfolding filter
loop-d-init c = (omega arith, descs-long c.args.i _ c.well_formed.0, refl)

pub offset_bounds-kept-k : goal.offset_bounds-kept-k
offset_bounds-kept-k c =
    let n = few c.args.i.descs c.counted-d-items.result.now c.args.i.count (descs-long c.args.i _ c.well_formed.0) c.counted-d-items.ensures in omega arith

pub bounds-kept-k : goal.bounds-kept-k
bounds-kept-k c =
    let n = few c.args.i.descs c.counted-d-items.result.now c.args.i.count (descs-long c.args.i _ c.well_formed.0) c.counted-d-items.ensures in omega arith

pub overflow_add-k : goal.overflow_add-k
overflow_add-k c =
    let n = few c.args.i.descs c.counted-d-items.result.now c.args.i.count (descs-long c.args.i _ c.well_formed.0) c.counted-d-items.ensures in omega arith

pub loop-d-preserved : goal.loop-d-preserved
loop-d-preserved c =
    let l = c.loop-d in
    let a = c.args in
    let items = c.counted-d-items.result.now in
    let d = get_or items l.d-index none in
    let n = few a.i.descs items a.i.count (descs-long a.i _ c.well_formed.0) c.counted-d-items.ensures in
    let e : c.one_if-k.result ≡ cond (sends a.i.sent a.start a.end d) 1 0 = c.one_if-k.ensures.0 ∙ ap (λ (t : Bool). cond (t || not a.i.sent) 1 0) c.shares.ensures in (
      omega arith,
      length-set l.kept l.k d ∙ l.invariant.1,
      ap (λ (k : ℕ). take (l.k + k) (set l.kept l.k d)) e
          ∙ kept_more (sends a.i.sent a.start a.end) l.kept items l.k l.d-index none (omega arith) (omega arith) l.invariant.2,
    )

pub returns : goal.returns
returns c =
    let l = c.loop-d in
    let a = c.args in
    let items = c.counted-d-items.result.now in
    let n = few a.i.descs items a.i.count (descs-long a.i _ c.well_formed.0) c.counted-d-items.ensures in
    let f = sends a.i.sent a.start a.end in (
      l.invariant.2 ∙ ap (filter f) (take_all l.d-index items (omega arith) ∙ c.counted-d-items.ensures),
      omega arith,
      refl,
      refl,
    )
