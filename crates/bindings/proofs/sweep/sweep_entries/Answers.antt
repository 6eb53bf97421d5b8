-- `bindings::sweep::sweep_entries` meets its contract.
-- Invariant: the entries and offsets that are left, with what has been found, come to what all of them do. Assumes nothing.
use Prim.Native.Nat.{suc, ◌+◌, ◌≤◌, ◌<◌}
use mathlib.Core.List.{List}
use mathlib.Core.Path.{◌≡◌, refl, sym, ap, ◌∙◌}
use native.Mathlib.Omega.{arith}
use lib.ListN.{take, drop, get_or}
use Rattle.mask.specs.Mask.{digit_of}
use Rattle.bindings.specs.declared.sweep.Sweep.{Sweep}
use Rattle.bindings.specs.Group.{Entry, entries_of, takes_offset}
use Rattle.bindings.specs.Sweep.{records_one, sweep_one, swept}
use Rattle.bindings.proofs.Long.{entries-long, contents-long}
use Rattle.bindings.proofs.Entries.{reached-cut, entry-end, no_entry, no_content, digit-le}
use Rattle.bindings.proofs.Sweeping.{sweep-step, start, found}
use Rattle.bindings.proofs.sweep.sweep_entries.Goals as goal

pub loop-j-init : goal.loop-j-init
loop-j-init c = (omega arith, omega arith, omega arith, omega arith, refl)

pub sweep_entry-sweep-requires : goal.sweep_entry-sweep-requires
sweep_entry-sweep-requires c = (omega arith, omega arith)

pub loop-j-preserved : goal.loop-j-preserved
loop-j-preserved c =
    let a = c.args in
    let l = c.loop-j in
    let os = take a.count a.offsets.now in
    let n = c.reached-n.result in
    let le = entries-long a.e _ c.well_formed.1.1.1.1.0 in
    let lc = contents-long a.g _ c.well_formed.1.1.1.1.1.0 in
    let next = c.offset_at-next in
    let p : l.j + 1 ≡ suc l.j = omega arith in
    let h : l.j < n = c.loop-j-test.true in
    let e = get_or a.e.entries l.j no_entry in
    let r = (get_or a.g.contents l.j no_content).binding in
    let q : c.sweep_entry-sweep.result ≡ sweep_one e r next.result l.sweep = c.sweep_entry-sweep.ensures in
    let k : c.sweep_entry-sweep.result.count ≡ l.sweep.count + digit_of (records_one r) = ap (λ (s : Sweep). s.count) q in
    let u : c.sweep_entry-sweep.result.used ≡ l.sweep.used + digit_of (takes_offset e r) = ap (λ (s : Sweep). s.used) q in (
      omega arith,
      l.invariant.1,
      omega (arith, k, digit-le (records_one r)),
      omega (arith, u, digit-le (takes_offset e r)),
      rw p
          (sweep-step a.e.entries a.g.contents le lc n l.j os l.sweep c.sweep_entry-sweep.result next.result
          h l.invariant.1 next.ensures q
          ∙ l.invariant.4),
    )

pub returns : goal.returns
unfolding swept
returns c =
    let a = c.args in
    let l = c.loop-j in
    let os = take a.count a.offsets.now in
    let n = c.reached-n.result in
    let es = a.e.entries in
    let cs = a.g.contents in
    let le = entries-long a.e _ c.well_formed.1.1.1.1.0 in
    let lc = contents-long a.g _ c.well_formed.1.1.1.1.1.0 in
    let h : n ≤ l.j = omega arith in
    let shape = c.group_at-shape in
    let k = reached-cut a.l a.i a.e a.g le lc shape.result n shape.ensures c.reached-n.ensures in
    found (entries_of a.l a.i a.e a.g) os a.b l.sweep
    (sym (ap (λ (xs : List Entry). swept xs (drop l.sweep.used os) l.sweep) (entry-end es cs le lc n l.j h))
    ∙ l.invariant.4
    ∙ ap (λ (xs : List Entry). swept xs os (start a.b)) (sym k))
