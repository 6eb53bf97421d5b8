-- `bindings::group_command::group_command_at` meets its contract.
-- Invariant: what stands at `left` of the commands that are left stands at k of all, and no offset that is left is over where none is.
-- Assumes nothing.
use Prim.Native.Nat.{ℕ, suc, ◌+◌, ◌≤◌, ◌<◌}
use mathlib.Core.Bool.{false}
use mathlib.Core.List.{List, [], ◌∷◌}
use mathlib.Core.Path.{◌≡◌, sym, ap, ◌∙◌, subst}
use native.Mathlib.Nat.{not-suc-le-zero}
use native.Mathlib.Omega.{arith}
use lib.ListN.{take, drop, get_or}
use Rattle.mask.specs.Mask.{digit_of}
use Rattle.records.specs.declared.command.Command.TheVariants.{PopDebugGroup}
use Rattle.slots.specs.Place.{Stands}
use Rattle.bindings.specs.Group.{Entry, head_or, takes_offset, entry_commands, group_commands, offset_over, group_over}
use Rattle.bindings.specs.Sweep.{records_one}
use Rattle.bindings.proofs.Long.{entries-long, contents-long}
use Rattle.bindings.proofs.Entries.{reached-cut, entry-end, no_entry, no_content, digit-le}
use Rattle.bindings.proofs.Placing.{over-step, stands_here, stands-past}
use Rattle.bindings.proofs.group_command.group_command_at.Goals as goal

pub loop-j-init : goal.loop-j-init
loop-j-init c = (omega arith, omega arith, omega arith, λ o. o, λ c s. s)

pub returns-then-left-one : goal.returns-then-left-one
returns-then-left-one c =
    let a = c.args in
    let l = c.loop-j in
    let os = take a.count a.offsets.now in
    let n = c.reached-n.result in
    let es = a.e.entries in
    let cs = a.g.contents in
    let le = entries-long a.e _ c.well_formed.1.1.1.1.0 in
    let lc = contents-long a.g _ c.well_formed.1.1.1.1.1.0 in
    let h : l.j < n = omega arith in
    let r = c.entry_command.result in
    let layout = get_or es l.j no_entry in
    let raw = (get_or cs l.j no_content).binding in
    let t : l.left < digit_of (records_one raw) =
    subst (λ (m : ℕ). l.left < m) (c.one_if-one.ensures.0 ∙ ap digit_of c.records_one.ensures) c.if-left-one.true in
    let shape = c.group_at-shape in
    let k = reached-cut a.l a.i a.e a.g le lc shape.result n shape.ensures c.reached-n.ensures in
    λ o.
    let f = over-step es cs le lc n l.j l.used os h l.invariant.1 (l.invariant.3 (ap (λ (xs : List Entry). group_over xs os) (sym k) ∙ o)) in
    let s : Stands r 0 (entry_commands layout raw (head_or 0 (drop l.used os) ∷ [])) =
    subst (λ (m : ℕ). offset_over layout raw (m ∷ []) ≡ false → Stands r 0 (entry_commands layout raw (m ∷ [])))
    c.offset_at-next.ensures c.entry_command.ensures f.0 in
    subst (λ (xs : List Entry). Stands r a.k (group_commands xs os)) (sym k)
    (l.invariant.4 r (stands_here es cs le lc n l.j l.used os h l.invariant.1 l.left r t s))

pub loop-j-preserved : goal.loop-j-preserved
loop-j-preserved c =
    let a = c.args in
    let l = c.loop-j in
    let os = take a.count a.offsets.now in
    let n = c.reached-n.result in
    let es = a.e.entries in
    let cs = a.g.contents in
    let le = entries-long a.e _ c.well_formed.1.1.1.1.0 in
    let lc = contents-long a.g _ c.well_formed.1.1.1.1.1.0 in
    let p : l.j + 1 ≡ suc l.j = omega arith in
    let h : l.j < n = omega arith in
    let layout = get_or es l.j no_entry in
    let raw = (get_or cs l.j no_content).binding in
    let w : c.one_if-one.result ≡ digit_of (records_one raw) = c.one_if-one.ensures.0 ∙ ap digit_of c.records_one.ensures in
    let u : c.one_if-used.result ≡ digit_of (takes_offset layout raw) = c.one_if-used.ensures.0 ∙ ap digit_of c.takes_offset.ensures in
    let t : digit_of (records_one raw) ≤ l.left = subst (λ (m : ℕ). m ≤ l.left) w c.if-left-one.false in (
      omega arith,
      l.invariant.1,
      omega (arith, u, digit-le (takes_offset layout raw)),
      λ o. rw (p, u) (over-step es cs le lc n l.j l.used os h l.invariant.1 (l.invariant.3 o)).1,
      λ r s. l.invariant.4 r (stands-past es cs le lc n l.j l.used os h l.invariant.1 l.left r t (rw (p, u, w) at s)),
    )

pub returns : goal.returns
unfolding group_commands
returns c =
    let a = c.args in
    let l = c.loop-j in
    let os = take a.count a.offsets.now in
    let n = c.reached-n.result in
    let es = a.e.entries in
    let cs = a.g.contents in
    let le = entries-long a.e _ c.well_formed.1.1.1.1.0 in
    let lc = contents-long a.g _ c.well_formed.1.1.1.1.1.0 in
    let h : n ≤ l.j = omega arith in
    let shape = c.group_at-shape in
    let k = reached-cut a.l a.i a.e a.g le lc shape.result n shape.ensures c.reached-n.ensures in
    λ o.
    subst (λ (xs : List Entry). Stands PopDebugGroup a.k (group_commands xs os)) (sym k)
    (l.invariant.4 PopDebugGroup
    (subst (λ (xs : List Entry). Stands PopDebugGroup l.left (group_commands xs (drop l.used os))) (sym (entry-end es cs le lc n l.j h))
    (λ m d. absurd (not-suc-le-zero m))))
