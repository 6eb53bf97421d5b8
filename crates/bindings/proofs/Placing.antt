-- The commands of a bind group by place, entry by entry. Assumes nothing.
-- `over-step`: where no offset that is left is over, the entry's is not, nor are those after it.
-- `stands_here`, `stands-past`: a command of the entry, and one of those after it.
use Prim.Native.Nat.{ℕ, suc, ◌+◌, ◌-◌, ◌≤◌, ◌<◌}
use mathlib.Core.Bool.{false}
use mathlib.Core.List.{List, [], ◌∷◌}
use mathlib.Core.Path.{◌≡◌, sym, ap, ◌∙◌, subst}
use native.Mathlib.Omega.{arith}
use lib.ListN.{length, drop, get_or}
use Rattle.mask.specs.Mask.{digit_of}
use Rattle.records.specs.declared.binding.BindGroupLayoutEntry.{BindGroupLayoutEntry}
use Rattle.records.specs.declared.binding.Content.{Content}
use Rattle.records.specs.declared.binding.RawBinding.{RawBinding}
use Rattle.records.specs.declared.command.Command.{Command}
use Rattle.slots.specs.Place.{Stands}
use Rattle.slots.proofs.Parts.{stands-left, stands-right}
use Rattle.bindings.specs.Or.{neither}
use Rattle.bindings.specs.Group.{Entry, head_or, takes_offset, offsets_after, entry_commands, group_commands, offset_over, group_over}
use Rattle.bindings.specs.Sweep.{records_one, commands-one, commands-next, over-next}
use Rattle.bindings.proofs.Entries.{cut, entry_next, no_entry, no_content, left-next, digit-le}

-- ---- of a list
over-cons : (x : Entry) (xs : List Entry) (os : List ℕ) → group_over (x ∷ xs) os ≡ false
    → (offset_over x.layout x.raw os ≡ false) × (group_over xs (offsets_after x.layout x.raw os) ≡ false)
unfolding group_over
over-cons x xs os e = neither (offset_over x.layout x.raw os) (group_over xs (offsets_after x.layout x.raw os)) e

here-cons : (x : Entry) (xs : List Entry) (os : List ℕ) (k : ℕ) (c : Command) → k < digit_of (records_one x.raw)
    → Stands c 0 (entry_commands x.layout x.raw os) → Stands c k (group_commands (x ∷ xs) os)
unfolding group_commands
here-cons x xs os k c h s =
    let z : 0 ≡ k = omega (arith, digit-le (records_one x.raw)) in
    let l : k < length (entry_commands x.layout x.raw os) = omega (arith, commands-one x.layout x.raw os) in
    stands-left c k (entry_commands x.layout x.raw os) (group_commands xs (offsets_after x.layout x.raw os)) l
    (subst (λ (j : ℕ). Stands c j (entry_commands x.layout x.raw os)) z s)

past-cons : (x : Entry) (xs : List Entry) (os : List ℕ) (k : ℕ) (c : Command) → digit_of (records_one x.raw) ≤ k
    → Stands c (k - digit_of (records_one x.raw)) (group_commands xs (offsets_after x.layout x.raw os)) → Stands c k (group_commands (x ∷ xs) os)
unfolding group_commands
past-cons x xs os k c h s =
    let n = commands-one x.layout x.raw os in
    let l : length (entry_commands x.layout x.raw os) ≤ k = omega (arith, n) in
    stands-right c k (entry_commands x.layout x.raw os) (group_commands xs (offsets_after x.layout x.raw os)) l
    (subst (λ (m : ℕ). Stands c (k - m) (group_commands xs (offsets_after x.layout x.raw os))) (sym n) s)

-- ---- of the entries from place j on, with u dynamic offsets used
module _ (es : List BindGroupLayoutEntry) (cs : List Content) (le : length es ≡ 64) (lc : length cs ≡ 64) (n j u : ℕ) (os : List ℕ) (h : j < n) (w : n ≤ 64) where
  abbrev layout : BindGroupLayoutEntry
  layout = get_or es j no_entry

  abbrev raw : RawBinding
  raw = (get_or cs j no_content).binding

  abbrev used : ℕ
  used = u + digit_of (takes_offset layout raw)

  abbrev behind : List Entry
  behind = drop (suc j) (cut n es cs)

  next : drop j (cut n es cs) ≡ record { layout = layout; raw = raw } ∷ behind
  next = entry_next es cs le lc n j no_entry no_content h w

  after : offsets_after layout raw (drop u os) ≡ drop used os
  after = left-next (takes_offset layout raw) u os

  pub over-step : group_over (drop j (cut n es cs)) (drop u os) ≡ false
      → (offset_over layout raw (head_or 0 (drop u os) ∷ []) ≡ false) × (group_over behind (drop used os) ≡ false)
  over-step e =
      let b = over-cons (record { layout = layout; raw = raw }) behind (drop u os) (ap (λ (xs : List Entry). group_over xs (drop u os)) (sym next) ∙ e) in
      (over-next layout raw (drop u os) ∙ b.0, ap (group_over behind) (sym after) ∙ b.1)

  pub stands_here : (k : ℕ) (c : Command) → k < digit_of (records_one raw) → Stands c 0 (entry_commands layout raw (head_or 0 (drop u os) ∷ []))
      → Stands c k (group_commands (drop j (cut n es cs)) (drop u os))
  stands_here k c l s =
      subst (λ (xs : List Entry). Stands c k (group_commands xs (drop u os))) (sym next)
      (here-cons (record { layout = layout; raw = raw }) behind (drop u os) k c l
      (subst (λ (ys : List Command). Stands c 0 ys) (commands-next layout raw (drop u os)) s))

  pub stands-past : (k : ℕ) (c : Command) → digit_of (records_one raw) ≤ k → Stands c (k - digit_of (records_one raw)) (group_commands behind (drop used os))
      → Stands c k (group_commands (drop j (cut n es cs)) (drop u os))
  stands-past k c l s =
      subst (λ (xs : List Entry). Stands c k (group_commands xs (drop u os))) (sym next)
      (past-cons (record { layout = layout; raw = raw }) behind (drop u os) k c l
      (subst (λ (us : List ℕ). Stands c (k - digit_of (records_one raw)) (group_commands behind us)) (sym after) s))
