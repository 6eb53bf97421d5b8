-- A sweep of the entries, one by one. Assumes nothing.
-- `sweep-step`: an entry moves from what is left to what has been found. `found`: what a whole sweep has found.
use Prim.Native.Nat.{ℕ, suc, ◌≤◌, ◌<◌}
use mathlib.Core.Bool.{false}
use mathlib.Core.List.{List}
use mathlib.Core.Path.{◌≡◌, sym, ap, ◌∙◌}
use native.Mathlib.Nat.{zero-add}
use lib.ListN.{length, drop, get_or}
use Rattle.records.specs.Check.{some?}
use Rattle.records.specs.declared.binding.BindGroupLayoutEntry.{BindGroupLayoutEntry}
use Rattle.records.specs.declared.binding.Content.{Content}
use Rattle.records.specs.declared.state.BindState.{BindState}
use Rattle.bindings.specs.declared.sweep.Sweep.{Sweep}
use Rattle.bindings.specs.Group.{Entry, head_or, takes_offset, group_commands, group_state, textures_named, samplers_named, entry_out_of_range, offsets_used, entry_wrong_kind, group_over}
use Rattle.bindings.specs.Sweep.{textures-all, samplers-all, sweep_one, swept, swept-count, swept-used, swept-bind, swept-textures, swept-samplers, swept-range, swept-kind, swept-over}
use Rattle.bindings.proofs.Entries.{cut, entry_next, no_entry, no_content, left-next}

module _ (es : List BindGroupLayoutEntry) (cs : List Content) (le : length es ≡ 64) (lc : length cs ≡ 64) where
  pub sweep-step : (n j : ℕ) (os : List ℕ) (s r : Sweep) (next : ℕ) → j < n → n ≤ 64
      → next ≡ head_or 0 (drop s.used os)
      → r ≡ sweep_one (get_or es j no_entry) (get_or cs j no_content).binding next s
      → swept (drop (suc j) (cut n es cs)) (drop r.used os) r ≡ swept (drop j (cut n es cs)) (drop s.used os) s
  unfolding swept
  sweep-step n j os s r next h k q e =
      rw (e, q)
      (ap (λ (us : List ℕ). swept (drop (suc j) (cut n es cs)) us one)
      (sym (left-next (takes_offset (get_or es j no_entry) (get_or cs j no_content).binding) s.used os))
      ∙ sym (ap (λ (xs : List Entry). swept xs (drop s.used os) s) (entry_next es cs le lc n j no_entry no_content h k)))
    where
      one : Sweep
      one = sweep_one (get_or es j no_entry) (get_or cs j no_content).binding (head_or 0 (drop s.used os)) s

-- nothing gone through yet
abbrev pub start : BindState → Sweep
start b =
    record {
      count = 0;
      used = 0;
      bind = b;
      textures = 0;
      samplers = 0;
      range = false;
      kind = false;
      over = false;
    }

abbrev Found : List Entry → List ℕ → BindState → Sweep → Type 0
Found xs os b s =
    (s.count ≡ length (group_commands xs os))
    × (s.used ≡ offsets_used xs)
    × (s.bind ≡ group_state xs b)
    × (s.textures ≡ textures_named xs)
    × (s.samplers ≡ samplers_named xs)
    × (s.range ≡ some? entry_out_of_range xs)
    × (s.kind ≡ some? entry_wrong_kind xs)
    × (s.over ≡ group_over xs os)

pub found : (xs : List Entry) (os : List ℕ) (b : BindState) (s : Sweep) → s ≡ swept xs os (start b) → Found xs os b s
found xs os b s e = (
  ap (λ (r : Sweep). r.count) e ∙ swept-count xs os (start b) ∙ zero-add (length (group_commands xs os)),
  ap (λ (r : Sweep). r.used) e ∙ swept-used xs os (start b) ∙ zero-add (offsets_used xs),
  ap (λ (r : Sweep). r.bind) e ∙ swept-bind xs os (start b),
  ap (λ (r : Sweep). r.textures) e ∙ swept-textures xs os (start b) ∙ textures-all xs,
  ap (λ (r : Sweep). r.samplers) e ∙ swept-samplers xs os (start b) ∙ samplers-all xs,
  ap (λ (r : Sweep). r.range) e ∙ swept-range xs os (start b),
  ap (λ (r : Sweep). r.kind) e ∙ swept-kind xs os (start b),
  ap (λ (r : Sweep). r.over) e ∙ swept-over xs os (start b),
)
