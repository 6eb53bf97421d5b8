-- The commands of a draw's slots by place, with and without layouts. Assumes nothing.
use Prim.Native.Nat.{ℕ, zero, suc, ◌≤◌, ◌<◌}
use mathlib.Core.Path.{◌≡◌, refl, sym, ap, ◌∙◌, subst}
use mathlib.Core.Bool.{Bool, true, false, ◌||◌}
use mathlib.Core.List.{List, [], ◌∷◌}
use native.Mathlib.Nat.{not-suc-le-zero, le_of_suc-le-suc}
use native.Mathlib.Omega.{arith}
use lib.ListN.{length, get_or, length-map}
use Rattle.mask.specs.Mask.{places}
use Rattle.records.specs.Check.{some?}
use Rattle.records.specs.Start.{start_attribute}
use Rattle.records.specs.declared.command.AttributeDesc.{AttributeDesc}
use Rattle.records.specs.declared.command.Command.{Command}
use Rattle.records.specs.declared.state.VertexState.{VertexState}
use Rattle.slots.specs.Vertex.{attributes_of}
use Rattle.slots.specs.Prepare.{rebound, sent, slot_over, attribute_over, buffer_command, buffer_commands, attribute_command, attribute_commands}
use Rattle.slots.specs.Sent.{sent_mask, sent-places}
use Rattle.slots.proofs.Flags.{map_at}

neither : (t u : Bool) → t || u ≡ false → (t ≡ false) × (u ≡ false)
neither true u e = let z : ◌≡◌ {A = ℕ} 0 1 = cc in absurd (omega arith)
neither false u e = (refl, e)

-- where nothing in a list passes a test, the element at each place does not
none-at : {A : Type 0} (f : A → Bool) (l : List A) (k : ℕ) (d : A) → k < length l → some? f l ≡ false → f (get_or l k d) ≡ false
unfolding some?
none-at f [] k d h e = absurd (not-suc-le-zero h)
none-at f (x ∷ l) zero d h e = (neither (f x) (some? f l) e).0
none-at f (x ∷ l) (suc k) d h e = none-at f l k d (le_of_suc-le-suc h) (neither (f x) (some? f l) e).1

module _ (v : VertexState) (w k : ℕ) where
  -- with layouts
  short : k < length (buffer_commands v w) → k < length (places (rebound v w))
  unfolding buffer_commands
  short h = subst (λ (n : ℕ). k < n) (length-map (places (rebound v w)) (buffer_command v w)) h

  pub buffer-at : (d : Command) → k < length (buffer_commands v w) → buffer_command v w (get_or (places (rebound v w)) k 32) ≡ get_or (buffer_commands v w) k d
  unfolding buffer_commands
  buffer-at d h = sym (map_at (buffer_command v w) (places (rebound v w)) k 32 d (short h))

  pub slot_kept : k < length (buffer_commands v w) → some? (slot_over v w) (places (rebound v w)) ≡ false → slot_over v w (get_or (places (rebound v w)) k 32) ≡ false
  slot_kept h e = none-at (slot_over v w) (places (rebound v w)) k 32 (short h) e

  -- without
  few : k < length (attribute_commands v w) → k < length (sent v w)
  unfolding attribute_commands
  few h = subst (λ (n : ℕ). k < n) (length-map (sent v w) (attribute_command v w)) h

  abbrev pub sent_place : ℕ
  sent_place = get_or (places (sent_mask v w)) k 32

  sent-at : length (attributes_of v) ≤ 32 → k < length (sent v w) → get_or (sent v w) k start_attribute ≡ get_or (attributes_of v) sent_place start_attribute
  sent-at l h =
      ap (λ (x : List AttributeDesc). get_or x k start_attribute) (sent-places (rebound v w) (attributes_of v) start_attribute l)
      ∙ map_at (λ (j : ℕ). get_or (attributes_of v) j start_attribute) (places (sent_mask v w)) k 32 start_attribute
      (subst (λ (n : ℕ). k < n) (ap length (sent-places (rebound v w) (attributes_of v) start_attribute l) ∙ length-map (places (sent_mask v w)) (λ (j : ℕ). get_or (attributes_of v) j start_attribute)) h)

  pub attribute-at : (d : Command) → length (attributes_of v) ≤ 32 → k < length (attribute_commands v w)
      → attribute_command v w (get_or (attributes_of v) sent_place start_attribute) ≡ get_or (attribute_commands v w) k d
  unfolding attribute_commands
  attribute-at d l h = ap (attribute_command v w) (sym (sent-at l (few h))) ∙ sym (map_at (attribute_command v w) (sent v w) k start_attribute d (few h))

  pub attribute-kept : length (attributes_of v) ≤ 32 → k < length (attribute_commands v w) → some? (attribute_over v w) (sent v w) ≡ false
      → attribute_over v w (get_or (attributes_of v) sent_place start_attribute) ≡ false
  attribute-kept l h e = ap (attribute_over v w) (sym (sent-at l (few h))) ∙ none-at (attribute_over v w) (sent v w) k start_attribute (few h) e
