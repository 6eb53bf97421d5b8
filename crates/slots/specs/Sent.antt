-- The attributes to be sent, as a mask of their places in the list. Assumes nothing.
-- `sent-places`: the attributes sent are those at its places, in order.
use Rattle.std.specs.Prelude.{ℕ, zero, suc, ◌+◌, ◌≤◌, ◌≡◌, Bool, true, false, cond, List, [], ◌∷◌, map, length, get_or}
use Rattle.std.proofs.Common.{sym, ap, ◌∙◌, not-suc-le-zero, le_of_suc-le-suc, add-zero, add-suc, suc-add, zero-add}
use Rattle.mask.specs.Mask.{test_bit, mask_of, cons?, places_from, places}
use Rattle.mask.specs.Laws.{odd-mask, half-mask, places-none}
use Rattle.records.specs.declared.command.AttributeDesc.{AttributeDesc}
use Rattle.records.specs.declared.pipeline.PrivateCapabilities.{PrivateCapabilities}
use Rattle.records.specs.declared.state.VertexState.{VertexState}
use Rattle.slots.specs.Vertex.{attributes_of}
use Rattle.slots.specs.Prepare.{rebound, sent_of}

-- whether each attribute's slot is in m
abbrev pub sent_flags : ℕ → List AttributeDesc → List Bool
sent_flags m l = map (λ (a : AttributeDesc). test_bit m a.buffer_index) l

abbrev pub sent_mask : VertexState → ℕ → ℕ
sent_mask v w = mask_of (sent_flags (rebound v w) (attributes_of v))

-- the slots, or the attributes, that get a command each
abbrev pub prepared_places : PrivateCapabilities → VertexState → ℕ → ℕ
prepared_places caps v w = cond caps.vertex_buffer_layout (rebound v w) (sent_mask v w)

one_more : (k i : ℕ) (b : Bool) (bs : List Bool) → places_from (suc k) i (mask_of (b ∷ bs)) ≡ cons? b i (places_from k (suc i) (mask_of bs))
unfolding places_from
one_more k i b bs = rw (odd-mask b bs, half-mask b bs)

kept : (m k i : ℕ) (l : List AttributeDesc) (g : ℕ → AttributeDesc) (d : AttributeDesc) → length l ≤ k → ((j : ℕ) → get_or l j d ≡ g (i + j))
    → sent_of m l ≡ map g (places_from k i (mask_of (sent_flags m l)))
unfolding sent_of places_from mask_of
kept m k i [] g d h e = rw (places-none k i)
kept m zero i (a ∷ l) g d h e = absurd (not-suc-le-zero h)
kept m (suc k) i (a ∷ l) g d h e =
    go (test_bit m a.buffer_index) (kept m k (suc i) l g d (le_of_suc-le-suc h) (λ j. e (suc j) ∙ ap g (add-suc i j ∙ sym (suc-add i j))))
  where
    first : a ≡ g i
    first = e 0 ∙ ap g (add-zero i)

    go : (b : Bool) → sent_of m l ≡ map g (places_from k (suc i) (mask_of (sent_flags m l)))
        → cond b (a ∷ sent_of m l) (sent_of m l) ≡ map g (places_from (suc k) i (mask_of (b ∷ sent_flags m l)))
    go true ih = rw (one_more k i true (sent_flags m l), ih, ← first)
    go false ih = rw (one_more k i false (sent_flags m l)) ih

pub sent-places : (m : ℕ) (l : List AttributeDesc) (d : AttributeDesc) → length l ≤ 32 → sent_of m l ≡ map (λ j. get_or l j d) (places (mask_of (sent_flags m l)))
sent-places m l d h = kept m 32 0 l (λ j. get_or l j d) d h (λ j. ap (λ (n : ℕ). get_or l n d) (sym (zero-add j)))
