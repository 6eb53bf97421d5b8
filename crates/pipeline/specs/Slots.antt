-- The slots of a list of attributes as a mask that grows by one attribute, and the slots that a pipeline describes. Assumes nothing.
-- `slots-are`: the mask has the slots that the attributes name. `described-at`: the mask of the described slots says of every place whether it is described.
use Rattle.std.specs.Prelude.{ℕ, ◌^◌, ◌<◌, ◌≡◌, refl, Bool, true, false, cond, ◌||◌, List, [], ◌∷◌, ltb, eqb, length, None}
use Rattle.std.specs.List.{fold}
use Rattle.std.proofs.Common.{ap, ◌∙◌, arith, ltb-true, ltb-false, ne_eqb}
use Rattle.std.proofs.Math.ListN.{get_or-eq_default}
use Rattle.mask.specs.Mask.{test_bit, set_bit_if}
use Rattle.mask.specs.Laws.{test_zero}
use Rattle.mask.specs.By.{mask_by, by-is, by-at, by-beyond, test-set-if, set-if-lt}
use Rattle.records.specs.Check.{some?, among}
use Rattle.records.specs.declared.command.AttributeDesc.{AttributeDesc}
use Rattle.records.specs.declared.pipeline.RenderPipeline.{RenderPipeline}
use Rattle.slots.specs.Prepare.{slots_of}
use Rattle.pipeline.specs.Vertex.{no_layout, has, pipe_desc}

abbrev pub attribute_slots : List AttributeDesc → ℕ
attribute_slots l = mask_by 16 (λ i. among i (slots_of l))

-- one attribute more: its slot, where there is such a slot
abbrev pub slot_step : ℕ → AttributeDesc → ℕ
slot_step m a = set_bit_if (ltb a.buffer_index 16) m a.buffer_index

-- one place more, where it is below 16
one-lt : (t : Bool) (m j : ℕ) → ltb j 16 ≡ t → m < 2 ^ 16 → set_bit_if t m j < 2 ^ 16
unfolding set_bit_if
one-lt true m j e h = set-if-lt true 16 m j h (ltb-true j 16 e) (omega arith)
one-lt false m j e h = h

one_at : (t : Bool) (m j i : ℕ) → ltb j 16 ≡ t → i < 16 → test_bit (set_bit_if t m j) i ≡ eqb i j || test_bit m i
unfolding set_bit_if
one_at true m j i e h = test-set-if true m i j (omega (arith, ltb-true j 16 e)) ∙ swap (test_bit m i) (eqb i j)
  where
    swap : (p q : Bool) → p || q ≡ q || p
    swap true true = refl
    swap true false = refl
    swap false true = refl
    swap false false = refl
one_at false m j i e h = rw (ne_eqb i j (λ q. absurd (omega (arith, q, ltb-false j 16 e))))

slots-lt : (m : ℕ) (l : List AttributeDesc) → m < 2 ^ 16 → fold slot_step m l < 2 ^ 16
slots-lt m [] h = h
slots-lt m (a ∷ l) h = slots-lt (slot_step m a) l (one-lt (ltb a.buffer_index 16) m a.buffer_index refl h)

slots_at : (m : ℕ) (l : List AttributeDesc) (i : ℕ) → i < 16 → test_bit (fold slot_step m l) i ≡ test_bit m i || among i (slots_of l)
unfolding among
slots_at m [] i h = none (test_bit m i)
  where
    none : (b : Bool) → b ≡ b || false
    none true = refl
    none false = refl
slots_at m (a ∷ l) i h =
    slots_at (slot_step m a) l i h
    ∙ rw (one_at (ltb a.buffer_index 16) m a.buffer_index i refl h) (turned (eqb i a.buffer_index) (test_bit m i) (among i (slots_of l)))
  where
    turned : (p q r : Bool) → (p || q) || r ≡ q || (p || r)
    turned true true r = refl
    turned true false r = refl
    turned false q r = refl

pub slots-are : (l : List AttributeDesc) → fold slot_step 0 l ≡ attribute_slots l
slots-are l =
    by-is 16 (fold slot_step 0 l) (λ i. among i (slots_of l)) (slots-lt 0 l (omega arith))
    (λ i h. slots_at 0 l i h ∙ ap (λ (b : Bool). b || among i (slots_of l)) (test_zero i))

-- past the array no slot is described
pub described-at : (p : RenderPipeline) (i : ℕ) → length p.vertex_buffers ≡ 16 → test_bit (mask_by 16 (λ i. has (pipe_desc p i))) i ≡ has (pipe_desc p i)
described-at p i e = go (ltb i 16) refl
  where
    none-there : (b : Bool) → false ≡ has (cond b no_layout.desc None)
    none-there true = refl
    none-there false = refl

    go : (t : Bool) → ltb i 16 ≡ t → test_bit (mask_by 16 (λ i. has (pipe_desc p i))) i ≡ has (pipe_desc p i)
    go true h = by-at 16 (λ i. has (pipe_desc p i)) i (ltb-true i 16 h)
    go false h =
        by-beyond 16 (λ i. has (pipe_desc p i)) i (ltb-false i 16 h)
        ∙ rw (get_or-eq_default p.vertex_buffers no_layout {n = i} (omega (arith, e, ltb-false i 16 h))) (none-there (ltb i p.vertex_buffer_count))

-- a test of the elements, told in other words
pub some_alike : {A : Type 0} (f g : A → Bool) (l : List A) → ((x : A) → f x ≡ g x) → some? f l ≡ some? g l
unfolding some?
some_alike f g [] e = refl
some_alike f g (x ∷ l) e = rw (e x, some_alike f g l e)
