-- The two masks slot by slot: by the number that the slot remembers and by the working instances of the span's two ends. Definitions only.
use Rattle.std.specs.Prelude.{ℕ, Bool, cond, not, ◌&&◌, ◌||◌, ltb, eqb}
use Rattle.mask.specs.Mask.{test_bit}
use Rattle.mask.specs.By.{mask_by}
use Rattle.records.specs.Outcome.{accepted}
use Rattle.records.specs.declared.pipeline.PrivateCapabilities.{PrivateCapabilities}
use Rattle.records.specs.declared.state.State.{State}
use Rattle.records.specs.declared.state.VertexState.{VertexState}
use Rattle.slots.specs.Vertex.{instance_at}
use Rattle.slots.specs.Prepare.{working}
use Rattle.spans.specs.Span.{refusal}
use Rattle.spans.specs.declared.Span.{Span}
use Rattle.spans.specs.declared.Span.TheVariants.{Masks, Broken, Reversed}

-- no number from a to b is the slot's own
abbrev pub outside : VertexState → ℕ → ℕ → ℕ → Bool
outside v a b i = ltb (instance_at v i) a || ltb b (instance_at v i)

-- not every number from a to b is the slot's own
abbrev pub apart : VertexState → ℕ → ℕ → ℕ → Bool
apart v a b i = not (eqb a (instance_at v i) && eqb b (instance_at v i))

-- a slot that is dirty, or steps by instance and moves; described and bound
abbrev pub wakes : VertexState → Bool → ℕ → Bool
wakes v moves i =
    ((test_bit v.dirty_vbuf_mask i || (test_bit v.instance_vbuf_mask i && moves)) && test_bit v.described i)
    && test_bit v.bound i

abbrev pub always_mask : VertexState → ℕ → ℕ → ℕ
always_mask v a b = mask_by 16 (λ i. wakes v (outside v a b i) i)

abbrev pub sometimes_mask : VertexState → ℕ → ℕ → ℕ
sometimes_mask v a b = mask_by 16 (λ i. wakes v (apart v a b i) i)

-- the whole answer, worked out
abbrev pub span_by : PrivateCapabilities → State → ℕ → ℕ → Span
span_by caps s lower upper =
    let a = working caps lower in
    let b = working caps upper in
    cond (accepted (refusal s)) (cond (ltb upper lower) Reversed (Masks (always_mask s.vertex a b) (sometimes_mask s.vertex a b))) (Broken (refusal s))
