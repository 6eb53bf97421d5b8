-- First instance known only roughly: document 02, request 11. Definitions only.
-- "For a draw with vertex buffer layout (it and the render phase are taken as given) give two masks:
-- slots rebound for every number in that span, and slots rebound for at least one."
use Rattle.std.specs.Prelude.{ℕ, ◌-◌, ◌^◌, ◌≤◌, ◌<◌, ◌≡◌, Bool, true, false, ◌&&◌, ◌||◌, List, [], ◌∷◌, map, ◌⊎◌, eqb, ltb, ℤ, take, drop}
use Rattle.mask.specs.Mask.{test_bit}
use Rattle.records.specs.Outcome.{accepted, holds, number, smallest}
use Rattle.records.specs.Check.{state_conditions}
use Rattle.records.specs.declared.command.Command.{Command}
use Rattle.records.specs.declared.command.Command.TheVariants.{SetVertexBuffer}
use Rattle.records.specs.declared.command.BufferBinding.{BufferBinding}
use Rattle.records.specs.declared.command.Record.{Record}
use Rattle.records.specs.declared.command.VertexBufferDesc.{VertexBufferDesc}
use Rattle.records.specs.declared.outcome.Outcome.{Outcome}
use Rattle.records.specs.declared.pipeline.PrivateCapabilities.{PrivateCapabilities}
use Rattle.records.specs.declared.state.Answer.{Answer}
use Rattle.records.specs.declared.state.Phase.TheVariants.{Render}
use Rattle.records.specs.declared.state.State.{State}
use Rattle.calls.specs.Call.{Call, draw, draw_indexed}
use Rattle.calls.specs.Parts.{with_progress}
use Rattle.calls.specs.Planned.{no_rooms}
use Rattle.calls.specs.Step.{meaning}
use Rattle.spans.specs.declared.Span.{Span}
use Rattle.spans.specs.declared.Span.TheVariants.{Masks, Broken, Reversed}

-- ---- a slot that is rebound
-- a command stands in a list
abbrev pub StandsIn : Command → List Command → Type 0
StandsIn c [] = ⊥
StandsIn c (x ∷ xs) = (c ≡ x) ⊎ StandsIn c xs

-- a command of the list binds vertex buffer slot i
abbrev pub Binds : ℕ → List Command → Type 0
Binds i l = (b : BufferBinding) × (d : VertexBufferDesc) × StandsIn (SetVertexBuffer i b d) l

-- "with vertex buffer layout (it and the render phase are taken as given)"
abbrev pub with_layout : PrivateCapabilities → PrivateCapabilities
with_layout caps =
    record {
      memory_barriers = caps.memory_barriers;
      vertex_buffer_layout = true;
      fully_featured_instancing = caps.fully_featured_instancing;
      multisampled_render_to_texture = caps.multisampled_render_to_texture;
    }

abbrev pub rendering : State → State
rendering s =
    with_progress (record { phase = Render; commands = s.progress.commands; bytes = s.progress.bytes; queries = s.progress.queries }) s

-- "the draw itself, its refusals 6 and 7 put aside": what `draw` from instance n means to record has a buffer for slot i.
-- Of vertices and counts nothing depends on it, nor on whether it is `draw` or `draw_indexed` (`meant`, Drawn.antt).
abbrev pub Rebinds : PrivateCapabilities → State → ℕ → ℕ → Type 0
Rebinds caps s n i = Binds i (meaning (with_layout caps) (rendering s) (draw 0 0 n 0)).commands

-- ---- the two masks
-- "slots rebound for every number in that span", "both included"
abbrev pub Always : PrivateCapabilities → State → ℕ → ℕ → ℕ → Type 0
Always caps s lower upper i = (n : ℕ) → lower ≤ n → n ≤ upper → Rebinds caps s n i

-- "and slots rebound for at least one"
abbrev pub Sometimes : PrivateCapabilities → State → ℕ → ℕ → ℕ → Type 0
Sometimes caps s lower upper i = (n : ℕ) × (lower ≤ n) × (n ≤ upper) × Rebinds caps s n i

-- the places of the mask are exactly the slots of which P holds
pub record Exactly (m : ℕ) (P : ℕ → Type 0) : Type 0 where
  pub low : m < 2 ^ 16
  pub sound : (i : ℕ) → test_bit m i ≡ true → P i
  pub whole : (i : ℕ) → P i → test_bit m i ≡ true

-- ---- the answers
-- the answers "of a broken state": 2, 3, 5 or 7; no run is lent, so 7 is about the limits alone
abbrev pub refusal : State → Outcome
refusal s = smallest (state_conditions s no_rooms)

-- "15, a lower number above the upper, after those of a broken state"
abbrev pub SpanOf : PrivateCapabilities → State → ℕ → ℕ → Span → Type 0
SpanOf caps s lower upper (Masks always sometimes) =
    (accepted (refusal s) ≡ true) × (lower ≤ upper) × Exactly always (Always caps s lower upper) × Exactly sometimes (Sometimes caps s lower upper)
SpanOf caps s lower upper (Broken o) = (accepted (refusal s) ≡ false) × (o ≡ refusal s)
SpanOf caps s lower upper Reversed = (accepted (refusal s) ≡ true) × (upper < lower)

-- the number of an answer; 0 where there are masks
abbrev pub span_number : Span → ℕ
span_number (Masks always sometimes) = 0
span_number (Broken o) = number o
span_number Reversed = 15

-- condition n holds: those of a broken state by document 01's numbers, and 15
abbrev pub span_holds : State → ℕ → ℕ → ℕ → Bool
span_holds s lower upper n = holds (state_conditions s no_rooms) n || (eqb n 15 && ltb upper lower)

-- n is the smallest number whose condition holds, or none holds and n is 0
abbrev pub SmallestOf : State → ℕ → ℕ → ℕ → Type 0
SmallestOf s lower upper n =
    ((span_holds s lower upper n ≡ true) × ((k : ℕ) → k < n → span_holds s lower upper k ≡ false))
    ⊎ ((n ≡ 0) × ((k : ℕ) → span_holds s lower upper k ≡ false))

-- ---- for the draw that is made in the end
-- a call that draws from instance n
abbrev pub Draws : ℕ → Call → Type 0
Draws n c =
    ((vertex : ℕ) × (vertices : ℕ) × (instances : ℕ) × (c ≡ draw vertex vertices n instances))
    ⊎ ((first : ℕ) × (count : ℕ) × (base : ℤ) × (instances : ℕ) × (c ≡ draw_indexed first count base n instances))

-- what a call has appended: the part of the list between the count before it and the count after it
abbrev pub appended : State → Answer → List Record → List Command
appended s a l =
    map (λ (r : Record). r.command) (take (a.state.progress.commands - s.progress.commands) (drop s.progress.commands l))
