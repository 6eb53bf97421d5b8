-- Answers of one state at several spans, and draws from it, worked out. Assumes nothing.
use Rattle.std.specs.Prelude.{ℕ, ◌≡◌, refl, Bool, true, false, List, [], ◌∷◌, map, replicate, None}
use Rattle.tables.specs.Tabulate.{tabulate}
use Rattle.mask.specs.Mask.{test_bit, mask_of, places_from}
use Rattle.mask.specs.By.{mask_by}
use Rattle.records.specs.Check.{some?, bad_units, among, twice}
use Rattle.records.specs.Outcome.{smallest}
use Rattle.records.specs.Start.{start_slot, start_attribute, start_state}
use Rattle.records.specs.declared.command.Command.{Command}
use Rattle.records.specs.declared.command.Command.TheVariants.{SetVertexBuffer, Draw}
use Rattle.records.specs.declared.command.VertexStepMode.{VertexStepMode}
use Rattle.records.specs.declared.command.VertexStepMode.TheVariants.{Vertex, Instance}
use Rattle.records.specs.declared.outcome.Outcome.{Outcome}
use Rattle.records.specs.declared.outcome.Outcome.TheVariants.{Done, TooMany, OutOfRange, WrongKind, Overflow, NoRoom}
use Rattle.records.specs.declared.pipeline.PrivateCapabilities.{PrivateCapabilities}
use Rattle.records.specs.declared.state.Phase.{Phase}
use Rattle.records.specs.declared.state.Phase.TheVariants.{Closed, Render}
use Rattle.records.specs.declared.state.State.{State}
use Rattle.slots.specs.Prepare.{buffer_commands, attribute_commands, sent_of}
use Rattle.calls.specs.Call.{draw}
use Rattle.calls.specs.Step.{outcome_of, step}
use Rattle.calls.specs.Planned.{no_rooms}
use Rattle.spans.specs.Answer.{by_span}
use Rattle.spans.specs.Place.{span_by}
use Rattle.spans.specs.Span.{SpanOf, span_number}
use Rattle.spans.specs.declared.Span.{Span}
use Rattle.spans.specs.declared.Span.TheVariants.{Masks, Broken, Reversed}

-- layout, full instancing
abbrev board : Bool → Bool → PrivateCapabilities
board layout full =
    record { memory_barriers = false; vertex_buffer_layout = layout; fully_featured_instancing = full; multisampled_render_to_texture = false }

-- slot 1 by instance, clean, last bound with 5; slot 2 by vertex and dirty; slot 3 by instance and not described; slot 4 by instance and not bound
abbrev state_of : Phase → ℕ → ℕ → ℕ → State
state_of phase commands described attributes =
    record {
      progress = record { phase = phase; commands = commands; bytes = 0; queries = 0 };
      vertex =
          record {
            described = described;
            bound = 14;
            by_instance = 26;
            dirty_vbuf_mask = 4;
            buffers = start_slot ∷ record { stride = 12; raw = 7; offset = 100 } ∷ record { stride = 8; raw = 9; offset = 0 } ∷ replicate 13 start_slot;
            instances = 0 ∷ 5 ∷ replicate 14 0;
            attribute_count = attributes;
            instance_vbuf_mask = 26;
            attributes = replicate 16 start_attribute;
          };
      draw = start_state.draw;
      fixed = start_state.fixed;
      bind = start_state.bind;
      pass = start_state.pass;
      immediates = start_state.immediates;
    }

abbrev held : State
held = state_of Render 0 22 0

-- ---- the answers
pub record Row : Type 0 where
  pub caps : PrivateCapabilities
  pub state : State
  pub lower : ℕ
  pub upper : ℕ
  pub answer : Span
  pub number : ℕ

abbrev row : PrivateCapabilities → State → ℕ → ℕ → Span → ℕ → Row
row caps s lower upper answer number = record { caps = caps; state = s; lower = lower; upper = upper; answer = answer; number = number }

abbrev rows : List Row
rows =
    -- one number: the slot's own, another
    row (board true false) held 5 5 (Masks 4 4) 0
    ∷ row (board true false) held 6 6 (Masks 6 6) 0
    -- the own number outside, inside, at either end
    ∷ row (board true false) held 6 9 (Masks 6 6) 0
    ∷ row (board true false) held 4 6 (Masks 4 6) 0
    ∷ row (board true false) held 5 6 (Masks 4 6) 0
    ∷ row (board true false) held 4 5 (Masks 4 6) 0
    -- all numbers
    ∷ row (board true false) held 0 4294967295 (Masks 4 6) 0
    -- the draw is refused with 6
    ∷ row (board true false) held 4294967295 4294967295 (Masks 6 6) 0
    -- every number works as 0, and the own number is 5
    ∷ row (board true true) held 4 6 (Masks 6 6) 0
    -- layout and phase are taken as given
    ∷ row (board false false) held 4 6 (Masks 4 6) 0
    ∷ row (board true false) (state_of Closed 0 22 0) 4 6 (Masks 4 6) 0
    -- a lower number above the upper
    ∷ row (board true false) held 6 5 Reversed 15
    ∷ row (board true true) held 6 5 Reversed 15
    -- a broken state: 2, 3, 5, 7; each before 15, and the smallest of several
    ∷ row (board true false) (state_of Render 4097 65558 17) 6 5 (Broken TooMany) 2
    ∷ row (board true false) (state_of Render 4097 65558 2) 6 5 (Broken OutOfRange) 3
    ∷ row (board true false) (state_of Render 4097 22 2) 6 5 (Broken WrongKind) 5
    ∷ row (board true false) (state_of Closed 4097 22 0) 6 5 (Broken NoRoom) 7
    ∷ row (board true false) (state_of Closed 4096 22 0) 6 5 Reversed 15
    ∷ []

abbrev worked : Row → Row
worked r =
    let answer = span_by r.caps r.state r.lower r.upper in
    row r.caps r.state r.lower r.upper answer (span_number answer)

all-rows : map worked rows ≡ rows
unfolding mask_by tabulate mask_of test_bit some? bad_units among twice smallest
all-rows = refl

-- `SpanOf` is not empty, and its two masks can differ
some-not-all : SpanOf (board true false) held 4 6 (Masks 4 6)
unfolding mask_by tabulate mask_of test_bit some? bad_units among twice smallest
some-not-all = by_span (board true false) held 4 6

-- ---- draws from that state
pub record Drawn : Type 0 where
  pub caps : PrivateCapabilities
  pub first : ℕ
  pub outcome : Outcome
  pub commands : List Command

abbrev drawn_row : PrivateCapabilities → ℕ → Outcome → List Command → Drawn
drawn_row caps first outcome commands = record { caps = caps; first = first; outcome = outcome; commands = commands }

abbrev buffer : ℕ → ℕ → ℕ → VertexStepMode → ℕ → Command
buffer slot raw offset step stride = SetVertexBuffer slot (record { raw = raw; offset = offset }) (record { step = step; stride = stride })

abbrev draws : List Drawn
draws =
    drawn_row (board true false) 6 Done (buffer 1 7 172 Instance 12 ∷ buffer 2 9 0 Vertex 8 ∷ Draw 0 0 3 6 1 None ∷ [])
    ∷ drawn_row (board true false) 5 Done (buffer 2 9 0 Vertex 8 ∷ Draw 0 0 3 5 1 None ∷ [])
    ∷ drawn_row (board true true) 5 Done (buffer 1 7 100 Instance 12 ∷ buffer 2 9 0 Vertex 8 ∷ Draw 0 0 3 5 1 None ∷ [])
    -- without layout a draw binds no buffers: the premise of `did-rebind`
    ∷ drawn_row (board false false) 6 Done (Draw 0 0 3 6 1 None ∷ [])
    -- refused with 6, and in the rows above: slot 1 is in both masks
    ∷ drawn_row (board true false) 4294967295 Overflow []
    ∷ []

abbrev drew : Drawn → Drawn
drew d =
    let t = step d.caps no_rooms held (draw 0 3 d.first 1) in
    drawn_row d.caps d.first t.outcome t.commands

drawn-rows : map drew draws ≡ draws
unfolding mask_by tabulate mask_of test_bit some? bad_units among twice smallest outcome_of buffer_commands attribute_commands sent_of places_from
drawn-rows = refl
