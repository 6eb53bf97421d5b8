-- Document 01's 'Turned away' at handed-in states on either side of a limit, by computation. Assumes nothing.
use Rattle.std.specs.Prelude.{ℕ, ◌≡◌, refl, true, false, List, [], ◌∷◌, map}
use Rattle.mask.specs.Mask.{test_bit}
use Rattle.records.specs.declared.command.AttributeDesc.{AttributeDesc}
use Rattle.records.specs.declared.outcome.Outcome.{Outcome}
use Rattle.records.specs.declared.outcome.Outcome.TheVariants.{Done, TooMany, OutOfRange, WrongKind, NoRoom}
use Rattle.records.specs.declared.state.Phase.TheVariants.{Closed}
use Rattle.records.specs.declared.state.Progress.{Progress}
use Rattle.records.specs.declared.state.State.{State}
use Rattle.records.specs.declared.state.VertexState.{VertexState}
use Rattle.records.specs.Check.{state_conditions, some?, bad_units, among, twice}
use Rattle.records.specs.Outcome.{smallest}
use Rattle.records.specs.Start.{start_progress, start_vertex, start_attribute, start_draw, start_fixed, start_bind, start_pass, start_immediates}

-- the starting state with other vertices and another progress
abbrev state_of : Progress → VertexState → State
state_of p v =
    record {
      progress = p;
      vertex = v;
      draw = start_draw;
      fixed = start_fixed;
      bind = start_bind;
      pass = start_pass;
      immediates = start_immediates;
    }

-- n commands recorded
abbrev recorded : ℕ → State
recorded n = state_of (record { phase = Closed; commands = n; bytes = 0; queries = 0 }) start_vertex

-- a dirty mask, how many attributes are counted, and the locations of those that the array holds
abbrev vertices : ℕ → ℕ → List ℕ → State
vertices dirty count places =
    state_of start_progress
    (record {
      described = 0;
      bound = 0;
      by_instance = 0;
      dirty_vbuf_mask = dirty;
      buffers = start_vertex.buffers;
      attribute_count = count;
      instances = start_vertex.instances;
      instance_vbuf_mask = 0;
      attributes = map at places;
    })
  where
    at : ℕ → AttributeDesc
    at l = record { location = l; offset = 0; buffer_index = 0; format_desc = start_attribute.format_desc }

-- the locations 0 to 14, and l
abbrev up_to14 : ℕ → List ℕ
up_to14 l = 0 ∷ 1 ∷ 2 ∷ 3 ∷ 4 ∷ 5 ∷ 6 ∷ 7 ∷ 8 ∷ 9 ∷ 10 ∷ 11 ∷ 12 ∷ 13 ∷ 14 ∷ l ∷ []

-- what is answered to the state and a lent list of that many commands
abbrev answer : State → ℕ → Outcome
answer s room = smallest (state_conditions s (record { commands = room; bytes = 65536; queries = 1024 }))

-- 17 attributes are too many, and that comes before a location that stands twice
pub seventeen-attributes : answer (vertices 0 17 (up_to14 0)) 4096 ≡ TooMany
unfolding smallest some? bad_units among twice test_bit
seventeen-attributes = refl

pub sixteen-attributes : answer (vertices 0 16 (up_to14 15)) 4096 ≡ Done
unfolding smallest some? bad_units among twice test_bit
sixteen-attributes = refl

pub location-twice : answer (vertices 0 16 (up_to14 0)) 4096 ≡ WrongKind
unfolding smallest some? bad_units among twice test_bit
location-twice = refl

-- what lies past the count is not looked at
pub twice-past-the-count : answer (vertices 0 15 (up_to14 0)) 4096 ≡ Done
unfolding smallest some? bad_units among twice test_bit
twice-past-the-count = refl

pub location-16 : answer (vertices 0 16 (up_to14 16)) 4096 ≡ OutOfRange
unfolding smallest some? bad_units among twice test_bit
location-16 = refl

-- out of range, and 3 comes before 5
pub location-20-twice : answer (vertices 0 2 (20 ∷ 20 ∷ [])) 4096 ≡ OutOfRange
unfolding smallest some? bad_units among twice test_bit
location-20-twice = refl

pub twice-20 : (twice (20 ∷ 3 ∷ 20 ∷ []) ≡ true) × (twice (20 ∷ 36 ∷ 4 ∷ []) ≡ false)
unfolding among twice
twice-20 = (refl, refl)

pub slot-16-dirty : answer (vertices 65536 0 (up_to14 15)) 4096 ≡ OutOfRange
unfolding smallest some? bad_units among twice test_bit
slot-16-dirty = refl

pub slot-15-dirty : answer (vertices 65535 0 (up_to14 15)) 4096 ≡ Done
unfolding smallest some? bad_units among twice test_bit
slot-15-dirty = refl

pub above-the-limit : answer (recorded 4097) 5000 ≡ NoRoom
unfolding smallest some? bad_units among twice test_bit
above-the-limit = refl

pub at-the-limit : answer (recorded 4096) 4096 ≡ Done
unfolding smallest some? bad_units among twice test_bit
at-the-limit = refl

pub above-the-lent-list : answer (recorded 11) 10 ≡ NoRoom
unfolding smallest some? bad_units among twice test_bit
above-the-lent-list = refl
