-- A plan of `set_immediates`: its commands, its marker bytes, and where they go. Definitions only.
use Rattle.std.specs.Prelude.{ℕ, ◌+◌, ◌*◌, ◌<◌, ◌≤◌, ◌≡◌, Bool, false, List, length, get_or, take}
use Rattle.walks.specs.Fill.{filled}
use Rattle.records.specs.Check.{some?, bad_descriptor}
use Rattle.records.specs.declared.command.Command.{Command}
use Rattle.records.specs.declared.command.Command.TheVariants.{PopDebugGroup}
use Rattle.records.specs.declared.state.Answer.{Answer}
use Rattle.records.specs.declared.state.ImmediateState.{ImmediateState}
use Rattle.records.specs.declared.state.State.{State}
use Rattle.bindings.specs.Immediates.{descriptors_of, sent_descriptors, immediates_state, immediate_commands, immediate_bytes, immediates_out_of_range}
use Rattle.bindings.specs.Placed.{places_of, size_of}
use Rattle.calls.specs.Meaning.{Meaning}
use Rattle.calls.specs.Parts.{with_immediates, with_progress}
use Rattle.calls.specs.Planned.{byte_rooms, Put, Laid, Answered, state_in}
use Rattle.calls.specs.Step.{outcome_of}
use Rattle.binding_calls.specs.declared.sending.Worked.{Worked}
use Rattle.binding_calls.specs.declared.sending.Sending.{Sending}
use Rattle.binding_calls.specs.declared.sending.ImmediatePlan.{ImmediatePlan}

-- the descriptors that are sent with the new words, the places of their bytes, and how many bytes there are
pub record Right (ws : List ℕ) (count : ℕ) (i : ImmediateState) (offset used : ℕ) (w : Worked) : Type 0 where
  pub descriptors : descriptors_of w.state ≡ sent_descriptors i offset count
  pub words : w.state.words ≡ (immediates_state i offset (take count ws)).words
  pub places : take (length (sent_descriptors i offset count)) w.placed.at ≡ places_of (sent_descriptors i offset count) used
  pub size : w.size ≡ length (immediate_bytes (immediates_state i offset (take count ws)).words (sent_descriptors i offset count))

-- what a call that writes so many words sends, with so many bytes used before it: right where condition 3 holds neither of the call nor of a descriptor, and the used bytes are within their limit;
-- whatever is used, a call within its range has a command for each descriptor that it sends, and of good descriptors as many bytes as their sizes say
pub record WorkedOf (ws : List ℕ) (count : ℕ) (i : ImmediateState) (offset used : ℕ) (w : Worked) : Type 0 where
  pub many : immediates_out_of_range offset count ≡ false → w.n ≡ length (sent_descriptors i offset count)
  pub few : w.n ≤ 192
  pub small : w.size ≤ 192 * 256
  pub sized : immediates_out_of_range offset count ≡ false → some? bad_descriptor (descriptors_of i) ≡ false → w.size ≡ size_of (sent_descriptors i offset count)
  pub right : immediates_out_of_range offset count ≡ false → some? bad_descriptor (descriptors_of i) ≡ false → used ≤ 65536 → Right ws count i offset used w

-- the commands and the bytes of a batch, and each by its place
abbrev pub sent_commands : Sending → List Command
sent_commands b = immediate_commands (descriptors_of b.state) b.put

abbrev pub sent_bytes : Sending → List ℕ
sent_bytes b = immediate_bytes b.state.words (descriptors_of b.state)

abbrev pub sent_at : Sending → ℕ → Command
sent_at b i = get_or (sent_commands b) i PopDebugGroup

abbrev pub byte_at : Sending → ℕ → ℕ
byte_at b i = get_or (sent_bytes b) i 0

-- command i is there, and the places of the descriptors' bytes are right
abbrev pub SendAllowed : Sending → ℕ → Type 0
SendAllowed b i =
    (i < 192) × (i < length (sent_commands b))
    × (take (length (descriptors_of b.state)) b.placed.at ≡ places_of (descriptors_of b.state) b.put)

-- byte i is there, of descriptors within their words
abbrev pub ByteAllowed : Sending → ℕ → Type 0
ByteAllowed b i = (i < 192 * 256) × (i < length (sent_bytes b)) × (some? bad_descriptor (descriptors_of b.state) ≡ false)

-- the bytes fit into a run with so much room
abbrev pub BytesFit : ImmediatePlan → ℕ → Type 0
BytesFit p room = (p.batch.put + p.batch.size ≤ room) × ((i : ℕ) → i < p.batch.size → ByteAllowed p.batch i)

abbrev pub bytes_sent : ImmediatePlan → List ℕ → List ℕ
bytes_sent p bytes = filled (byte_at p.batch) bytes p.batch.put p.batch.size

-- the immediates with other words and flag
abbrev pub with_words : List ℕ → Bool → ImmediateState → ImmediateState
with_words ws t i = record { descs = i.descs; count = i.count; words = ws; sent = t }

-- the state that a plan leaves
abbrev pub immediate_next : ImmediatePlan → State → State
immediate_next p s = with_immediates (with_words p.words p.sent s.immediates) (with_progress p.progress s)

-- right for a call with this meaning, with so much room in the list and in the marker bytes
pub record ImmediateOf (room bytes : ℕ) (s : State) (m : Meaning) (p : ImmediatePlan) : Type 0 where
  pub answered : Answered s (outcome_of (byte_rooms room bytes) s m) (state_in m) p.outcome (immediate_next p s)
  pub laid : Laid room s (outcome_of (byte_rooms room bytes) s m) m.commands p.batch.at p.batch.n (sent_at p.batch)
  pub put : Put bytes s.progress.bytes (outcome_of (byte_rooms room bytes) s m) m.bytes 0 p.batch.put p.batch.size (byte_at p.batch)
  pub commands : (i : ℕ) → i < p.batch.n → SendAllowed p.batch i
  pub sent : (i : ℕ) → i < p.batch.size → ByteAllowed p.batch i

abbrev pub immediate_answer : ImmediatePlan → State → Answer
immediate_answer p s = record { outcome = p.outcome; state = immediate_next p s }
