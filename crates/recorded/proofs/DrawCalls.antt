-- What the draw calls record. Assumes nothing.
use Prim.Native.Nat.{ℕ, ◌+◌, ◌*◌, ◌^◌, ◌<◌}
use mathlib.Core.Path.{◌≡◌, refl, ap}
use mathlib.Core.Bool.{true, false}
use mathlib.Core.List.{List, [], ◌∷◌}
use lib.Bits.{bit_and}
use borrow.Author.Tests.{lt-leb}
use Rattle.mask.specs.Mask.{test_bit, places}
use Rattle.mask.specs.Laws.{and_lt}
use Rattle.records.specs.Check.{bad_attribute}
use Rattle.records.specs.declared.command.AttributeDesc.{AttributeDesc}
use Rattle.records.specs.declared.command.Command.{Command}
use Rattle.records.specs.declared.command.Command.TheVariants.{DrawIndirect, DrawIndexedIndirect}
use Rattle.records.specs.declared.pipeline.PrivateCapabilities.{PrivateCapabilities}
use Rattle.records.specs.declared.state.VertexState.{VertexState}
use Rattle.slots.specs.Vertex.{attributes_of}
use Rattle.slots.specs.Prepare.{woken, rebound, buffer_command, buffer_commands, attribute_command, sent_of, sent, attribute_commands, prepared}
use Rattle.calls.specs.Draws.{DrawArgs, index_type_of, indirect_commands, indexed_indirect_commands}
use Rattle.machine.specs.Each.{Each}
use Rattle.lists.specs.declared.limits.Used.{Used}
use Rattle.lists.specs.Limits.{out_of_range}
use Rattle.recorded.proofs.Good.{Good, shot}
use Rattle.recorded.proofs.Shapes.{each-cond, each-mapped, each-tabled, places-below}

-- the attributes that are sent are some of the list
sent-each : (P : AttributeDesc → Type 0) (m : ℕ) (l : List AttributeDesc) → Each P l → Each P (sent_of m l)
unfolding sent_of
sent-each P m [] h = tt
sent-each P m (a ∷ l) h = each-cond P (test_bit m a.buffer_index) (a ∷ sent_of m l) (sent_of m l) (h.0, sent-each P m l h.1) (sent-each P m l h.1)

module _ (w : Type 0) (u : Used) where
  -- each command of a list that a draw call records
  abbrev pub Shots : List Command → Type 0
  Shots cs = Each (Good w u true) cs

  of-buffers : (v : VertexState) (i : ℕ) → v.bound < 2 ^ 16 → Shots (buffer_commands v i)
  unfolding buffer_commands
  of-buffers v i h =
      each-mapped (λ (k : ℕ). k < 16) (Good w u true) (buffer_command v i) (places (rebound v i)) (λ k l. shot (ap out_of_range (lt-leb 16 k l)) refl)
      (places-below 16 (rebound v i) (and_lt 16 (bit_and (woken v i) v.described) v.bound h))

  of-attributes : (v : VertexState) (i : ℕ) → Each (λ (a : AttributeDesc). bad_attribute a ≡ false) (attributes_of v) → Shots (attribute_commands v i)
  unfolding attribute_commands
  of-attributes v i h =
      each-mapped (λ (a : AttributeDesc). bad_attribute a ≡ false) (Good w u true) (attribute_command v i) (sent v i) (λ a e. shot (ap out_of_range e) refl)
      (sent-each (λ (a : AttributeDesc). bad_attribute a ≡ false) (rebound v i) (attributes_of v) h)

  pub prepares : (caps : PrivateCapabilities) (v : VertexState) (i : ℕ) → v.bound < 2 ^ 16 → Each (λ (a : AttributeDesc). bad_attribute a ≡ false) (attributes_of v) → Shots (prepared caps v i)
  prepares caps v i h k = each-cond (Good w u true) caps.vertex_buffer_layout (buffer_commands v i) (attribute_commands v i) (of-buffers v i h) (of-attributes v i k)

  pub draws-indirect : (a : DrawArgs) (raw offset n : ℕ) → Shots (indirect_commands a raw offset n)
  unfolding indirect_commands
  draws-indirect a raw offset n = each-tabled (Good w u true) n (λ i. DrawIndirect a.topology raw (offset + i * 16) a.location) (λ i. shot refl refl)

  pub draws-indexed-indirect : (a : DrawArgs) (raw offset n : ℕ) → Shots (indexed_indirect_commands a raw offset n)
  unfolding indexed_indirect_commands
  draws-indexed-indirect a raw offset n =
      each-tabled (Good w u true) n (λ i. DrawIndexedIndirect a.topology (index_type_of a.format) raw (offset + i * 20) a.location) (λ i. shot refl refl)
