-- Vertex slots at a draw: document 01, "Vertex slots at a draw"; `prepare_draw` and `rebind_vertex_data` of gles/command.rs. Definitions only.
use Rattle.std.specs.Prelude.{ℕ, ◌+◌, ◌*◌, ◌^◌, Bool, cond, not, ◌&&◌, List, [], ◌∷◌, map, eqb, ltb, get_or, Some}
use Rattle.std.specs.Int.Bits.{bit_and, bit_or}
use Rattle.tables.specs.Tabulate.{tabulate}
use Rattle.mask.specs.Mask.{test_bit, without, places}
use Rattle.mask.specs.By.{mask_by}
use Rattle.records.specs.Check.{some?, among}
use Rattle.records.specs.declared.command.Command.{Command}
use Rattle.records.specs.declared.command.Command.TheVariants.{SetVertexBuffer, SetVertexAttribute}
use Rattle.records.specs.declared.command.VertexStepMode.{VertexStepMode}
use Rattle.records.specs.declared.command.VertexStepMode.TheVariants.{Vertex, Instance}
use Rattle.records.specs.declared.command.VertexBufferDesc.{VertexBufferDesc}
use Rattle.records.specs.declared.command.AttributeDesc.{AttributeDesc}
use Rattle.records.specs.declared.pipeline.PrivateCapabilities.{PrivateCapabilities}
use Rattle.records.specs.declared.state.VertexState.{VertexState}
use Rattle.slots.specs.Vertex.{step_of, slot_at, instance_at, attributes_of, stepped}

-- "Without FULLY_FEATURED_INSTANCING the working instance is the draw's first instance, else 0"
abbrev pub working : PrivateCapabilities → ℕ → ℕ
working caps first = cond caps.fully_featured_instancing 0 first

-- document 02, request 5: "an instance slot of the pass's last pipeline becomes dirty when its own number differs"
abbrev pub moved : VertexState → ℕ → ℕ
moved v w = mask_by 16 (λ i. test_bit v.instance_vbuf_mask i && not (eqb w (instance_at v i)))

abbrev pub woken : VertexState → ℕ → ℕ
woken v w = bit_or v.dirty_vbuf_mask (moved v w)

-- "the slots to rebind are those dirty, described and bound"
abbrev pub rebound : VertexState → ℕ → ℕ
rebound v w = bit_and (bit_and (woken v w) v.described) v.bound

-- how far a description moves its slot on: by the working instance, if it steps by instance
abbrev pub instance_offset : VertexStepMode → ℕ → ℕ → ℕ
instance_offset Vertex w stride = 0
instance_offset Instance w stride = w * stride

-- the description and the binding of a slot that has both
abbrev pub slot_desc : VertexState → ℕ → VertexBufferDesc
slot_desc v i = record { step = step_of (test_bit v.by_instance i); stride = (slot_at v i).stride }

abbrev pub slot_offset : VertexState → ℕ → ℕ → ℕ
slot_offset v w i = instance_offset (step_of (test_bit v.by_instance i)) w (slot_at v i).stride

-- with VERTEX_BUFFER_LAYOUT: the command of slot i
abbrev pub buffer_command : VertexState → ℕ → ℕ → Command
buffer_command v w i = SetVertexBuffer i (record { raw = (slot_at v i).raw; offset = (slot_at v i).offset + slot_offset v w i }) (slot_desc v i)

-- "as many vertex buffers as the mask to be rebound has ones, lowest slot first"
unfoldable pub buffer_commands : VertexState → ℕ → List Command
buffer_commands v w = map (buffer_command v w) (places (rebound v w))

-- without it: "each attribute of such a slot is set in list order, binding offset and instance offset added to its own"
abbrev pub attribute_offset : VertexState → ℕ → AttributeDesc → ℕ
attribute_offset v w a = a.offset + (slot_at v a.buffer_index).offset + slot_offset v w a.buffer_index

abbrev pub attribute_command : VertexState → ℕ → AttributeDesc → Command
attribute_command v w a =
    SetVertexAttribute (Some (slot_at v a.buffer_index).raw) (slot_desc v a.buffer_index)
    (record {
      location = a.location;
      offset = attribute_offset v w a;
      buffer_index = a.buffer_index;
      format_desc = a.format_desc;
    })

-- the attributes of a list whose slot is to be rebound
unfoldable pub sent_of : ℕ → List AttributeDesc → List AttributeDesc
sent_of m [] = []
sent_of m (a ∷ l) = cond (test_bit m a.buffer_index) (a ∷ sent_of m l) (sent_of m l)

abbrev pub sent : VertexState → ℕ → List AttributeDesc
sent v w = sent_of (rebound v w) (attributes_of v)

unfoldable pub attribute_commands : VertexState → ℕ → List Command
attribute_commands v w = map (attribute_command v w) (sent v w)

-- the slots that lose their dirty bit: with layout the rebound ones, without "only slots with an attribute"
abbrev pub slots_of : List AttributeDesc → List ℕ
slots_of l = map (λ (a : AttributeDesc). a.buffer_index) l

abbrev pub cleared : PrivateCapabilities → VertexState → ℕ → ℕ
cleared caps v w = cond caps.vertex_buffer_layout (rebound v w) (mask_by 16 (λ i. among i (slots_of (sent v w))))

-- "Each slot shall remember the working instance that it was last bound with": the slots that lose their bit
abbrev pub remembered : List ℕ → ℕ → ℕ → List ℕ
remembered numbers m w = tabulate 16 (λ i. cond (test_bit m i) w (get_or numbers i 0))

-- what a draw records before its own command
abbrev pub prepared : PrivateCapabilities → VertexState → ℕ → List Command
prepared caps v w = cond caps.vertex_buffer_layout (buffer_commands v w) (attribute_commands v w)

-- and what it makes of the vertex part
abbrev pub prepared_state : PrivateCapabilities → VertexState → ℕ → VertexState
prepared_state caps v w = stepped v (without (woken v w) (cleared caps v w)) (remembered v.instances (cleared caps v w) w)

-- 6: the product in 32 bits, and the sums in the fields that take them
abbrev pub slot_over : VertexState → ℕ → ℕ → Bool
slot_over v w i = not (ltb (slot_offset v w i) (2 ^ 32) && ltb ((slot_at v i).offset + slot_offset v w i) (2 ^ 64))

abbrev pub attribute_over : VertexState → ℕ → AttributeDesc → Bool
attribute_over v w a = not (ltb (slot_offset v w a.buffer_index) (2 ^ 32) && ltb (attribute_offset v w a) (2 ^ 32))

abbrev pub prepared_over : PrivateCapabilities → VertexState → ℕ → Bool
prepared_over caps v w =
    cond caps.vertex_buffer_layout (some? (slot_over v w) (places (rebound v w))) (some? (attribute_over v w) (sent v w))
