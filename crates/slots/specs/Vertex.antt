-- The vertex part of the state, read by slot: its description and its binding. Definitions only.
use Rattle.std.specs.Prelude.{ℕ, Bool, true, false, cond, List, get_or, take, Option, None, Some}
use Rattle.mask.specs.Mask.{test_bit}
use Rattle.records.specs.Start.{start_slot}
use Rattle.records.specs.declared.command.VertexStepMode.{VertexStepMode}
use Rattle.records.specs.declared.command.VertexStepMode.TheVariants.{Vertex, Instance}
use Rattle.records.specs.declared.command.VertexBufferDesc.{VertexBufferDesc}
use Rattle.records.specs.declared.command.BufferBinding.{BufferBinding}
use Rattle.records.specs.declared.command.AttributeDesc.{AttributeDesc}
use Rattle.records.specs.declared.state.VertexSlot.{VertexSlot}
use Rattle.records.specs.declared.state.VertexState.{VertexState}

abbrev pub step_of : Bool → VertexStepMode
step_of true = Instance
step_of false = Vertex

abbrev pub is_instance : VertexStepMode → Bool
is_instance Vertex = false
is_instance Instance = true

abbrev pub slot_at : VertexState → ℕ → VertexSlot
slot_at v i = get_or v.buffers i start_slot

-- the description of slot i, if it has one
abbrev pub desc_at : VertexState → ℕ → Option VertexBufferDesc
desc_at v i = cond (test_bit v.described i) (Some (record { step = step_of (test_bit v.by_instance i); stride = (slot_at v i).stride })) None

-- the binding of slot i, if it has one
abbrev pub binding_at : VertexState → ℕ → Option BufferBinding
binding_at v i = cond (test_bit v.bound i) (Some (record { raw = (slot_at v i).raw; offset = (slot_at v i).offset })) None

-- the working instance that slot i was last bound with, in this pass
abbrev pub instance_at : VertexState → ℕ → ℕ
instance_at v i = get_or v.instances i 0

-- the attributes that the state holds
abbrev pub attributes_of : VertexState → List AttributeDesc
attributes_of v = take v.attribute_count v.attributes

-- the vertex part with another dirty mask and other instances
abbrev pub stepped : VertexState → ℕ → List ℕ → VertexState
stepped v dirty instances =
    record {
      described = v.described;
      bound = v.bound;
      by_instance = v.by_instance;
      dirty_vbuf_mask = dirty;
      buffers = v.buffers;
      attribute_count = v.attribute_count;
      instances = instances;
      instance_vbuf_mask = v.instance_vbuf_mask;
      attributes = v.attributes;
    }
