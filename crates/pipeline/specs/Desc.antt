-- The description of a vertex slot from the elements of the arrays that hold it. Definitions only.
-- `pipe_desc p i` is `desc_in p.vertex_buffers p.vertex_buffer_count i`; `desc_at v i` is `slot_desc` of slot i and its two flags.
use Rattle.std.specs.Prelude.{ℕ, Bool, cond, List, ltb, get_or, Option, None, Some}
use Rattle.records.specs.declared.command.VertexBufferDesc.{VertexBufferDesc}
use Rattle.records.specs.declared.pipeline.VertexBufferLayout.{VertexBufferLayout}
use Rattle.records.specs.declared.state.VertexSlot.{VertexSlot}
use Rattle.slots.specs.Vertex.{step_of}
use Rattle.pipeline.specs.Vertex.{no_layout}

abbrev pub desc_in : List VertexBufferLayout → ℕ → ℕ → Option VertexBufferDesc
desc_in layouts count i = cond (ltb i count) (get_or layouts i no_layout).desc None

abbrev pub slot_desc : VertexSlot → Bool → Bool → Option VertexBufferDesc
slot_desc slot there by_instance = cond there (Some (record { step = step_of by_instance; stride = slot.stride })) None
