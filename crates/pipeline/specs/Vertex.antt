-- The vertex part of `set_render_pipeline`: attributes, slot descriptions, masks. Definitions only.
use Rattle.std.specs.Prelude.{ℕ, Bool, true, false, cond, not, ◌&&◌, ◌||◌, List, map, ltb, eqb, get_or, take, Option, None, Some, is_some, unwrap_or}
use Rattle.std.specs.Int.Bits.{bit_or}
use Rattle.tables.specs.Tabulate.{tabulate}
use Rattle.mask.specs.Mask.{test_bit}
use Rattle.mask.specs.By.{mask_by}
use Rattle.records.specs.Check.{some?, among, twice, locations, bad_attribute}
use Rattle.records.specs.declared.command.Command.{Command}
use Rattle.records.specs.declared.command.Command.TheVariants.{SetVertexAttribute, UnsetVertexAttribute}
use Rattle.records.specs.declared.command.VertexStepMode.{VertexStepMode}
use Rattle.records.specs.declared.command.VertexStepMode.TheVariants.{Vertex, Instance}
use Rattle.records.specs.declared.command.VertexBufferDesc.{VertexBufferDesc}
use Rattle.records.specs.declared.command.AttributeDesc.{AttributeDesc}
use Rattle.records.specs.declared.pipeline.VertexBufferLayout.{VertexBufferLayout}
use Rattle.records.specs.declared.pipeline.RenderPipeline.{RenderPipeline}
use Rattle.records.specs.declared.pipeline.PrivateCapabilities.{PrivateCapabilities}
use Rattle.records.specs.declared.state.VertexSlot.{VertexSlot}
use Rattle.records.specs.declared.state.VertexState.{VertexState}
use Rattle.slots.specs.Vertex.{is_instance, slot_at, desc_at, attributes_of}
use Rattle.slots.specs.Prepare.{slots_of}

abbrev pub no_layout : VertexBufferLayout
no_layout = record { desc = None }

-- the pipeline's description of slot i, if it has one
abbrev pub pipe_desc : RenderPipeline → ℕ → Option VertexBufferDesc
pipe_desc p i = cond (ltb i p.vertex_buffer_count) (get_or p.vertex_buffers i no_layout).desc None

abbrev pub attributes_in : RenderPipeline → List AttributeDesc
attributes_in p = take p.vertex_attribute_count p.vertex_attributes

abbrev pub has : {A : Type 0} → Option A → Bool
has o = is_some o

abbrev pub same_step : VertexStepMode → VertexStepMode → Bool
same_step Vertex Vertex = true
same_step Vertex Instance = false
same_step Instance Vertex = false
same_step Instance Instance = true

abbrev pub same_desc : VertexBufferDesc → VertexBufferDesc → Bool
same_desc a b = same_step a.step b.step && eqb a.stride b.stride

-- the pipeline describes the slot otherwise than the state does
abbrev pub changes : Option VertexBufferDesc → Option VertexBufferDesc → Bool
changes None old = false
changes (Some d) None = true
changes (Some d) (Some e) = not (same_desc d e)

abbrev pub steps_by_instance : Option VertexBufferDesc → Bool
steps_by_instance None = false
steps_by_instance (Some d) = is_instance d.step

-- the description's step and stride, or what the state had
abbrev pub step_or : Bool → Option VertexBufferDesc → Bool
step_or old None = old
step_or old (Some d) = is_instance d.step

abbrev pub described_slot : Option VertexBufferDesc → VertexSlot → VertexSlot
described_slot None s = s
described_slot (Some d) s = record { stride = d.stride; raw = s.raw; offset = s.offset }

abbrev pub changed_slots : RenderPipeline → VertexState → ℕ
changed_slots p v = mask_by 16 (λ i. changes (pipe_desc p i) (desc_at v i))

-- without layout the mask is first emptied, then each attribute's slot is dirty
abbrev pub dirty_before : PrivateCapabilities → RenderPipeline → VertexState → ℕ
dirty_before caps p v = cond caps.vertex_buffer_layout v.dirty_vbuf_mask (mask_by 16 (λ i. among i (slots_of (attributes_in p))))

-- with layout the state's attribute list is left as it is; without, it is the pipeline's
abbrev pub pipeline_vertex : PrivateCapabilities → RenderPipeline → VertexState → VertexState
pipeline_vertex caps p v =
    record {
      described = bit_or v.described (mask_by 16 (λ i. has (pipe_desc p i)));
      bound = v.bound;
      by_instance = mask_by 16 (λ i. step_or (test_bit v.by_instance i) (pipe_desc p i));
      dirty_vbuf_mask = bit_or (dirty_before caps p v) (changed_slots p v);
      buffers = tabulate 16 (λ i. described_slot (pipe_desc p i) (slot_at v i));
      attribute_count = cond caps.vertex_buffer_layout v.attribute_count p.vertex_attribute_count;
      instances = v.instances;
      instance_vbuf_mask = mask_by 16 (λ i. steps_by_instance (pipe_desc p i));
      attributes = cond caps.vertex_buffer_layout v.attributes p.vertex_attributes;
    }

abbrev pub desc_or : Option VertexBufferDesc → VertexBufferDesc
desc_or d = unwrap_or d (record { step = Vertex; stride = 0 })

-- with layout each attribute is sent, with no buffer; without, the old attributes are unset
abbrev pub set_attribute : RenderPipeline → AttributeDesc → Command
set_attribute p a = SetVertexAttribute None (desc_or (pipe_desc p a.buffer_index)) a

abbrev pub unset_attribute : AttributeDesc → Command
unset_attribute a = UnsetVertexAttribute a.location

abbrev pub vertex_commands : PrivateCapabilities → RenderPipeline → VertexState → List Command
vertex_commands caps p v = cond caps.vertex_buffer_layout (map (set_attribute p) (attributes_in p)) (map unset_attribute (attributes_of v))

-- 2, 3, 4, 5 of the slots and attributes
abbrev pub vertex_too_many : RenderPipeline → Bool
vertex_too_many p = ltb 16 p.vertex_buffer_count || ltb 16 p.vertex_attribute_count

abbrev pub vertex_out_of_range : RenderPipeline → Bool
vertex_out_of_range p = some? bad_attribute (attributes_in p)

abbrev pub vertex_absent : RenderPipeline → Bool
vertex_absent p = some? (λ (a : AttributeDesc). not (has (pipe_desc p a.buffer_index))) (attributes_in p)

abbrev pub vertex_twice : RenderPipeline → Bool
vertex_twice p = twice (locations (attributes_in p))
