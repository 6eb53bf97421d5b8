-- Settings of one command: index and vertex buffer, viewport, scissor, stencil reference, blend constants. Definitions only.
use Rattle.std.specs.Prelude.{ℕ, set}
use Rattle.mask.specs.Mask.{set_bit}
use Rattle.numbers.specs.Convert.{signed, twos, trunc_to}
use Rattle.names.specs.declared.gl.StencilSide.{StencilSide}
use Rattle.names.specs.declared.gl.StencilState.{StencilState}
use Rattle.records.specs.declared.args.RectF32.{RectF32}
use Rattle.records.specs.declared.args.RectU32.{RectU32}
use Rattle.records.specs.declared.command.RectI32.{RectI32}
use Rattle.records.specs.declared.state.IndexFormat.{IndexFormat}
use Rattle.records.specs.declared.state.VertexState.{VertexState}
use Rattle.records.specs.declared.state.DrawState.{DrawState}
use Rattle.slots.specs.Vertex.{slot_at}

-- the viewport in GL numbers: each fraction dropped toward zero, clamped
abbrev pub viewport_rect : RectF32 → RectI32
viewport_rect r = record { x = trunc_to signed 32 r.x; y = trunc_to signed 32 r.y; w = trunc_to signed 32 r.w; h = trunc_to signed 32 r.h }

-- the scissor: "keeps its 32 bits"
abbrev pub scissor_rect : RectU32 → RectI32
scissor_rect r = record { x = twos 32 r.x; y = twos 32 r.y; w = twos 32 r.w; h = twos 32 r.h }

abbrev pub with_reference : ℕ → StencilSide → StencilSide
with_reference v s = record { function = s.function; mask_read = s.mask_read; mask_write = s.mask_write; reference = v; ops = s.ops }

-- the reference of both sides
abbrev pub referenced : ℕ → StencilState → StencilState
referenced v s = record { front = with_reference v s.front; back = with_reference v s.back }

abbrev pub indexed : ℕ → IndexFormat → DrawState → DrawState
indexed offset format d = record { topology = d.topology; index_format = format; index_offset = offset; first_instance_location = d.first_instance_location }

-- the slot is bound and dirty
abbrev pub bound_slot : ℕ → ℕ → ℕ → VertexState → VertexState
bound_slot i raw offset v =
    record {
      described = v.described;
      bound = set_bit v.bound i;
      by_instance = v.by_instance;
      dirty_vbuf_mask = set_bit v.dirty_vbuf_mask i;
      buffers = set v.buffers i (record { stride = (slot_at v i).stride; raw = raw; offset = offset });
      attribute_count = v.attribute_count;
      instances = v.instances;
      instance_vbuf_mask = v.instance_vbuf_mask;
      attributes = v.attributes;
    }
