-- What a draw finds on the machine: "read off the machine at its pipeline's own attribute locations and target places; what earlier pipelines left at others is no part of it". Definitions only.
use Rattle.std.specs.Prelude.{ℕ, ◌+◌, Bool, cond, List, [], map, length, take, Option, None, Some}
use Rattle.tables.specs.Tabulate.{tabulate}
use Rattle.mask.specs.Mask.{test_bit}
use Rattle.records.specs.declared.command.AttributeDesc.{AttributeDesc}
use Rattle.records.specs.declared.command.VertexBufferDesc.{VertexBufferDesc}
use Rattle.records.specs.declared.pipeline.RenderPipeline.{RenderPipeline}
use Rattle.machine.specs.View.{Source, Fetch, Stencil, View}
use Rattle.machine.specs.Machine.{Attribute, VertexBuffer, Vertices, Faces, Shot}

-- the source of an attribute with no buffer of its own: its slot's vertex buffer, the offsets added
abbrev pub slot_source : ℕ → Option VertexBuffer → Option Source
slot_source offset None = None
slot_source offset (Some b) = Some (record { buffer = b.binding.raw; stride = b.desc.stride; step = b.desc.step; first = offset + b.binding.offset })

-- with a buffer of its own the attribute gives all
abbrev pub source_of : Option ℕ → VertexBufferDesc → ℕ → Option VertexBuffer → Option Source
source_of None d offset slot = slot_source offset slot
source_of (Some raw) d offset slot = Some (record { buffer = raw; stride = d.stride; step = d.step; first = offset })

-- the fetch at a location
abbrev pub fetch_of : ℕ → (ℕ → Option VertexBuffer) → Option Attribute → Option Fetch
fetch_of l buffer None = None
fetch_of l buffer (Some a) =
    Some
    (record {
      location = l;
      format = a.attribute.format_desc;
      slot = a.attribute.buffer_index;
      source = source_of a.buffer a.desc a.attribute.offset (buffer a.attribute.buffer_index);
    })

abbrev pub fetch_at : Vertices → ℕ → Option Fetch
fetch_at v l = fetch_of l v.buffer (v.attribute l)

-- ---- the pipeline's own places
abbrev pub attributes_by : Option RenderPipeline → List AttributeDesc
attributes_by None = []
attributes_by (Some p) = take p.vertex_attribute_count p.vertex_attributes

abbrev pub targets_by : Option RenderPipeline → ℕ
targets_by None = 0
targets_by (Some p) = length (take p.color_target_count p.color_targets)

-- ---- depth and stencil: the last `ConfigureDepthStencil` has a bit for each, 1 of the depth and 2 of the stencil
abbrev pub flag_at : ℕ → Option ℕ → Option Bool
flag_at i None = None
flag_at i (Some aspects) = Some (test_bit aspects i)

abbrev pub where? : {A : Type 0} → Option Bool → Option A → Option A
where? None x = None
where? (Some t) x = cond t x None

abbrev pub faces_of : Faces → Option Stencil
faces_of f = Some (record { front = f.front; back = f.back; front_ops = f.front_ops; back_ops = f.back_ops })

-- the view that a draw by this pipeline finds
abbrev pub view_of : Option RenderPipeline → Shot → View
view_of p s =
    record {
      command = s.command;
      program = s.gl.fixed.program;
      fetches = map (λ (a : AttributeDesc). fetch_at s.gl.vertices a.location) (attributes_by p);
      buffers = s.gl.bindings.buffers;
      textures = s.gl.bindings.textures;
      images = s.gl.bindings.images;
      samplers = tabulate 16 s.gl.bindings.samplers;
      index = cond s.indexed s.gl.bindings.index None;
      viewport = s.gl.screen.viewport;
      scissor = s.gl.screen.scissor;
      blend = s.gl.screen.blend;
      primitive = s.gl.fixed.primitive;
      bias = s.gl.fixed.bias;
      alpha = s.gl.fixed.alpha;
      targets = tabulate (targets_by p) s.gl.fixed.target;
      clip = s.gl.fixed.clip;
      has_depth = flag_at 1 s.gl.fixed.aspects;
      has_stencil = flag_at 2 s.gl.fixed.aspects;
      depth = where? (flag_at 1 s.gl.fixed.aspects) s.gl.fixed.depth;
      stencil = where? (flag_at 2 s.gl.fixed.aspects) (faces_of s.gl.faces);
    }
