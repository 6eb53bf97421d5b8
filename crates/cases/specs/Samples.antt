-- Small values for the worked examples: boards, views, passes, pipelines, calls. Definitions only.
use Rattle.std.specs.Prelude.{ℕ, Bool, true, false, List, [], ◌∷◌, ◌++◌, map, ℤ, pos, Float, length, drop, replicate, Option, None, Some}
use Rattle.std.specs.Float.{binary32}
use Rattle.std.specs.Float.Ieee.{of_bits}
use Rattle.names.specs.declared.wgt.FrontFace.{FrontFace}
use Rattle.names.specs.declared.wgt.FrontFace.TheVariants.{Ccw}
use Rattle.names.specs.declared.wgt.CullMode.TheVariants as cull
use Rattle.names.specs.declared.wgt.PolygonMode.TheVariants.{Fill}
use Rattle.names.specs.declared.wgt.PrimitiveTopology.TheVariants.{TriangleList}
use Rattle.records.specs.Start.{start_target, start_depth_bias, start_attribute, start_immediate}
use Rattle.records.specs.declared.binding.BindGroupLayoutEntry.{BindGroupLayoutEntry}
use Rattle.records.specs.declared.binding.BindingType.{BindingType}
use Rattle.records.specs.declared.binding.BindingType.TheVariants as type
use Rattle.records.specs.declared.binding.RawBinding.{RawBinding}
use Rattle.records.specs.declared.binding.RawBinding.TheVariants as content
use Rattle.records.specs.declared.check.Rooms.{Rooms}
use Rattle.records.specs.declared.command.Command.{Command}
use Rattle.records.specs.declared.command.Command.TheVariants.{Draw, SetVertexBuffer}
use Rattle.records.specs.declared.command.AttributeDesc.{AttributeDesc}
use Rattle.records.specs.declared.command.ColorTargetDesc.{ColorTargetDesc}
use Rattle.records.specs.declared.command.DepthBiasState.{DepthBiasState}
use Rattle.records.specs.declared.command.ImmediateDesc.{ImmediateDesc}
use Rattle.records.specs.declared.pass.DepthStencilAttachment.{DepthStencilAttachment}
use Rattle.names.specs.declared.gl.StencilState.{StencilState}
use Rattle.records.specs.declared.command.RectI32.{RectI32}
use Rattle.records.specs.declared.command.SampleKind.{SampleKind}
use Rattle.records.specs.declared.command.TextureInner.{TextureInner}
use Rattle.records.specs.declared.command.TextureView.{TextureView}
use Rattle.records.specs.declared.command.VertexAttribKind.TheVariants as attrib
use Rattle.records.specs.declared.command.VertexFormatDesc.{VertexFormatDesc}
use Rattle.records.specs.declared.command.VertexStepMode.{VertexStepMode}
use Rattle.records.specs.declared.command.VertexStepMode.TheVariants.{Vertex, Instance}
use Rattle.records.specs.declared.pass.ColorF64.{ColorF64}
use Rattle.records.specs.declared.pass.ColorPlace.{ColorPlace}
use Rattle.records.specs.declared.pass.RenderPassDescriptor.{RenderPassDescriptor}
use Rattle.records.specs.declared.pipeline.PipelineInner.{PipelineInner}
use Rattle.records.specs.declared.pipeline.PrivateCapabilities.{PrivateCapabilities}
use Rattle.records.specs.declared.pipeline.RenderPipeline.{RenderPipeline}
use Rattle.records.specs.declared.pipeline.SamplerBind.{SamplerBind}
use Rattle.records.specs.declared.pipeline.VertexBufferLayout.{VertexBufferLayout}
use Rattle.bindings.specs.Group.{no_group}
use Rattle.pipeline.specs.Inner.{no_bind}
use Rattle.pipeline.specs.Vertex.{no_layout}
use Rattle.pass.specs.Marks.{Lent, Label}
use Rattle.pass.specs.Render.{no_place, full_depth}
use Rattle.calls.specs.Call.{Call, begin_render_pass, set_bind_group, set_viewport, draw}

-- an array of n elements that begins with a list
abbrev pub padded : {A : Type 0} → ℕ → A → List A → List A
padded n d l = l ++ drop (length l) (replicate n d)

-- ---- boards and runs
-- the four flags: memory barriers, VERTEX_BUFFER_LAYOUT, FULLY_FEATURED_INSTANCING, multisampled render to texture
abbrev pub board : Bool → Bool → Bool → Bool → PrivateCapabilities
board barriers layouts instancing multisampled =
    record {
      memory_barriers = barriers;
      vertex_buffer_layout = layouts;
      fully_featured_instancing = instancing;
      multisampled_render_to_texture = multisampled;
    }

-- "layout on, instancing emulated"
abbrev pub emulated : PrivateCapabilities
emulated = board true true false false

-- "with full instancing"
abbrev pub full : PrivateCapabilities
full = board true true true false

-- "without layout"
abbrev pub bare : PrivateCapabilities
bare = board true false false false

-- lent runs as long as the limits
abbrev pub rooms : Rooms
rooms = record { commands = 4096; bytes = 65536; queries = 1024 }

-- ---- what is lent to a call
abbrev pub lent : List ℕ → Lent
lent l = record { run = l; count = length l }

abbrev pub no_queries : Lent
no_queries = lent []

abbrev pub no_label : Label
no_label = record { present = false; bytes = lent [] }

abbrev pub empty_label : Label
empty_label = record { present = true; bytes = lent [] }

-- ---- pipelines
-- a slot that is described, by vertex or by instance
abbrev pub by_vertex : ℕ → VertexBufferLayout
by_vertex stride = record { desc = Some (record { step = Vertex; stride = stride }) }

abbrev pub by_instance : ℕ → VertexBufferLayout
by_instance stride = record { desc = Some (record { step = Instance; stride = stride }) }

-- four floats, and an attribute of that format
abbrev pub floats : VertexFormatDesc
floats = record { element_count = pos 4; element_format = 5126; attrib_kind = attrib.Float }

abbrev pub attribute : ℕ → ℕ → ℕ → AttributeDesc
attribute location offset slot = record { location = location; offset = offset; buffer_index = slot; format_desc = floats }

-- a unit that takes the sampler of that number
abbrev pub takes : ℕ → SamplerBind
takes k = record { sampler_index = Some k }

-- the program, the units' sampler numbers, the immediate descriptors
abbrev pub inner_of : ℕ → List SamplerBind → List ImmediateDesc → PipelineInner
inner_of program units descs =
    record {
      program = program;
      sampler_map = padded 16 no_bind units;
      first_instance_location = None;
      immediates_descs = padded 192 start_immediate descs;
      immediates_count = length descs;
      clip_distance_count = 0;
    }

-- triangles, no targets, no depth; with these slots, attributes, stencil and front face
abbrev pub pipeline_of : PipelineInner → List VertexBufferLayout → List AttributeDesc → Option StencilState → FrontFace → RenderPipeline
pipeline_of inner slots attributes s face =
    record {
      inner = inner;
      topology = TriangleList;
      primitive = record { front_face = face; cull_mode = cull.None; unclipped_depth = false; polygon_mode = Fill };
      vertex_buffers = padded 16 no_layout slots;
      vertex_buffer_count = length slots;
      vertex_attributes = padded 16 start_attribute attributes;
      vertex_attribute_count = length attributes;
      color_targets = padded 8 start_target [];
      color_target_count = 0;
      depth = None;
      depth_bias = start_depth_bias;
      stencil = s;
      alpha_to_coverage_enabled = false;
    }

-- a pipeline of slots and attributes alone
abbrev pub pipeline : ℕ → List VertexBufferLayout → List AttributeDesc → RenderPipeline
pipeline program slots attributes = pipeline_of (inner_of program [] []) slots attributes None Ccw

-- a pipeline with a depth state, a depth bias and targets, and no slots
abbrev pub fixed_of : DepthBiasState → List ColorTargetDesc → RenderPipeline
fixed_of bias targets =
    record {
      inner = inner_of 1 [] [];
      topology = TriangleList;
      primitive = record { front_face = Ccw; cull_mode = cull.None; unclipped_depth = false; polygon_mode = Fill };
      vertex_buffers = padded 16 no_layout [];
      vertex_buffer_count = 0;
      vertex_attributes = padded 16 start_attribute [];
      vertex_attribute_count = 0;
      color_targets = padded 8 start_target targets;
      color_target_count = length targets;
      depth = Some (record { function = 513; mask = true });
      depth_bias = bias;
      stencil = None;
      alpha_to_coverage_enabled = false;
    }

-- document 01's A, whose slot 0 has instance step and stride 8, and its B, which describes no slot
abbrev pub A : RenderPipeline
A = pipeline 1 (by_instance 8 ∷ []) []

abbrev pub B : RenderPipeline
B = pipeline 2 [] []

-- A with an attribute at location 0
abbrev pub fetching : ℕ → RenderPipeline
fetching offset = pipeline 1 (by_instance 8 ∷ []) (attribute 0 offset 0 ∷ [])

-- ---- bind groups
-- an entry of a layout: its binding number, type and slot
abbrev pub entry : ℕ → BindingType → ℕ → BindGroupLayoutEntry
entry binding ty slot = record { binding = binding; ty = ty; slot = slot }

-- a layout of one group, whose entries are these; and the call that binds such a group
abbrev pub bind_group : List BindGroupLayoutEntry → List RawBinding → List ℕ → Call
bind_group entries contents offsets =
    set_bind_group (record { groups = padded 8 no_group (record { present = true; entry_count = length entries } ∷ []); group_count = 1 }) 0
    (record { entries = padded 64 (entry 0 type.Sampler 0) entries })
    (record { contents = padded 64 (record { binding = content.Sampler 0 }) (map (λ r. record { binding = r }) contents); content_count = length contents })
    (lent offsets)

-- ---- passes
-- a view of one mip level and one layer, with its aspects (1 colour, 2 depth, 4 stencil)
abbrev pub viewed : TextureInner → ℕ → SampleKind → Bool → TextureView
viewed inner aspects kind srgb =
    record {
      inner = inner;
      aspects = aspects;
      mip_levels = record { start = 0; end = 1 };
      array_layers = record { start = 0; end = 1 };
      kind = kind;
      is_srgb = srgb;
    }

-- a colour place with its operations (2 clear, 8 store, 16 discard), its resolve view and its clear colour
abbrev pub filled : TextureView → ℕ → Option TextureView → ColorF64 → ColorPlace
filled v ops resolve colour =
    record { attachment = Some (record { view = v; depth_slice = None; resolve_target = resolve; ops = ops; clear_value = colour }) }

-- 4 by 3, with that count of colour places
abbrev pub pass_of : ℕ → List ColorPlace → Option DepthStencilAttachment → RenderPassDescriptor
pass_of count places ds =
    record {
      extent = record { width = 4; height = 3; depth_or_array_layers = 1 };
      sample_count = 1;
      color_attachments = padded 8 no_place places;
      color_attachment_count = count;
      depth_stencil_attachment = ds;
      timestamp_writes = None;
    }

-- ---- calls
-- an unlabelled pass without timestamps
abbrev pub pass : List ColorPlace → Option DepthStencilAttachment → Call
pass places ds = begin_render_pass (pass_of (length places) places ds) no_label no_queries

-- without attachments
abbrev pub bare_pass : Call
bare_pass = pass [] None

-- three vertices of one instance, first instance i
abbrev pub draw_at : ℕ → Call
draw_at i = draw 0 3 i 1

-- at 0, 0 with that width, 3 high, depth 0 to 1
abbrev pub viewport : Float → Call
viewport w = set_viewport (record { x = of_bits binary32 0; y = of_bits binary32 0; w = w; h = of_bits binary32 0x4040_0000 }) full_depth

-- ---- commands
abbrev pub rect : ℤ → ℤ → ℤ → ℤ → RectI32
rect x y w h = record { x = x; y = y; w = w; h = h }

-- the command of `draw_at` with a pipeline of triangles
abbrev pub drawn : ℕ → Command
drawn i = Draw 4 0 3 i 1 None

-- slot i gets buffer 7 at that offset
abbrev pub bound : ℕ → ℕ → VertexStepMode → ℕ → Command
bound i offset step stride = SetVertexBuffer i (record { raw = 7; offset = offset }) (record { step = step; stride = stride })
