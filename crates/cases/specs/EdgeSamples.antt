-- What the rows of `Edges` are made of: boards, passes, pipelines, bind groups, and a few commands. Definitions only.
use Rattle.std.specs.Prelude.{ℕ, Bool, true, false, List, [], ◌∷◌, ◌++◌, ℤ, pos, length, replicate, Option, None, Some}
use Rattle.std.specs.Float.{binary32}
use Rattle.std.specs.Float.Ieee.{of_bits}
use Rattle.tables.specs.Tabulate.{tabulate}
use Rattle.names.specs.declared.wgt.FrontFace.TheVariants.{Ccw}
use Rattle.names.specs.declared.wgt.CullMode.TheVariants as cull
use Rattle.names.specs.declared.wgt.PolygonMode.TheVariants.{Fill}
use Rattle.names.specs.declared.wgt.PrimitiveTopology.TheVariants.{TriangleList}
use Rattle.names.specs.declared.gl.StencilOps.{StencilOps}
use Rattle.names.specs.declared.gl.StencilSide.{StencilSide}
use Rattle.records.specs.Start.{start_target, start_depth_bias, start_immediate}
use Rattle.records.specs.declared.args.Buffer.{Buffer}
use Rattle.records.specs.declared.binding.BindingType.{BindingType}
use Rattle.records.specs.declared.binding.BindingType.TheVariants as type
use Rattle.records.specs.declared.binding.BufferBindingType.TheVariants.{Uniform}
use Rattle.records.specs.declared.binding.GroupShape.{GroupShape}
use Rattle.records.specs.declared.binding.RawBinding.{RawBinding}
use Rattle.records.specs.declared.binding.RawBinding.TheVariants as content
use Rattle.records.specs.declared.command.Command.{Command}
use Rattle.records.specs.declared.command.Command.TheVariants.{ClearColorF, SetPrimitive}
use Rattle.records.specs.declared.command.Extent3d.{Extent3d}
use Rattle.records.specs.declared.command.ImageBinding.{ImageBinding}
use Rattle.records.specs.declared.command.ImmediateDesc.{ImmediateDesc}
use Rattle.records.specs.declared.pass.DepthStencilAttachment.{DepthStencilAttachment}
use Rattle.records.specs.declared.pass.TimestampWrites.{TimestampWrites}
use Rattle.records.specs.declared.command.SampleKind.TheVariants as kind
use Rattle.records.specs.declared.command.TextureInner.TheVariants.{Renderbuffer, Texture}
use Rattle.records.specs.declared.command.TextureView.{TextureView}
use Rattle.records.specs.declared.pass.ColorPlace.{ColorPlace}
use Rattle.records.specs.declared.pass.RenderPassDescriptor.{RenderPassDescriptor}
use Rattle.records.specs.declared.pipeline.PrivateCapabilities.{PrivateCapabilities}
use Rattle.records.specs.declared.pipeline.RenderPipeline.{RenderPipeline}
use Rattle.records.specs.declared.pipeline.SamplerBind.{SamplerBind}
use Rattle.records.specs.declared.pipeline.VertexBufferLayout.{VertexBufferLayout}
use Rattle.bindings.specs.Group.{no_group}
use Rattle.pipeline.specs.Inner.{no_bind}
use Rattle.pipeline.specs.Vertex.{no_layout}
use Rattle.pass.specs.Marks.{Label}
use Rattle.pass.specs.Render.{no_place}
use Rattle.calls.specs.Call.{QuerySet, Call, begin_render_pass, begin_compute_pass, end_compute_pass, set_bind_group, set_render_pipeline, set_vertex_buffer, set_compute_pipeline}
use Rattle.cases.specs.Samples.{padded, board, lent, no_queries, no_label, by_vertex, attribute, takes, inner_of, pipeline_of, pipeline, entry, bind_group, viewed, pass, bare_pass}
use Rattle.cases.specs.Cases.{float, black}

-- ---- what the rows begin with
-- with MULTISAMPLED_RENDER_TO_TEXTURE; without MEMORY_BARRIERS
abbrev pub multisampled : PrivateCapabilities
multisampled = board true true false true

abbrev pub unsynchronized : PrivateCapabilities
unsynchronized = board false true false false

-- views: a Sint texture; what is resolved into, a texture and a renderbuffer; depth alone, stencil alone
abbrev pub sint : TextureView
sint = viewed (Texture 3 3553) 1 kind.Sint false

abbrev pub into : TextureView
into = viewed (Texture 8 3553) 1 kind.Float false

abbrev pub into_buffer : TextureView
into_buffer = viewed (Renderbuffer 9) 1 kind.Float false

abbrev pub depth_alone : TextureView
depth_alone = viewed (Texture 4 3553) 2 kind.Depth false

abbrev pub stencil_alone : TextureView
stencil_alone = viewed (Texture 5 3553) 4 kind.Uint false

-- a pass of that width, height, sample count, places and timestamps, without depth and stencil
abbrev pub pass_by : ℕ → ℕ → ℕ → List ColorPlace → Option TimestampWrites → RenderPassDescriptor
pass_by width height samples places stamps =
    record {
      extent = record { width = width; height = height; depth_or_array_layers = 1 };
      sample_count = samples;
      color_attachments = padded 8 no_place places;
      color_attachment_count = length places;
      depth_stencil_attachment = None;
      timestamp_writes = stamps;
    }

-- a view for depth and stencil, the operations of both, clear values 0.5 and 3; a pass with it alone
abbrev pub half : TextureView → ℕ → ℕ → Option DepthStencilAttachment
half v depth-ops stencil-ops =
    Some
    (record { view = v; depth_ops = depth-ops; stencil_ops = stencil-ops; clear_depth = of_bits binary32 0x3f00_0000; clear_stencil = 3 })

abbrev pub deep : TextureView → ℕ → ℕ → Call
deep v depth-ops stencil-ops = pass [] (half v depth-ops stencil-ops)

-- slice 5 of the float texture, with its operations, resolved into a view; a pass of such places with four samples
abbrev pub resolved : ℕ → TextureView → ColorPlace
resolved ops dst =
    record { attachment = Some (record { view = float; depth_slice = Some 5; resolve_target = Some dst; ops = ops; clear_value = black }) }

abbrev pub resolving : List ColorPlace → Call
resolving places = begin_render_pass (pass_by 4 3 4 places None) no_label no_queries

-- query sets of target 36392: queries 31 and 32; 1,024 queries
abbrev pub two_queries : QuerySet
two_queries = record { queries = lent (31 ∷ 32 ∷ []); target = 36392 }

abbrev pub many_queries : QuerySet
many_queries = record { queries = lent (replicate 1024 31); target = 36392 }

-- a label of n bytes; a compute pass with one of 65,536
abbrev pub labelled : ℕ → Label
labelled n = record { present = true; bytes = lent (replicate n 104) }

abbrev pub full_bytes : List Call
full_bytes = begin_compute_pass None (labelled 65536) no_queries ∷ end_compute_pass ∷ []

-- a pass with the label `hi`, the timestamps of both queries, and a place that is resolved and discarded
abbrev pub marked : Call
marked =
    begin_render_pass
    (pass_by 4 3 1 (resolved 17 into ∷ []) (Some (record { beginning_of_pass_write_index = Some 0; end_of_pass_write_index = Some 1 })))
    (record { present = true; bytes = lent (104 ∷ 105 ∷ []) }) two_queries.queries

-- an unlabelled compute pass
abbrev pub compute : Call
compute = begin_compute_pass None no_label no_queries

-- slot 15 alone by vertex; attributes at locations 2 and 5 of slot 0
abbrev pub last_slot : RenderPipeline
last_slot = pipeline 1 (replicate 15 no_layout ++ by_vertex 8 ∷ []) []

abbrev pub attributed : RenderPipeline
attributed = pipeline 1 (by_vertex 8 ∷ []) (attribute 2 0 0 ∷ attribute 5 4 0 ∷ [])

-- slot 0 alone, described so; a pass with buffer 7 at an offset in such a slot; a pass with it at 0 and an attribute with an offset of its own
abbrev pub stepping : VertexBufferLayout → RenderPipeline
stepping l = pipeline 1 (l ∷ []) []

abbrev pub at_offset : ℕ → VertexBufferLayout → List Call
at_offset offset l = bare_pass ∷ set_render_pipeline (stepping l) ∷ set_vertex_buffer 0 7 offset ∷ []

abbrev pub fetched : VertexBufferLayout → ℕ → List Call
fetched l offset = bare_pass ∷ set_render_pipeline (pipeline 1 (l ∷ []) (attribute 0 offset 0 ∷ [])) ∷ set_vertex_buffer 0 7 0 ∷ []

-- a location of the first instance, and a count of clip distances
abbrev pub special : Option ℕ → ℕ → RenderPipeline
special location clips =
    pipeline_of
    (record {
      program = 1;
      sampler_map = replicate 16 no_bind;
      first_instance_location = location;
      immediates_descs = replicate 192 start_immediate;
      immediates_count = 0;
      clip_distance_count = clips;
    })
    [] [] None Ccw

-- keep for the three stencil operations; a face with the masks by which it reads and writes; a pipeline with that back face
abbrev pub keeps : StencilOps
keeps = record { pass = 7680; fail = 7680; depth_fail = 7680 }

abbrev pub face : ℕ → ℕ → StencilSide
face reads writes =
    record {
      function = 519;
      mask_read = reads;
      mask_write = writes;
      reference = 0;
      ops = keeps;
    }

abbrev pub two_faced : StencilSide → RenderPipeline
two_faced back = pipeline_of (inner_of 1 [] []) [] [] (Some (record { front = face 255 255; back = back })) Ccw

-- units 1 and 4 take sampler number 2; unit 4 alone does
abbrev pub both_units : List SamplerBind
both_units = no_bind ∷ takes 2 ∷ no_bind ∷ no_bind ∷ takes 2 ∷ []

abbrev pub unit_4 : List SamplerBind
unit_4 = no_bind ∷ no_bind ∷ no_bind ∷ no_bind ∷ takes 2 ∷ []

abbrev pub computing : List SamplerBind → Call
computing units = set_compute_pipeline (record { inner = inner_of 3 units [] })

-- with or without alpha to coverage; full arrays, of which so many slots, attributes, targets and immediate descriptors count
abbrev pub counting : Bool → ℕ → ℕ → ℕ → ℕ → Call
counting coverage slots attributes targets descs =
    set_render_pipeline
    (record {
      inner =
          record {
            program = 1;
            sampler_map = replicate 16 no_bind;
            first_instance_location = None;
            immediates_descs = replicate 192 start_immediate;
            immediates_count = descs;
            clip_distance_count = 0;
          };
      topology = TriangleList;
      primitive = record { front_face = Ccw; cull_mode = cull.None; unclipped_depth = false; polygon_mode = Fill };
      vertex_buffers = replicate 16 (by_vertex 8);
      vertex_buffer_count = slots;
      vertex_attributes = tabulate 16 (λ i. attribute i 0 0);
      vertex_attribute_count = attributes;
      color_targets = replicate 8 start_target;
      color_target_count = targets;
      depth = None;
      depth_bias = start_depth_bias;
      stencil = None;
      alpha_to_coverage_enabled = coverage;
    })

-- a pipeline with one attribute; with one sampler number; an immediate descriptor of that offset and size, and a pipeline with such
abbrev pub located : ℕ → ℕ → Call
located location slot = set_render_pipeline (pipeline 1 (replicate 16 (by_vertex 8)) (attribute location 0 slot ∷ []))

abbrev pub taking : ℕ → Call
taking k = set_render_pipeline (pipeline_of (inner_of 1 (takes k ∷ []) []) [] [] None Ccw)

abbrev pub described : ℕ → ℕ → ImmediateDesc
described offset size = record { location = 3; ty = 9; offset = offset; size_bytes = size }

abbrev pub sending : List ImmediateDesc → Call
sending descs = set_render_pipeline (pipeline_of (inner_of 1 [] descs) [] [] None Ccw)

-- contents of a bind group: buffer 6 at an offset, texture 9, texture 4 as an image, sampler 8
abbrev pub buffer : ℤ → RawBinding
buffer offset = content.Buffer 6 offset (pos 16)

abbrev pub texture : RawBinding
texture = content.Texture 9 3553 1 (record { start = 0; end = 2 })

abbrev pub image : ImageBinding
image = record { raw = 4; mip_level = 1; array_layer = Some 2; access = 35002; format = 32856 }

abbrev pub sampler : RawBinding
sampler = content.Sampler 8

-- a group with one entry of that type and slot, binding number 0
abbrev pub bind_one : BindingType → ℕ → RawBinding → Call
bind_one ty slot c = bind_group (entry 0 ty slot ∷ []) (c ∷ []) []

-- a group of n entries; a layout of groups, of which n count; group i of it is bound, its entries uniform buffers at slot 3, with so many contents
abbrev pub shape : ℕ → GroupShape
shape n = record { present = true; entry_count = n }

abbrev pub grouped : List GroupShape → ℕ → ℕ → ℕ → Call
grouped groups n i contents =
    set_bind_group (record { groups = padded 8 no_group groups; group_count = n }) i
    (record { entries = replicate 64 (entry 0 (type.Buffer Uniform false) 3) })
    (record { contents = replicate 64 (record { binding = buffer (pos 0) }); content_count = contents })
    (lent [])

-- buffers 7 and 8 of two targets, an absent one
abbrev pub vertices : Buffer
vertices = record { raw = 7; target = 34962 }

abbrev pub indices : Buffer
indices = record { raw = 8; target = 34963 }

abbrev pub no_buffer : Buffer
no_buffer = record { raw = 0; target = 34963 }

-- ---- commands
-- the primitive of a pipeline with front face `Ccw`; draw buffer 0 cleared to black; the extent of a pass of 4 by 3
abbrev pub triangles : Command
triangles = SetPrimitive (record { front_face = 2304; cull_face = 0; unclipped_depth = false; polygon_mode = 6914 })

abbrev pub cleared : Command
cleared = ClearColorF 0 (record { r = of_bits binary32 0; g = of_bits binary32 0; b = of_bits binary32 0; a = of_bits binary32 0; is_srgb = false })

abbrev pub extent : Extent3d
extent = record { width = 4; height = 3; depth_or_array_layers = 1 }
