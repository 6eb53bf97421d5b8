-- The book of document 01: "fed each call's arguments and whether it was accepted". It never sees the recorder's state or the list. Definitions only.
-- It knows calls and document 01, and nothing of the recorder. It shares with it the declared records, the GL numbers of WebGPU's names (`names`, from OpenGL ES)
-- and the conversions of numbers (`numbers`): these have definitions of their own, from the public documents.
use Rattle.std.specs.Prelude.{ℕ, ◌+◌, ◌*◌, Bool, true, false, cond, List, [], ◌∷◌, ◌++◌, map, ltb, ℤ, pos, ◌+ℤ◌, take, get_or, Option, None, Some}
use Rattle.names.specs.declared.gl.StencilState.{StencilState}
use Rattle.std.specs.Float.{binary32}
use Rattle.std.specs.Float.Ieee.{of_bits}
use Rattle.tables.specs.Tabulate.{tabulate, upd}
use Rattle.numbers.specs.Convert.{signed, twos, trunc_to}
use Rattle.names.specs.Maps.{primitive_topology, primitive_state}
use Rattle.names.specs.declared.gl.StencilSide.{StencilSide}
use Rattle.records.specs.declared.args.RectF32.{RectF32}
use Rattle.records.specs.declared.args.RectU32.{RectU32}
use Rattle.records.specs.declared.binding.BindGroupLayoutEntry.{BindGroupLayoutEntry}
use Rattle.records.specs.declared.binding.BindingType.{BindingType}
use Rattle.records.specs.declared.binding.BindingType.TheVariants as type
use Rattle.records.specs.declared.binding.BufferBindingType.TheVariants.{Uniform, Storage}
use Rattle.records.specs.declared.binding.Content.{Content}
use Rattle.records.specs.declared.binding.GroupEntries.{GroupEntries}
use Rattle.records.specs.declared.binding.PipelineLayout.{PipelineLayout}
use Rattle.records.specs.declared.binding.RawBinding.{RawBinding}
use Rattle.records.specs.declared.binding.RawBinding.TheVariants as content
use Rattle.records.specs.declared.command.AttributeDesc.{AttributeDesc}
use Rattle.records.specs.declared.command.BufferBinding.{BufferBinding}
use Rattle.records.specs.declared.command.ColorF32.{ColorF32}
use Rattle.records.specs.declared.command.ColorTargetDesc.{ColorTargetDesc}
use Rattle.records.specs.declared.command.Command.{Command}
use Rattle.records.specs.declared.command.Command.TheVariants.{Draw, DrawIndexed, DrawIndirect, DrawIndexedIndirect}
use Rattle.records.specs.declared.command.DepthState.{DepthState}
use Rattle.records.specs.declared.command.Extent3d.{Extent3d}
use Rattle.records.specs.declared.command.ImageBinding.{ImageBinding}
use Rattle.records.specs.declared.command.RectI32.{RectI32}
use Rattle.records.specs.declared.command.VertexBufferDesc.{VertexBufferDesc}
use Rattle.records.specs.declared.command.VertexStepMode.{VertexStepMode}
use Rattle.records.specs.declared.command.VertexStepMode.TheVariants.{Vertex, Instance}
use Rattle.records.specs.declared.pipeline.PrivateCapabilities.{PrivateCapabilities}
use Rattle.records.specs.declared.pipeline.RenderPipeline.{RenderPipeline}
use Rattle.records.specs.declared.state.IndexFormat.{IndexFormat}
use Rattle.records.specs.declared.state.IndexFormat.TheVariants.{Uint16, Uint32}
use Rattle.calls.specs.Call.{Call, begin_encoding, end_encoding, begin_render_pass, end_render_pass, begin_compute_pass, end_compute_pass, transition_buffers, transition_textures, clear_buffer, copy_buffer_to_buffer, copy_query_results, begin_query, end_query, write_timestamp, reset_queries, set_bind_group, set_immediates, set_render_pipeline, set_compute_pipeline, set_index_buffer, set_vertex_buffer, set_viewport, set_scissor_rect, set_stencil_reference, set_blend_constants, draw, draw_indexed, draw_indirect, draw_indexed_indirect, dispatch_workgroups, dispatch_workgroups_indirect}
use Rattle.machine.specs.View.{Stage, before, first, later, Source, Fetch, BufferRange, TextureBinding, Viewport, StencilFunc, FaceOps, Stencil, View}

-- the stencil reference of each side
pub record References : Type 0 where
  pub front : ℕ
  pub back : ℕ

-- what the bind groups have set
pub record Bound : Type 0 where
  pub buffers : ℕ → ℕ → Option BufferRange
  pub textures : ℕ → Option TextureBinding
  pub images : ℕ → Option ImageBinding
  pub samplers : ℕ → Option ℕ

-- a draw as the book has it: the pipeline of that moment, and what the book names
pub record Entered : Type 0 where
  pub pipeline : Option RenderPipeline
  pub view : View

pub record Book : Type 0 where
  pub stage : Stage
  pub pipeline : Option RenderPipeline
  pub reference : Option References
  pub buffer : ℕ → Option BufferBinding
  pub index : Option ℕ
  pub format : IndexFormat
  pub offset : ℕ
  pub bound : Bound
  pub viewport : Option Viewport
  pub scissor : Option RectI32
  pub blend : ColorF32
  pub draws : List Entered

-- "It starts empty but for blend constants zero, index format Uint32 and offset 0"
abbrev pub empty : Book
empty =
    record {
      stage = before;
      pipeline = None;
      reference = None;
      buffer = λ i. None;
      index = None;
      format = Uint32;
      offset = 0;
      bound = record { buffers = λ t i. None; textures = λ i. None; images = λ i. None; samplers = λ k. None };
      viewport = None;
      scissor = None;
      blend = record { r = of_bits binary32 0; g = of_bits binary32 0; b = of_bits binary32 0; a = of_bits binary32 0 };
      draws = [];
    }

-- ---- the pipeline's own places, counted
abbrev pub attributes_in : RenderPipeline → List AttributeDesc
attributes_in p = take p.vertex_attribute_count p.vertex_attributes

abbrev pub targets_in : RenderPipeline → List ColorTargetDesc
targets_in p = take p.color_target_count p.color_targets

-- a description, if one is given
abbrev pub given : Option VertexBufferDesc → Option VertexBufferDesc
given None = None
given (Some d) = Some d

-- how the pipeline describes slot i, if it does
abbrev pub describes : RenderPipeline → ℕ → Option VertexBufferDesc
describes p i = cond (ltb i p.vertex_buffer_count) (given (get_or p.vertex_buffers i (record { desc = None })).desc) None

-- the book has one
abbrev pub known : {A : Type 0} → Option A → Bool
known None = false
known (Some a) = true

-- ---- what the book names at a draw
-- "if stepped by instance"
abbrev pub if_instance : VertexStepMode → ℕ → ℕ
if_instance Vertex n = 0
if_instance Instance n = n

-- "attribute offset plus buffer offset plus, if stepped by instance, working instance times stride"
abbrev pub named_source : ℕ → ℕ → Option VertexBufferDesc → Option BufferBinding → Option Source
named_source w offset None b = None
named_source w offset (Some d) None = None
named_source w offset (Some d) (Some b) =
    Some (record { buffer = b.raw; stride = d.stride; step = d.step; first = offset + b.offset + if_instance d.step (w * d.stride) })

-- how the book's pipeline describes a slot
abbrev pub desc_by : Option RenderPipeline → ℕ → Option VertexBufferDesc
desc_by None i = None
desc_by (Some p) i = describes p i

abbrev pub named_fetch : Book → ℕ → AttributeDesc → Option Fetch
named_fetch b w a =
    Some
    (record {
      location = a.location;
      format = a.format_desc;
      slot = a.buffer_index;
      source = named_source w a.offset (desc_by b.pipeline a.buffer_index) (b.buffer a.buffer_index);
    })

-- "per unit the sampler its number in the pipeline names or none"
abbrev pub named_sampler : (ℕ → Option ℕ) → Option ℕ → Option ℕ
named_sampler f None = None
named_sampler f (Some k) = f k

-- the sampler number that it has for unit u
abbrev pub number_by : Option RenderPipeline → ℕ → Option ℕ
number_by None u = None
number_by (Some p) u = (get_or p.inner.sampler_map u (record { sampler_index = None })).sampler_index

-- what it says, if there is one; and with a value that stands for none
abbrev pub by : {A : Type 0} → (RenderPipeline → A) → Option RenderPipeline → Option A
by f None = None
by f (Some p) = Some (f p)

abbrev pub by_or : {A : Type 0} → A → (RenderPipeline → A) → Option RenderPipeline → A
by_or d f None = d
by_or d f (Some p) = f p

-- "whether it has depth and stencil"
abbrev pub has_depth : Option DepthState → Bool
has_depth None = false
has_depth (Some d) = true

abbrev pub has_stencil : Option StencilState → Bool
has_stencil None = false
has_stencil (Some s) = true

abbrev pub named_depth : Option DepthState → Option DepthState
named_depth None = None
named_depth (Some d) = Some d

-- a face's function with the book's reference
abbrev pub named_func : StencilSide → Option ℕ → Option StencilFunc
named_func s None = None
named_func s (Some r) = Some (record { function = s.function; reference = r; read = s.mask_read })

abbrev pub named_ops : StencilSide → Option FaceOps
named_ops s = Some (record { write = s.mask_write; ops = s.ops })

abbrev pub front_of : Option References → Option ℕ
front_of None = None
front_of (Some r) = Some r.front

abbrev pub back_of : Option References → Option ℕ
back_of None = None
back_of (Some r) = Some r.back

abbrev pub named_faces : Option References → Option StencilState → Option Stencil
named_faces r None = None
named_faces r (Some s) = Some (record { front = named_func s.front (front_of r); back = named_func s.back (back_of r); front_ops = named_ops s.front; back_ops = named_ops s.back })

abbrev pub stencil_named : Option References → Option RenderPipeline → Option Stencil
stencil_named r None = None
stencil_named r (Some p) = named_faces r p.stencil

abbrev pub depth_named : Option RenderPipeline → Option DepthState
depth_named None = None
depth_named (Some p) = named_depth p.depth

-- what the book names at a draw of this command, indexed or not, with this working instance
abbrev pub names : Book → ℕ → Bool → Command → View
names b w indexed c =
    record {
      command = c;
      program = by (λ (p : RenderPipeline). p.inner.program) b.pipeline;
      fetches = map (named_fetch b w) (by_or [] attributes_in b.pipeline);
      buffers = b.bound.buffers;
      textures = b.bound.textures;
      images = b.bound.images;
      samplers = tabulate 16 (λ u. named_sampler b.bound.samplers (number_by b.pipeline u));
      index = cond indexed b.index None;
      viewport = b.viewport;
      scissor = b.scissor;
      blend = b.blend;
      primitive = by (λ (p : RenderPipeline). primitive_state p.primitive) b.pipeline;
      bias = by_or (record { constant = pos 0; slope_scale = 0; clamp = 0 }) (λ (p : RenderPipeline). p.depth_bias) b.pipeline;
      alpha = by_or false (λ (p : RenderPipeline). p.alpha_to_coverage_enabled) b.pipeline;
      targets = by_or [] targets_in b.pipeline;
      clip = by_or (λ i. false) (λ (p : RenderPipeline). λ i. ltb i p.inner.clip_distance_count) b.pipeline;
      has_depth = by (λ (p : RenderPipeline). has_depth p.depth) b.pipeline;
      has_stencil = by (λ (p : RenderPipeline). has_stencil p.stencil) b.pipeline;
      depth = depth_named b.pipeline;
      stencil = stencil_named b.reference b.pipeline;
    }

-- "topology, instance location, index format and offset from the book, the rest from the call"
abbrev pub topology_by : Option RenderPipeline → ℕ
topology_by p = by_or 0 (λ (p : RenderPipeline). primitive_topology p.topology) p

abbrev pub location_by : Option RenderPipeline → Option ℕ
location_by p = by_or None (λ (p : RenderPipeline). p.inner.first_instance_location) p

-- OpenGL ES 3.2, 10.5: UNSIGNED_SHORT (5123) has two bytes, UNSIGNED_INT (5125) four
abbrev pub type_of : IndexFormat → ℕ
type_of Uint16 = 5123
type_of Uint32 = 5125

abbrev pub size_of : IndexFormat → ℕ
size_of Uint16 = 2
size_of Uint32 = 4

-- ---- the book with one thing changed
abbrev pub with_draws : List Entered → Book → Book
with_draws ds b =
    record {
      stage = b.stage;
      pipeline = b.pipeline;
      reference = b.reference;
      buffer = b.buffer;
      index = b.index;
      format = b.format;
      offset = b.offset;
      bound = b.bound;
      viewport = b.viewport;
      scissor = b.scissor;
      blend = b.blend;
      draws = ds;
    }

abbrev pub with_bound : Bound → Book → Book
with_bound x b =
    record {
      stage = b.stage;
      pipeline = b.pipeline;
      reference = b.reference;
      buffer = b.buffer;
      index = b.index;
      format = b.format;
      offset = b.offset;
      bound = x;
      viewport = b.viewport;
      scissor = b.scissor;
      blend = b.blend;
      draws = b.draws;
    }

abbrev pub with_pipeline : Option RenderPipeline → Option References → Book → Book
with_pipeline p r b =
    record {
      stage = b.stage;
      pipeline = p;
      reference = r;
      buffer = b.buffer;
      index = b.index;
      format = b.format;
      offset = b.offset;
      bound = b.bound;
      viewport = b.viewport;
      scissor = b.scissor;
      blend = b.blend;
      draws = b.draws;
    }

abbrev pub with_index : ℕ → IndexFormat → ℕ → Book → Book
with_index raw f o b =
    record {
      stage = b.stage;
      pipeline = b.pipeline;
      reference = b.reference;
      buffer = b.buffer;
      index = Some raw;
      format = f;
      offset = o;
      bound = b.bound;
      viewport = b.viewport;
      scissor = b.scissor;
      blend = b.blend;
      draws = b.draws;
    }

abbrev pub with_buffer : ℕ → BufferBinding → Book → Book
with_buffer i x b =
    record {
      stage = b.stage;
      pipeline = b.pipeline;
      reference = b.reference;
      buffer = upd b.buffer i (Some x);
      index = b.index;
      format = b.format;
      offset = b.offset;
      bound = b.bound;
      viewport = b.viewport;
      scissor = b.scissor;
      blend = b.blend;
      draws = b.draws;
    }

abbrev pub with_screen : Option Viewport → Option RectI32 → ColorF32 → Book → Book
with_screen v s c b =
    record {
      stage = b.stage;
      pipeline = b.pipeline;
      reference = b.reference;
      buffer = b.buffer;
      index = b.index;
      format = b.format;
      offset = b.offset;
      bound = b.bound;
      viewport = v;
      scissor = s;
      blend = c;
      draws = b.draws;
    }

abbrev pub in_stage : Stage → Book → Book
in_stage st b =
    record {
      stage = st;
      pipeline = b.pipeline;
      reference = b.reference;
      buffer = b.buffer;
      index = b.index;
      format = b.format;
      offset = b.offset;
      bound = b.bound;
      viewport = b.viewport;
      scissor = b.scissor;
      blend = b.blend;
      draws = b.draws;
    }

-- ---- the rules
-- "sets the reference to that of its stencil, or to none"
abbrev pub reference_of : Option StencilState → Option References
reference_of None = None
reference_of (Some s) = Some (record { front = s.front.reference; back = s.back.reference })

-- OpenGL ES 3.2, table 6.1: UNIFORM_BUFFER (35345), SHADER_STORAGE_BUFFER (37074)
abbrev pub target_of : BindingType → ℕ
target_of (type.Buffer Uniform dynamic) = 35345
target_of (type.Buffer Storage dynamic) = 37074
target_of type.Texture = 0
target_of type.StorageTexture = 0
target_of type.Sampler = 0

abbrev pub is_dynamic : BindingType → Bool
is_dynamic (type.Buffer ty dynamic) = dynamic
is_dynamic type.Texture = false
is_dynamic type.StorageTexture = false
is_dynamic type.Sampler = false

-- the next dynamic offset, and those that are left when a buffer has taken it
abbrev pub next_of : List ℕ → ℕ
next_of [] = 0
next_of (o ∷ os) = o

abbrev pub left_of : List ℕ → List ℕ
left_of [] = []
left_of (o ∷ os) = os

abbrev pub offsets_left : BindGroupLayoutEntry → RawBinding → List ℕ → List ℕ
offsets_left e (content.Buffer raw offset size) os = cond (is_dynamic e.ty) (left_of os) os
offsets_left e (content.Texture raw target aspects mips) os = os
offsets_left e (content.Image x) os = os
offsets_left e (content.Sampler k) os = os

-- "(dynamic offset added)"
abbrev pub offset_in : BindGroupLayoutEntry → ℤ → List ℕ → ℤ
offset_in e offset os = cond (is_dynamic e.ty) (offset +ℤ pos (next_of os)) offset

-- "A bind group sets, entry by entry, buffer per target and slot (dynamic offset added), texture, image or sampler per slot"
abbrev pub enter_entry : BindGroupLayoutEntry → RawBinding → List ℕ → Bound → Bound
enter_entry e (content.Buffer raw offset size) os b =
    record {
      buffers = upd b.buffers (target_of e.ty) (upd (b.buffers (target_of e.ty)) e.slot (Some (record { buffer = raw; offset = offset_in e offset os; size = size })));
      textures = b.textures;
      images = b.images;
      samplers = b.samplers;
    }
enter_entry e (content.Texture raw target aspects mips) os b =
    record { buffers = b.buffers; textures = upd b.textures e.slot (Some (record { texture = raw; target = target; aspects = aspects; mips = mips })); images = b.images; samplers = b.samplers }
enter_entry e (content.Image x) os b = record { buffers = b.buffers; textures = b.textures; images = upd b.images e.slot (Some x); samplers = b.samplers }
enter_entry e (content.Sampler k) os b = record { buffers = b.buffers; textures = b.textures; images = b.images; samplers = upd b.samplers e.slot (Some k) }

-- the layout's entries and the group's contents side by side, as far as both go
unfoldable pub enter_group : List BindGroupLayoutEntry → List Content → List ℕ → Bound → Bound
enter_group [] cs os b = b
enter_group (e ∷ es) [] os b = b
enter_group (e ∷ es) (c ∷ cs) os b = enter_group es cs (offsets_left e c.binding os) (enter_entry e c.binding os b)

-- the entries of the layout's group number i
abbrev pub entries_in : PipelineLayout → ℕ → GroupEntries → List BindGroupLayoutEntry
entries_in l i e = take (get_or l.groups i (record { present = false; entry_count = 0 })).entry_count e.entries

-- ---- rectangles, in GL numbers
abbrev pub extent_of : Extent3d → RectI32
extent_of e = record { x = pos 0; y = pos 0; w = twos 32 e.width; h = twos 32 e.height }

abbrev pub viewport_of : RectF32 → RectI32
viewport_of r = record { x = trunc_to signed 32 r.x; y = trunc_to signed 32 r.y; w = trunc_to signed 32 r.w; h = trunc_to signed 32 r.h }

abbrev pub scissor_of : RectU32 → RectI32
scissor_of r = record { x = twos 32 r.x; y = twos 32 r.y; w = twos 32 r.w; h = twos 32 r.h }

-- ---- render passes and draws
abbrev pub next_stage : Stage → Stage
next_stage before = first
next_stage first = later
next_stage later = later

-- only draws of the first render pass are entered
abbrev pub in_first : {A : Type 0} → Stage → List A → List A → List A
in_first before xs l = l
in_first first xs l = l ++ xs
in_first later xs l = l

-- "Without FULLY_FEATURED_INSTANCING the working instance is the draw's first instance, else 0"
abbrev pub working_of : PrivateCapabilities → ℕ → ℕ
working_of caps instance = cond caps.fully_featured_instancing 0 instance

-- a draw is entered with the pipeline of that moment
abbrev pub entered : Book → View → Entered
entered b v = record { pipeline = b.pipeline; view = v }

abbrev pub enter_draw : ℕ → Bool → Command → Book → Book
enter_draw w indexed c b = with_draws (in_first b.stage (entered b (names b w indexed c) ∷ []) b.draws) b

-- "an indirect call makes as many as its count"; the working instance is 0
abbrev pub enter_draws : Bool → (ℕ → Command) → ℕ → Book → Book
enter_draws indexed c n b = with_draws (in_first b.stage (tabulate n (λ i. entered b (names b 0 indexed (c i)))) b.draws) b

-- an accepted call is entered; calls that set nothing leave the book
abbrev pub enter : PrivateCapabilities → Book → Call → Book
enter caps b begin_encoding = empty
enter caps b end_encoding = b
enter caps b end_render_pass = b
enter caps b end_compute_pass = b
enter caps b (begin_render_pass d label set) =
    in_stage (next_stage b.stage)
    (with_screen (Some (record { rect = extent_of d.extent; depth = record { start = of_bits binary32 0; end = of_bits binary32 0x3f80_0000 } })) (Some (extent_of d.extent)) b.blend b)
enter caps b (begin_compute_pass t label set) = b
enter caps b (transition_buffers l) = b
enter caps b (transition_textures l) = b
enter caps b (clear_buffer x range) = b
enter caps b (copy_buffer_to_buffer src dst l) = b
enter caps b (copy_query_results set start end dst offset) = b
enter caps b (begin_query set i) = b
enter caps b (end_query set i) = b
enter caps b (write_timestamp set i) = b
enter caps b (reset_queries set start end) = b
enter caps b (set_bind_group l i e g os) = with_bound (enter_group (entries_in l i e) (take g.content_count g.contents) (take os.count os.run) b.bound) b
enter caps b (set_immediates offset ws) = b
enter caps b (set_render_pipeline p) = with_pipeline (Some p) (reference_of p.stencil) b
enter caps b (set_compute_pipeline p) = b
enter caps b (set_index_buffer raw offset format) = with_index raw format offset b
enter caps b (set_vertex_buffer i raw offset) = with_buffer i (record { raw = raw; offset = offset }) b
enter caps b (set_viewport r d) = with_screen (Some (record { rect = viewport_of r; depth = d })) b.scissor b.blend b
enter caps b (set_scissor_rect r) = with_screen b.viewport (Some (scissor_of r)) b.blend b
enter caps b (set_stencil_reference v) = with_pipeline b.pipeline (Some (record { front = v; back = v })) b
enter caps b (set_blend_constants c) = with_screen b.viewport b.scissor c b
enter caps b (draw vertex vertices instance instances) = enter_draw (working_of caps instance) false (Draw (topology_by b.pipeline) vertex vertices instance instances (location_by b.pipeline)) b
enter caps b (draw_indexed fst count base instance instances) =
    enter_draw (working_of caps instance) true
    (DrawIndexed (topology_by b.pipeline) (type_of b.format) count (b.offset + size_of b.format * fst) base instance instances (location_by b.pipeline)) b
enter caps b (draw_indirect raw offset n) = enter_draws false (λ i. DrawIndirect (topology_by b.pipeline) raw (offset + i * 16) (location_by b.pipeline)) n b
enter caps b (draw_indexed_indirect raw offset n) =
    enter_draws true (λ i. DrawIndexedIndirect (topology_by b.pipeline) (type_of b.format) raw (offset + i * 20) (location_by b.pipeline)) n b
enter caps b (dispatch_workgroups x y z) = b
enter caps b (dispatch_workgroups_indirect raw offset) = b

-- what the book is fed: a call, and whether it was accepted
pub record Fed : Type 0 where
  pub call : Call
  pub accepted : Bool

abbrev pub enter_fed : PrivateCapabilities → Book → Fed → Book
enter_fed caps b f = cond f.accepted (enter caps b f.call) b

unfoldable pub book_of : PrivateCapabilities → Book → List Fed → Book
book_of caps b [] = b
book_of caps b (f ∷ fs) = book_of caps (enter_fed caps b f) fs
