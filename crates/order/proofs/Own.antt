-- The book's own words and the recorder's definitions come to the same. Assumes nothing.
use Prim.Native.Nat.{ℕ, ◌+◌, ◌*◌}
use mathlib.Core.Path.{◌≡◌, refl, ap, ap₂, ◌∙◌}
use mathlib.Core.Bool.{Bool, cond}
use mathlib.Core.List.{List, [], ◌∷◌}
use Rattle.std.specs.Prelude.{Option, None, Some}
use Rattle.records.specs.declared.command.DepthState.{DepthState}
use Rattle.names.specs.declared.gl.StencilState.{StencilState}
use lib.Dec.{ltb}
use lib.IntN.{ℤ, pos, ◌+ℤ◌}
use lib.ListN.{get_or}
use Rattle.tables.specs.Tabulate.{upd}
use Rattle.mask.specs.Mask.{test_bit}
use Rattle.records.specs.declared.binding.BindGroupLayoutEntry.{BindGroupLayoutEntry}
use Rattle.records.specs.declared.binding.BindingType.{BindingType}
use Rattle.records.specs.declared.binding.BindingType.TheVariants as type
use Rattle.records.specs.declared.binding.BufferBindingType.TheVariants.{Uniform, Storage}
use Rattle.records.specs.declared.binding.Content.{Content}
use Rattle.records.specs.declared.binding.RawBinding.{RawBinding}
use Rattle.records.specs.declared.binding.RawBinding.TheVariants as content
use Rattle.records.specs.declared.command.VertexBufferDesc.{VertexBufferDesc}
use Rattle.records.specs.declared.command.VertexStepMode.{VertexStepMode}
use Rattle.records.specs.declared.command.VertexStepMode.TheVariants.{Vertex, Instance}
use Rattle.records.specs.declared.pipeline.RenderPipeline.{RenderPipeline}
use Rattle.records.specs.declared.state.IndexFormat.{IndexFormat}
use Rattle.records.specs.declared.state.IndexFormat.TheVariants.{Uint16, Uint32}
use Rattle.slots.specs.Prepare.{instance_offset}
use Rattle.bindings.specs.Group.{Entry, zipped, head_or, rest, dynamic, buffer_target, offset_of, offsets_after}
use Rattle.pipeline.specs.Vertex.{pipe_desc, has}
use Rattle.pipeline.specs.Fixed.{depth_aspect, stencil_aspect}
use Rattle.calls.specs.Draws.{index_type_of, index_size}
use Rattle.machine.specs.View.{Stage, before, first, later}
use Rattle.machine.specs.Machine.{onward}
use Rattle.book.specs.Book.{Bound, given, describes, known, if_instance, has_depth, has_stencil, type_of, size_of, target_of, is_dynamic, next_of, left_of, offsets_left, offset_in, enter_entry, enter_group, next_stage}

-- ---- pipelines
given_is : (o : Option VertexBufferDesc) → given o ≡ o
given_is None = refl
given_is (Some d) = refl

pub describes-is : (p : RenderPipeline) (i : ℕ) → describes p i ≡ pipe_desc p i
describes-is p i = ap (λ (o : Option VertexBufferDesc). cond (ltb i p.vertex_buffer_count) o None) (given_is (get_or p.vertex_buffers i (record { desc = None })).desc)

pub known_is : {A : Type 0} (o : Option A) → known o ≡ has o
known_is None = refl
known_is (Some a) = refl

pub described-is : (p : RenderPipeline) (i : ℕ) → known (describes p i) ≡ has (pipe_desc p i)
described-is p i = known_is (describes p i) ∙ ap has (describes-is p i)

pub stepped-is : (s : VertexStepMode) (w stride : ℕ) → if_instance s (w * stride) ≡ instance_offset s w stride
stepped-is Vertex w stride = refl
stepped-is Instance w stride = refl

-- the two bits of the aspects
pub depth-flag : (d : Option DepthState) (s : Option StencilState) → test_bit (depth_aspect d + stencil_aspect s) 1 ≡ has_depth d
unfolding test_bit
depth-flag None None = refl
depth-flag None (Some s) = refl
depth-flag (Some d) None = refl
depth-flag (Some d) (Some s) = refl

pub stencil-flag : (d : Option DepthState) (s : Option StencilState) → test_bit (depth_aspect d + stencil_aspect s) 2 ≡ has_stencil s
unfolding test_bit
stencil-flag None None = refl
stencil-flag None (Some s) = refl
stencil-flag (Some d) None = refl
stencil-flag (Some d) (Some s) = refl

-- ---- draws
pub type-is : (f : IndexFormat) → type_of f ≡ index_type_of f
type-is Uint16 = refl
type-is Uint32 = refl

pub size_is : (f : IndexFormat) → size_of f ≡ index_size f
size_is Uint16 = refl
size_is Uint32 = refl

pub stage_is : (st : Stage) → next_stage st ≡ onward st
stage_is before = refl
stage_is first = refl
stage_is later = refl

-- ---- bind groups, by the recorder's entries
abbrev pub entry_bound : BindGroupLayoutEntry → RawBinding → List ℕ → Bound → Bound
entry_bound e (content.Buffer raw offset size) os b =
    record {
      buffers = upd b.buffers (buffer_target e.ty) (upd (b.buffers (buffer_target e.ty)) e.slot (Some (record { buffer = raw; offset = offset_of e offset os; size = size })));
      textures = b.textures;
      images = b.images;
      samplers = b.samplers;
    }
entry_bound e (content.Texture raw target aspects mips) os b =
    record { buffers = b.buffers; textures = upd b.textures e.slot (Some (record { texture = raw; target = target; aspects = aspects; mips = mips })); images = b.images; samplers = b.samplers }
entry_bound e (content.Image x) os b = record { buffers = b.buffers; textures = b.textures; images = upd b.images e.slot (Some x); samplers = b.samplers }
entry_bound e (content.Sampler k) os b = record { buffers = b.buffers; textures = b.textures; images = b.images; samplers = upd b.samplers e.slot (Some k) }

unfoldable pub group_bound : List Entry → List ℕ → Bound → Bound
group_bound [] os b = b
group_bound (x ∷ xs) os b = group_bound xs (offsets_after x.layout x.raw os) (entry_bound x.layout x.raw os b)

target_is : (t : BindingType) → target_of t ≡ buffer_target t
target_is (type.Buffer Uniform d) = refl
target_is (type.Buffer Storage d) = refl
target_is type.Texture = refl
target_is type.StorageTexture = refl
target_is type.Sampler = refl

dynamic-is : (t : BindingType) → is_dynamic t ≡ dynamic t
dynamic-is (type.Buffer ty d) = refl
dynamic-is type.Texture = refl
dynamic-is type.StorageTexture = refl
dynamic-is type.Sampler = refl

next-is : (os : List ℕ) → next_of os ≡ head_or 0 os
next-is [] = refl
next-is (o ∷ os) = refl

left_is : (os : List ℕ) → left_of os ≡ rest os
left_is [] = refl
left_is (o ∷ os) = refl

offset-is : (e : BindGroupLayoutEntry) (offset : ℤ) (os : List ℕ) → offset_in e offset os ≡ offset_of e offset os
offset-is e offset os = ap₂ (λ (t : Bool) (n : ℕ). cond t (offset +ℤ pos n) offset) (dynamic-is e.ty) (next-is os)

offsets_are : (e : BindGroupLayoutEntry) (r : RawBinding) (os : List ℕ) → offsets_left e r os ≡ offsets_after e r os
offsets_are e (content.Buffer raw offset size) os = ap₂ (λ (t : Bool) (l : List ℕ). cond t l os) (dynamic-is e.ty) (left_is os)
offsets_are e (content.Texture raw target aspects mips) os = refl
offsets_are e (content.Image x) os = refl
offsets_are e (content.Sampler k) os = refl

entry-is : (e : BindGroupLayoutEntry) (r : RawBinding) (os : List ℕ) (b : Bound) → enter_entry e r os b ≡ entry_bound e r os b
entry-is e (content.Buffer raw offset size) os b =
    ap₂
    (λ (t : ℕ) (o : ℤ).
    record {
      buffers = upd b.buffers t (upd (b.buffers t) e.slot (Some (record { buffer = raw; offset = o; size = size })));
      textures = b.textures;
      images = b.images;
      samplers = b.samplers;
    })
    (target_is e.ty) (offset-is e offset os)
entry-is e (content.Texture raw target aspects mips) os b = refl
entry-is e (content.Image x) os b = refl
entry-is e (content.Sampler k) os b = refl

pub group-is : (es : List BindGroupLayoutEntry) (cs : List Content) (os : List ℕ) (b : Bound) → enter_group es cs os b ≡ group_bound (zipped es cs) os b
unfolding enter_group group_bound zipped
group-is [] cs os b = refl
group-is (e ∷ es) [] os b = refl
group-is (e ∷ es) (c ∷ cs) os b =
    ap₂ (enter_group es cs) (offsets_are e c.binding os) (entry-is e c.binding os b)
    ∙ group-is es cs (offsets_after e c.binding os) (entry_bound e c.binding os b)
