-- The state's lines: tools/oracle/README.md, the table 'The state's lines, in this order'. A row of the table has a name, a number of places, which of them
-- are printed, and the fields of each. Definitions only.
use Rattle.std.specs.Prelude.{ℕ, zero, suc, ◌+◌, ◌-◌, Bool, true, false, not, ◌||◌, cond, List, [], ◌∷◌, ◌++◌, eqb, ltb, get_or}
use Prim.Native.String.{String}
use Rattle.mask.specs.Mask.{test_bit}
use Rattle.names.specs.declared.gl.PrimitiveState.{PrimitiveState}
use Rattle.names.specs.declared.gl.StencilSide.{StencilSide}
use Rattle.records.specs.declared.command.AttributeDesc.{AttributeDesc}
use Rattle.records.specs.declared.command.ColorTargetDesc.{ColorTargetDesc}
use Rattle.records.specs.declared.command.DepthBiasState.{DepthBiasState}
use Rattle.records.specs.declared.command.Extent3d.{Extent3d}
use Rattle.records.specs.declared.command.ImmediateDesc.{ImmediateDesc}
use Rattle.records.specs.Start.{start_slot, start_attribute, start_target, start_texture_slot, start_resolve, start_immediate}
use Rattle.records.specs.declared.state.IndexFormat.{IndexFormat}
use Rattle.records.specs.declared.state.IndexFormat.TheVariants.{Uint16, Uint32}
use Rattle.records.specs.declared.state.VertexState.{VertexState}
use Rattle.records.specs.declared.state.DrawState.{DrawState}
use Rattle.records.specs.declared.state.BindState.{BindState}
use Rattle.records.specs.declared.state.ResolveDesc.{ResolveDesc}
use Rattle.records.specs.declared.state.ImmediateState.{ImmediateState}
use Rattle.records.specs.declared.state.State.{State}
use Rattle.text.specs.declared.field.Field.{Field}
use Rattle.text.specs.declared.field.Field.TheVariants.{Number, Long, Signed, Flag, Bits, Optional, Absent, Text}
use Rattle.text.specs.declared.field.Word.TheVariants.{DirtyMask}
use Rattle.names.specs.Ascii.{ascii}
use Rattle.text.specs.Field.{spaced}
use Rattle.text.specs.Command.{format_fields, blend_fields}

-- a row of the table
pub record StateRow : Type 0 where
  pub name : String
  pub places : ℕ
  pub there : ℕ → Bool
  pub fields : ℕ → List Field

-- one line, which is always printed
abbrev pub once : String → List Field → StateRow
once name fields = record { name = name; places = 1; there = λ i. true; fields = λ i. fields }

-- a line for each of n places that is there
abbrev pub each : String → ℕ → (ℕ → Bool) → (ℕ → List Field) → StateRow
each name n there fields = record { name = name; places = n; there = there; fields = fields }

-- a field, or `-`
abbrev pub or_dash : Bool → Field → Field
or_dash b f = cond b f Absent

-- an index format's flag: 0 Uint16, 1 Uint32
abbrev pub is_uint32 : IndexFormat → Bool
is_uint32 Uint16 = false
is_uint32 Uint32 = true

-- front face, cull face, unclipped depth, polygon mode
abbrev pub primitive_fields : PrimitiveState → List Field
primitive_fields p = Number p.front_face ∷ Number p.cull_face ∷ Flag p.unclipped_depth ∷ Number p.polygon_mode ∷ []

-- format, offset
abbrev pub index_fields : DrawState → List Field
index_fields d = Flag (is_uint32 d.index_format) ∷ Long d.index_offset ∷ []

-- a slot with a description or a binding: step (0 vertex 1 instance) and stride, buffer and offset
abbrev pub slot_there : VertexState → ℕ → Bool
slot_there v i = test_bit v.described i || test_bit v.bound i

abbrev pub slot_fields : VertexState → ℕ → List Field
slot_fields v i =
    let slot = get_or v.buffers i start_slot in
    let described = test_bit v.described i in
    let bound = test_bit v.bound i in
    Number i ∷ or_dash described (Flag (test_bit v.by_instance i)) ∷ or_dash described (Number slot.stride)
    ∷ or_dash bound (Number slot.raw) ∷ or_dash bound (Long slot.offset) ∷ []

-- location, offset, slot, element count, element format, kind
abbrev pub attribute_fields : AttributeDesc → List Field
attribute_fields a = Number a.location ∷ Number a.offset ∷ Number a.buffer_index ∷ format_fields a.format_desc

-- mask, blend
abbrev pub target_fields : ColorTargetDesc → List Field
target_fields t = Number t.mask ∷ blend_fields t.blend

-- function, read mask, write mask, reference, pass, fail, depth fail
abbrev pub stencil_fields : StencilSide → List Field
stencil_fields s =
    Number s.function ∷ Number s.mask_read ∷ Number s.mask_write ∷ Number s.reference
    ∷ Number s.ops.pass ∷ Number s.ops.fail ∷ Number s.ops.depth_fail ∷ []

-- constant, slope scale, clamp
abbrev pub bias_fields : DepthBiasState → List Field
bias_fields b = Signed b.constant ∷ Bits b.slope_scale ∷ Bits b.clamp ∷ []

abbrev pub sampler_fields : BindState → ℕ → List Field
sampler_fields b i = Number i ∷ Number (get_or b.samplers i 0) ∷ []

-- a unit whose target is not 0 or that has a sampler number: target, sampler number
abbrev pub unit_there : BindState → ℕ → Bool
unit_there b i = not (eqb (get_or b.texture_slots i start_texture_slot).tex_target 0) || test_bit b.sampled i

abbrev pub unit_fields : BindState → ℕ → List Field
unit_fields b i =
    let unit = get_or b.texture_slots i start_texture_slot in
    Number i ∷ Number unit.tex_target ∷ or_dash (test_bit b.sampled i) (Number unit.sampler_index) ∷ []

-- width, height, depth or layers
abbrev pub size_fields : Extent3d → List Field
size_fields e = Number e.width ∷ Number e.height ∷ Number e.depth_or_array_layers ∷ []

-- the attachment of a colour place
abbrev pub resolve_fields : ResolveDesc → List Field
resolve_fields r = Long (36064 + r.place) ∷ []

-- the attachment of bit i of an invalidation set: colour i, then depth and stencil
abbrev pub attachment_of : ℕ → ℕ
attachment_of i = cond (ltb i 8) (36064 + i) (cond (eqb i 8) 36096 36128)

-- one line of two
abbrev pub mask_fields : VertexState → List Field
mask_fields v = Number v.instance_vbuf_mask ∷ Text DirtyMask ∷ Number v.dirty_vbuf_mask ∷ []

-- a slot whose number is not 0: the working instance that it was last bound with
abbrev pub instance_there : VertexState → ℕ → Bool
instance_there v i = not (eqb (get_or v.instances i 0) 0)

abbrev pub instance_fields : VertexState → ℕ → List Field
instance_fields v i = Number i ∷ Number (get_or v.instances i 0) ∷ []

-- location, type, offset, size
abbrev pub descriptor_fields : ImmediateDesc → List Field
descriptor_fields d = Number d.location ∷ Number d.ty ∷ Number d.offset ∷ Number d.size_bytes ∷ []

-- a word that is not 0
abbrev pub word_there : ImmediateState → ℕ → Bool
word_there m i = not (eqb (get_or m.words i 0) 0)

abbrev pub word_fields : ImmediateState → ℕ → List Field
word_fields m i = Number i ∷ Number (get_or m.words i 0) ∷ []

-- the table
abbrev pub state_rows : State → List StateRow
state_rows s =
    let v = s.vertex in
    let d = s.draw in
    let f = s.fixed in
    let b = s.bind in
    let p = s.pass in
    let m = s.immediates in
    once "topology" (Number d.topology ∷ [])
    ∷ once "primitive" (primitive_fields f.primitive)
    ∷ once "index" (index_fields d)
    ∷ each "slot" 16 (slot_there v) (slot_fields v)
    ∷ each "attribute" 16 (λ i. ltb i v.attribute_count) (λ i. attribute_fields (get_or v.attributes i start_attribute))
    ∷ each "target" 8 (λ i. ltb i f.color_target_count) (λ i. target_fields (get_or f.color_targets i start_target))
    ∷ once "stencil front" (stencil_fields f.stencil.front)
    ∷ once "stencil back" (stencil_fields f.stencil.back)
    ∷ once "bias" (bias_fields f.depth_bias)
    ∷ once "alpha_to_coverage" (Flag f.alpha_to_coverage_enabled ∷ [])
    ∷ each "sampler" 16 (test_bit b.sampler_set) (sampler_fields b)
    ∷ each "texture_slot" 16 (unit_there b) (unit_fields b)
    ∷ once "render_size" (size_fields p.render_size)
    ∷ each "resolve" 8 (λ i. ltb i p.resolve_count) (λ i. resolve_fields (get_or p.resolves i start_resolve))
    ∷ each "invalidate" 10 (test_bit p.invalidate_attachments) (λ i. Number (attachment_of i) ∷ [])
    ∷ once "has_pass_label" (Flag p.has_pass_label ∷ [])
    ∷ once "instance_mask" (mask_fields v)
    ∷ each "instance" 16 (instance_there v) (instance_fields v)
    ∷ once "first_instance_location" (Optional d.first_instance_location ∷ [])
    ∷ each "descriptor" 192 (λ i. ltb i m.count) (λ i. descriptor_fields (get_or m.descs i start_immediate))
    ∷ each "word" 64 (word_there m) (word_fields m)
    ∷ once "end_of_pass_timestamp" (Optional p.end_of_pass_timestamp ∷ [])
    ∷ once "clip_distance_count" (Number f.clip_distance_count ∷ [])
    ∷ []

-- the line of place i of a row, and nothing where it is not there
abbrev pub row_line : StateRow → ℕ → List ℕ
row_line r i = cond (r.there i) (ascii "state " ++ (ascii r.name ++ (spaced (r.fields i) ++ (10 ∷ [])))) []

-- line k of the rows, whose places are counted through
unfoldable pub line_at : List StateRow → ℕ → List ℕ
line_at [] k = []
line_at (r ∷ rs) k = cond (ltb k r.places) (row_line r k) (line_at rs (k - r.places))

-- how many places the table has
abbrev pub state_count : ℕ
state_count = 375

-- the state's line k, with its newline, and nothing where it is not printed
abbrev pub state_line : State → ℕ → List ℕ
state_line s k = line_at (state_rows s) k

-- the first n lines
unfoldable pub lines_to : ℕ → (ℕ → List ℕ) → List ℕ
lines_to zero line = []
lines_to (suc n) line = lines_to n line ++ line n

-- the state's lines
abbrev pub state_text : State → List ℕ
state_text s = lines_to state_count (state_line s)
