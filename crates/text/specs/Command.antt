-- A command's line: tools/oracle/README.md, 'Output grammar' and its table of the 49 commands. Fields stand in the order of gles/mod.rs, and a struct is
-- its fields in order. Definitions only.
use Rattle.std.specs.Prelude.{ℕ, Bool, true, false, List, [], ◌∷◌, ◌++◌, Option, None, Some}
use Prim.Native.String.{String}
use Rattle.names.specs.declared.gl.BlendDesc.{BlendDesc}
use Rattle.records.specs.declared.command.TextureView.{TextureView}
use Rattle.records.specs.declared.command.VertexStepMode.{VertexStepMode}
use Rattle.records.specs.declared.command.VertexStepMode.TheVariants.{Vertex, Instance}
use Rattle.records.specs.declared.command.VertexAttribKind.{VertexAttribKind}
use Rattle.records.specs.declared.command.VertexAttribKind.TheVariants.{Float as attrib_float, Integer}
use Rattle.records.specs.declared.command.VertexFormatDesc.{VertexFormatDesc}
use Rattle.records.specs.declared.command.SampleKind.{SampleKind}
use Rattle.records.specs.declared.command.SampleKind.TheVariants.{Float as sample_float, Uint, Sint, Depth}
use Rattle.records.specs.declared.command.TextureInner.{TextureInner}
use Rattle.records.specs.declared.command.TextureInner.TheVariants.{Renderbuffer, DefaultRenderbuffer, Texture, ExternalNativeFramebuffer}
use Rattle.records.specs.declared.command.Command.{Command}
use Rattle.records.specs.declared.command.Command.TheVariants.{Draw, DrawIndexed, DrawIndirect, DrawIndexedIndirect, Dispatch, DispatchIndirect, ClearBuffer, CopyBufferToBuffer, SetIndexBuffer, BeginQuery, EndQuery, TimestampQuery, CopyQueryResults, ResetFramebuffer, BindAttachment, ResolveAttachment, InvalidateAttachments, SetDrawColorBuffers, ClearColorF, ClearColorU, ClearColorI, ClearDepth, ClearStencil, ClearDepthAndStencil, BufferBarrier, TextureBarrier, SetViewport, SetScissor, SetStencilFunc, SetStencilOps, SetDepth, SetDepthBias, ConfigureDepthStencil, SetAlphaToCoverage, SetVertexAttribute, UnsetVertexAttribute, SetVertexBuffer, SetProgram, SetPrimitive, SetBlendConstant, SetColorTarget, BindBuffer, BindSampler, BindTexture, BindImage, PushDebugGroup, PopDebugGroup, SetImmediates, SetClipDistances}
use Rattle.text.specs.declared.field.Field.{Field}
use Rattle.text.specs.declared.field.Field.TheVariants.{Number, Long, Signed, Flag, Float, Bits, Optional, Buffer, Absent}
use Rattle.names.specs.Ascii.{ascii}
use Rattle.text.specs.Digits.{decimal}
use Rattle.text.specs.Field.{spaced}

-- a step mode's flag
abbrev pub is_instance : VertexStepMode → Bool
is_instance Vertex = false
is_instance Instance = true

-- the flag of an attribute's kind
abbrev pub is_integer : VertexAttribKind → Bool
is_integer attrib_float = false
is_integer Integer = true

-- a vertex format: element count, element format, kind
abbrev pub format_fields : VertexFormatDesc → List Field
format_fields f = Signed f.element_count ∷ Number f.element_format ∷ Flag (is_integer f.attrib_kind) ∷ []

-- KIND of a view
abbrev pub inner_kind : TextureInner → ℕ
inner_kind (Renderbuffer raw) = 0
inner_kind DefaultRenderbuffer = 1
inner_kind (Texture raw target) = 2
inner_kind (ExternalNativeFramebuffer raw) = 3

-- NUMBER of a view
abbrev pub inner_number : TextureInner → Field
inner_number (Renderbuffer raw) = Number raw
inner_number DefaultRenderbuffer = Absent
inner_number (Texture raw target) = Number raw
inner_number (ExternalNativeFramebuffer raw) = Number raw

-- TARGET of a view
abbrev pub inner_target : TextureInner → Field
inner_target (Renderbuffer raw) = Absent
inner_target DefaultRenderbuffer = Absent
inner_target (Texture raw target) = Number target
inner_target (ExternalNativeFramebuffer raw) = Absent

-- SAMPLE of a view
abbrev pub sample_of : SampleKind → ℕ
sample_of sample_float = 0
sample_of Uint = 1
sample_of Sint = 2
sample_of Depth = 3

-- a view: KIND NUMBER TARGET ASPECTS MIP0 MIP1 LAYER0 LAYER1 SAMPLE SRGB
abbrev pub view_fields : TextureView → List Field
view_fields v =
    Number (inner_kind v.inner) ∷ inner_number v.inner ∷ inner_target v.inner ∷ Number v.aspects
    ∷ Number v.mip_levels.start ∷ Number v.mip_levels.end ∷ Number v.array_layers.start ∷ Number v.array_layers.end
    ∷ Number (sample_of v.kind) ∷ Flag v.is_srgb ∷ []

-- a blend: none, or the three numbers of alpha and of colour
abbrev pub blend_fields : Option BlendDesc → List Field
blend_fields None = Absent ∷ []
blend_fields (Some b) =
    Number b.alpha.src ∷ Number b.alpha.dst ∷ Number b.alpha.equation
    ∷ Number b.color.src ∷ Number b.color.dst ∷ Number b.color.equation ∷ []

-- a row of the table: the name and the fields
pub record Row : Type 0 where
  pub name : String
  pub fields : List Field

abbrev pub row : String → List Field → Row
row name fields = record { name = name; fields = fields }

-- the table
abbrev pub row_of : Command → Row
row_of (Draw topology first-vertex vertex-count first-instance instance-count first-instance-location) =
    row "Draw" (Number topology ∷ Number first-vertex ∷ Number vertex-count ∷ Number first-instance ∷ Number instance-count
    ∷ Optional first-instance-location ∷ [])
row_of (DrawIndexed topology index-type index-count index-offset base-vertex first-instance instance-count first-instance-location) =
    row "DrawIndexed" (Number topology ∷ Number index-type ∷ Number index-count ∷ Long index-offset ∷ Signed base-vertex ∷ Number first-instance
    ∷ Number instance-count ∷ Optional first-instance-location ∷ [])
row_of (DrawIndirect topology indirect-buf indirect-offset first-instance-location) =
    row "DrawIndirect" (Number topology ∷ Number indirect-buf ∷ Long indirect-offset ∷ Optional first-instance-location ∷ [])
row_of (DrawIndexedIndirect topology index-type indirect-buf indirect-offset first-instance-location) =
    row "DrawIndexedIndirect" (Number topology ∷ Number index-type ∷ Number indirect-buf ∷ Long indirect-offset ∷ Optional first-instance-location ∷ [])
row_of (Dispatch x y z) = row "Dispatch" (Number x ∷ Number y ∷ Number z ∷ [])
row_of (DispatchIndirect indirect-buf indirect-offset) = row "DispatchIndirect" (Number indirect-buf ∷ Long indirect-offset ∷ [])
row_of (ClearBuffer dst dst-target range) = row "ClearBuffer" (Buffer dst ∷ Number dst-target ∷ Long range.start ∷ Long range.end ∷ [])
row_of (CopyBufferToBuffer src src-target dst dst-target copy) =
    row "CopyBufferToBuffer" (Buffer src ∷ Number src-target ∷ Buffer dst ∷ Number dst-target ∷ Long copy.src_offset
    ∷ Long copy.dst_offset ∷ Long copy.size ∷ [])
row_of (SetIndexBuffer buffer) = row "SetIndexBuffer" (Number buffer ∷ [])
row_of (BeginQuery query target) = row "BeginQuery" (Number query ∷ Number target ∷ [])
row_of (EndQuery target) = row "EndQuery" (Number target ∷ [])
row_of (TimestampQuery query) = row "TimestampQuery" (Number query ∷ [])
row_of (CopyQueryResults query-range dst dst-target dst-offset) =
    row "CopyQueryResults" (Number query-range.start ∷ Number query-range.end ∷ Buffer dst ∷ Number dst-target ∷ Long dst-offset ∷ [])
row_of (ResetFramebuffer is-default) = row "ResetFramebuffer" (Flag is-default ∷ [])
row_of (BindAttachment attachment view depth-slice sample-count) =
    row "BindAttachment" (Number attachment ∷ (view_fields view ++ (Optional depth-slice ∷ Number sample-count ∷ [])))
row_of (ResolveAttachment attachment dst size) =
    row "ResolveAttachment" (Number attachment
    ∷ (view_fields dst ++ (Number size.width ∷ Number size.height ∷ Number size.depth_or_array_layers ∷ [])))
row_of (InvalidateAttachments attachments) = row "InvalidateAttachments" (Number attachments ∷ [])
row_of (SetDrawColorBuffers count) = row "SetDrawColorBuffers" (Number count ∷ [])
row_of (ClearColorF draw-buffer color) =
    row "ClearColorF" (Number draw-buffer ∷ Float color.r ∷ Float color.g ∷ Float color.b ∷ Float color.a ∷ Flag color.is_srgb ∷ [])
row_of (ClearColorU draw-buffer color) =
    row "ClearColorU" (Number draw-buffer ∷ Number color.r ∷ Number color.g ∷ Number color.b ∷ Number color.a ∷ [])
row_of (ClearColorI draw-buffer color) =
    row "ClearColorI" (Number draw-buffer ∷ Signed color.r ∷ Signed color.g ∷ Signed color.b ∷ Signed color.a ∷ [])
row_of (ClearDepth depth) = row "ClearDepth" (Float depth ∷ [])
row_of (ClearStencil value) = row "ClearStencil" (Number value ∷ [])
row_of (ClearDepthAndStencil depth value) = row "ClearDepthAndStencil" (Float depth ∷ Number value ∷ [])
row_of (BufferBarrier buffer uses) = row "BufferBarrier" (Number buffer ∷ Number uses ∷ [])
row_of (TextureBarrier uses) = row "TextureBarrier" (Number uses ∷ [])
row_of (SetViewport rect depth) =
    row "SetViewport" (Signed rect.x ∷ Signed rect.y ∷ Signed rect.w ∷ Signed rect.h ∷ Float depth.start ∷ Float depth.end ∷ [])
row_of (SetScissor rect) = row "SetScissor" (Signed rect.x ∷ Signed rect.y ∷ Signed rect.w ∷ Signed rect.h ∷ [])
row_of (SetStencilFunc face function reference read-mask) =
    row "SetStencilFunc" (Number face ∷ Number function ∷ Number reference ∷ Number read-mask ∷ [])
row_of (SetStencilOps face write-mask ops) =
    row "SetStencilOps" (Number face ∷ Number write-mask ∷ Number ops.pass ∷ Number ops.fail ∷ Number ops.depth_fail ∷ [])
row_of (SetDepth depth) = row "SetDepth" (Number depth.function ∷ Flag depth.mask ∷ [])
row_of (SetDepthBias bias) = row "SetDepthBias" (Signed bias.constant ∷ Bits bias.slope_scale ∷ Bits bias.clamp ∷ [])
row_of (ConfigureDepthStencil aspects) = row "ConfigureDepthStencil" (Number aspects ∷ [])
row_of (SetAlphaToCoverage enabled) = row "SetAlphaToCoverage" (Flag enabled ∷ [])
row_of (SetVertexAttribute buffer buffer-desc attribute-desc) =
    row "SetVertexAttribute" (Optional buffer ∷ Flag (is_instance buffer-desc.step) ∷ Number buffer-desc.stride
    ∷ Number attribute-desc.location ∷ Number attribute-desc.offset ∷ Number attribute-desc.buffer_index
    ∷ format_fields attribute-desc.format_desc)
row_of (UnsetVertexAttribute location) = row "UnsetVertexAttribute" (Number location ∷ [])
row_of (SetVertexBuffer index buffer buffer-desc) =
    row "SetVertexBuffer" (Number index ∷ Number buffer.raw ∷ Long buffer.offset ∷ Flag (is_instance buffer-desc.step)
    ∷ Number buffer-desc.stride ∷ [])
row_of (SetProgram program) = row "SetProgram" (Number program ∷ [])
row_of (SetPrimitive state) =
    row "SetPrimitive" (Number state.front_face ∷ Number state.cull_face ∷ Flag state.unclipped_depth
    ∷ Number state.polygon_mode ∷ [])
row_of (SetBlendConstant color) = row "SetBlendConstant" (Float color.r ∷ Float color.g ∷ Float color.b ∷ Float color.a ∷ [])
row_of (SetColorTarget draw-buffer-index desc) = row "SetColorTarget" (Optional draw-buffer-index ∷ Number desc.mask ∷ blend_fields desc.blend)
row_of (BindBuffer target slot buffer offset size) = row "BindBuffer" (Number target ∷ Number slot ∷ Number buffer ∷ Signed offset ∷ Signed size ∷ [])
row_of (BindSampler unit sampler) = row "BindSampler" (Number unit ∷ Optional sampler ∷ [])
row_of (BindTexture slot texture target aspects mip-levels) =
    row "BindTexture" (Number slot ∷ Number texture ∷ Number target ∷ Number aspects ∷ Number mip-levels.start ∷ Number mip-levels.end ∷ [])
row_of (BindImage slot binding) =
    row "BindImage" (Number slot ∷ Number binding.raw ∷ Number binding.mip_level ∷ Optional binding.array_layer
    ∷ Number binding.access ∷ Number binding.format ∷ [])
row_of (PushDebugGroup range) = row "PushDebugGroup" (Number range.start ∷ Number range.end ∷ [])
row_of PopDebugGroup = row "PopDebugGroup" []
row_of (SetImmediates uniform offset) =
    row "SetImmediates" (Number uniform.location ∷ Number uniform.ty ∷ Number uniform.offset ∷ Number uniform.size_bytes
    ∷ Number offset ∷ [])
row_of (SetClipDistances old-count new-count) = row "SetClipDistances" (Number old-count ∷ Number new-count ∷ [])

abbrev pub name_of : Command → List ℕ
name_of c = ascii (row_of c).name

abbrev pub fields_of : Command → List Field
fields_of c = (row_of c).fields

-- a command's line: its number, its name and its fields, a blank between two, and a newline
abbrev pub line_of : ℕ → Command → List ℕ
line_of n c = decimal n ++ (32 ∷ (name_of c ++ (spaced (fields_of c) ++ (10 ∷ []))))
