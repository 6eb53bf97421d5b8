-- What the contracts inside the crate say of a command: where its name stands in a table of the names, and its fields. Assumes nothing.
use Rattle.std.specs.Prelude.{ℕ, zero, suc, ◌≤◌, ◌≡◌, List, [], ◌∷◌, ◌++◌, take, get_or}
use Rattle.std.proofs.Math.Seq.{slice}
use Rattle.records.specs.declared.command.Command.{Command}
use Rattle.records.specs.declared.command.Command.TheVariants.{Draw, DrawIndexed, DrawIndirect, DrawIndexedIndirect, Dispatch, DispatchIndirect, ClearBuffer, CopyBufferToBuffer, SetIndexBuffer, BeginQuery, EndQuery, TimestampQuery, CopyQueryResults, ResetFramebuffer, BindAttachment, ResolveAttachment, InvalidateAttachments, SetDrawColorBuffers, ClearColorF, ClearColorU, ClearColorI, ClearDepth, ClearStencil, ClearDepthAndStencil, BufferBarrier, TextureBarrier, SetViewport, SetScissor, SetStencilFunc, SetStencilOps, SetDepth, SetDepthBias, ConfigureDepthStencil, SetAlphaToCoverage, SetVertexAttribute, UnsetVertexAttribute, SetVertexBuffer, SetProgram, SetPrimitive, SetBlendConstant, SetColorTarget, BindBuffer, BindSampler, BindTexture, BindImage, PushDebugGroup, PopDebugGroup, SetImmediates, SetClipDistances}
use Rattle.text.specs.declared.field.Field.{Field}
use Rattle.text.specs.declared.field.Field.TheVariants.{Absent}
use Rattle.text.specs.declared.field.Shown.{Shown}
use Rattle.names.specs.Ascii.{ascii}
use Rattle.text.specs.Command.{fields_of}

-- the names in the commands' order, those of the state's rows, and two words, each after a blank
abbrev pub names : List ℕ
names =
    ascii " Draw DrawIndexed DrawIndirect DrawIndexedIndirect Dispatch DispatchIndirect ClearBuffer CopyBufferToBuffer"
    ++ ascii " SetIndexBuffer BeginQuery EndQuery TimestampQuery CopyQueryResults ResetFramebuffer BindAttachment"
    ++ ascii " ResolveAttachment InvalidateAttachments SetDrawColorBuffers ClearColorF ClearColorU ClearColorI ClearDepth"
    ++ ascii " ClearStencil ClearDepthAndStencil BufferBarrier TextureBarrier SetViewport SetScissor SetStencilFunc"
    ++ ascii " SetStencilOps SetDepth SetDepthBias ConfigureDepthStencil SetAlphaToCoverage SetVertexAttribute"
    ++ ascii " UnsetVertexAttribute SetVertexBuffer SetProgram SetPrimitive SetBlendConstant SetColorTarget BindBuffer"
    ++ ascii " BindSampler BindTexture BindImage PushDebugGroup PopDebugGroup SetImmediates SetClipDistances"
    ++ ascii " topology primitive index slot attribute target stencil front stencil back bias alpha_to_coverage sampler"
    ++ ascii " texture_slot render_size resolve invalidate has_pass_label instance_mask instance first_instance_location"
    ++ ascii " descriptor word end_of_pass_timestamp clip_distance_count dirty_mask state"

-- where each of them begins, and the end of the last
abbrev pub ends : List ℕ
ends =
    0 ∷ 5 ∷ 17 ∷ 30 ∷ 50 ∷ 59 ∷ 76 ∷ 88 ∷ 107 ∷ 122 ∷ 133 ∷ 142 ∷ 157 ∷ 174 ∷ 191 ∷ 206 ∷ 224
    ∷ 246 ∷ 266 ∷ 278 ∷ 290 ∷ 302 ∷ 313 ∷ 326 ∷ 347 ∷ 361 ∷ 376 ∷ 388 ∷ 399 ∷ 414 ∷ 428 ∷ 437 ∷ 450 ∷ 472
    ∷ 491 ∷ 510 ∷ 531 ∷ 547 ∷ 558 ∷ 571 ∷ 588 ∷ 603 ∷ 614 ∷ 626 ∷ 638 ∷ 648 ∷ 663 ∷ 677 ∷ 691 ∷ 708
    ∷ 717 ∷ 727 ∷ 733 ∷ 738 ∷ 748 ∷ 755 ∷ 769 ∷ 782 ∷ 787 ∷ 805 ∷ 813 ∷ 826 ∷ 838 ∷ 846
    ∷ 857 ∷ 872 ∷ 886 ∷ 895 ∷ 919 ∷ 930 ∷ 935 ∷ 957 ∷ 977 ∷ 988 ∷ 994 ∷ []

-- a blank and the name at this place
abbrev pub name_at : ℕ → List ℕ
name_at k = slice (get_or ends k 0) (get_or ends (suc k) 0) names

-- a command's place
abbrev pub place_of : Command → ℕ
place_of (Draw topology first-vertex vertex-count first-instance instance-count first-instance-location) = 0
place_of (DrawIndexed topology index-type index-count index-offset base-vertex first-instance instance-count first-instance-location) = 1
place_of (DrawIndirect topology indirect-buf indirect-offset first-instance-location) = 2
place_of (DrawIndexedIndirect topology index-type indirect-buf indirect-offset first-instance-location) = 3
place_of (Dispatch x y z) = 4
place_of (DispatchIndirect indirect-buf indirect-offset) = 5
place_of (ClearBuffer dst dst-target range) = 6
place_of (CopyBufferToBuffer src src-target dst dst-target copy) = 7
place_of (SetIndexBuffer buffer) = 8
place_of (BeginQuery query target) = 9
place_of (EndQuery target) = 10
place_of (TimestampQuery query) = 11
place_of (CopyQueryResults query-range dst dst-target dst-offset) = 12
place_of (ResetFramebuffer is-default) = 13
place_of (BindAttachment attachment view depth-slice sample-count) = 14
place_of (ResolveAttachment attachment dst size) = 15
place_of (InvalidateAttachments attachments) = 16
place_of (SetDrawColorBuffers count) = 17
place_of (ClearColorF draw-buffer color) = 18
place_of (ClearColorU draw-buffer color) = 19
place_of (ClearColorI draw-buffer color) = 20
place_of (ClearDepth depth) = 21
place_of (ClearStencil value) = 22
place_of (ClearDepthAndStencil depth value) = 23
place_of (BufferBarrier buffer uses) = 24
place_of (TextureBarrier uses) = 25
place_of (SetViewport rect depth) = 26
place_of (SetScissor rect) = 27
place_of (SetStencilFunc face function reference read-mask) = 28
place_of (SetStencilOps face write-mask ops) = 29
place_of (SetDepth depth) = 30
place_of (SetDepthBias bias) = 31
place_of (ConfigureDepthStencil aspects) = 32
place_of (SetAlphaToCoverage enabled) = 33
place_of (SetVertexAttribute buffer buffer-desc attribute-desc) = 34
place_of (UnsetVertexAttribute location) = 35
place_of (SetVertexBuffer index buffer buffer-desc) = 36
place_of (SetProgram program) = 37
place_of (SetPrimitive state) = 38
place_of (SetBlendConstant color) = 39
place_of (SetColorTarget draw-buffer-index desc) = 40
place_of (BindBuffer target slot buffer offset size) = 41
place_of (BindSampler unit sampler) = 42
place_of (BindTexture slot texture target aspects mip-levels) = 43
place_of (BindImage slot binding) = 44
place_of (PushDebugGroup range) = 45
place_of PopDebugGroup = 46
place_of (SetImmediates uniform offset) = 47
place_of (SetClipDistances old-count new-count) = 48

-- the fields that are shown
abbrev pub list_of : Shown → List Field
list_of s = take s.count s.items

-- n fields: those of the list, and none past them
abbrev pub padded : ℕ → List Field → List Field
padded zero fs = []
padded (suc n) [] = Absent ∷ padded n []
padded (suc n) (f ∷ fs) = f ∷ padded n fs

-- what is shown by a place, a count and up to 14 fields
abbrev pub built : ℕ → ℕ → List Field → Shown
built name count fs = record { name = name; count = count; items = padded 14 fs }

-- s shows the name at this place and these fields
pub record Shows (name : ℕ) (fields : List Field) (s : Shown) : Type 0 where
  pub named : s.name ≡ name
  pub within : s.count ≤ 14
  pub listed : list_of s ≡ fields

-- s shows the command
abbrev pub Tells : Command → Shown → Type 0
Tells c s = Shows (place_of c) (fields_of c) s
