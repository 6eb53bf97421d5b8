-- What the five are at a list's end, as the code keeps it (src/ending.rt), and what is put in for it. Definitions only.
use Rattle.std.specs.Prelude.{ℕ, Bool, false, not, List, ◌++◌, map, eqb, Option, None, Some}
use Rattle.mask.specs.Mask.{set_bit, clear_bit, places}
use Rattle.records.specs.Start.{start_depth_bias}
use Rattle.records.specs.Same.{same_depth_bias}
use Rattle.records.specs.declared.command.Command.{Command}
use Rattle.records.specs.declared.command.Command.TheVariants.{Draw, DrawIndexed, DrawIndirect, DrawIndexedIndirect, Dispatch, DispatchIndirect, ClearBuffer, CopyBufferToBuffer}
use Rattle.records.specs.declared.command.Command.TheVariants.{SetIndexBuffer, BeginQuery, EndQuery, TimestampQuery, CopyQueryResults, ResetFramebuffer, BindAttachment}
use Rattle.records.specs.declared.command.Command.TheVariants.{ResolveAttachment, InvalidateAttachments, SetDrawColorBuffers, ClearColorF, ClearColorU, ClearColorI, ClearDepth}
use Rattle.records.specs.declared.command.Command.TheVariants.{ClearStencil, ClearDepthAndStencil, BufferBarrier, TextureBarrier, SetViewport, SetScissor, SetStencilFunc}
use Rattle.records.specs.declared.command.Command.TheVariants.{SetStencilOps, SetDepth, SetDepthBias, ConfigureDepthStencil, SetAlphaToCoverage, SetVertexAttribute}
use Rattle.records.specs.declared.command.Command.TheVariants.{UnsetVertexAttribute, SetVertexBuffer, SetProgram, SetPrimitive, SetBlendConstant, SetColorTarget, BindBuffer}
use Rattle.records.specs.declared.command.Command.TheVariants.{BindSampler, BindTexture, BindImage, PushDebugGroup, PopDebugGroup, SetImmediates, SetClipDistances}
use Rattle.records.specs.declared.command.ColorF32.{ColorF32}
use Rattle.records.specs.declared.command.DepthBiasState.{DepthBiasState}
use Rattle.joining.specs.declared.ending.Ending.{Ending}
use Rattle.joining.specs.Joined.{bound_after, no_color, zero_color, only}

-- the units with a sampler are a mask
abbrev pub fresh_ending : Ending
fresh_ending = record { units = 0; bias = start_depth_bias; blend = no_color; alpha = false; clip = 0 }

abbrev pub units_after : ℕ → ℕ → Option ℕ → ℕ
units_after m u None = clear_bit m u
units_after m u (Some s) = set_bit m u

abbrev pub with_units : Ending → ℕ → Ending
with_units e x = record { units = x; bias = e.bias; blend = e.blend; alpha = e.alpha; clip = e.clip }

abbrev pub with_bias : Ending → DepthBiasState → Ending
with_bias e x = record { units = e.units; bias = x; blend = e.blend; alpha = e.alpha; clip = e.clip }

abbrev pub with_blend : Ending → ColorF32 → Ending
with_blend e x = record { units = e.units; bias = e.bias; blend = x; alpha = e.alpha; clip = e.clip }

abbrev pub with_alpha : Ending → Bool → Ending
with_alpha e x = record { units = e.units; bias = e.bias; blend = e.blend; alpha = x; clip = e.clip }

abbrev pub with_clip : Ending → ℕ → Ending
with_clip e x = record { units = e.units; bias = e.bias; blend = e.blend; alpha = e.alpha; clip = x }

abbrev pub ending_after : Ending → Command → Ending
ending_after e (Draw t fv vc fi ic l) = e
ending_after e (DrawIndexed t ty n o bv fi ic l) = e
ending_after e (DrawIndirect t raw o l) = e
ending_after e (DrawIndexedIndirect t ty raw o l) = e
ending_after e (Dispatch a b c) = e
ending_after e (DispatchIndirect raw o) = e
ending_after e (ClearBuffer raw t r) = e
ending_after e (CopyBufferToBuffer a b c d h) = e
ending_after e (SetIndexBuffer raw) = e
ending_after e (BeginQuery q t) = e
ending_after e (EndQuery t) = e
ending_after e (TimestampQuery q) = e
ending_after e (CopyQueryResults r dst t o) = e
ending_after e (ResetFramebuffer d) = e
ending_after e (BindAttachment a v d s) = e
ending_after e (ResolveAttachment a v s) = e
ending_after e (InvalidateAttachments s) = e
ending_after e (SetDrawColorBuffers n) = e
ending_after e (ClearColorF n c) = e
ending_after e (ClearColorU n c) = e
ending_after e (ClearColorI n c) = e
ending_after e (ClearDepth d) = e
ending_after e (ClearStencil s) = e
ending_after e (ClearDepthAndStencil d s) = e
ending_after e (BufferBarrier b u) = e
ending_after e (TextureBarrier u) = e
ending_after e (SetViewport r d) = e
ending_after e (SetScissor r) = e
ending_after e (SetStencilFunc at f r n) = e
ending_after e (SetStencilOps at w o) = e
ending_after e (SetDepth d) = e
ending_after e (SetDepthBias d) = with_bias e d
ending_after e (ConfigureDepthStencil a) = e
ending_after e (SetAlphaToCoverage a) = with_alpha e a
ending_after e (SetVertexAttribute b d a) = e
ending_after e (UnsetVertexAttribute l) = e
ending_after e (SetVertexBuffer i b d) = e
ending_after e (SetProgram p) = e
ending_after e (SetPrimitive p) = e
ending_after e (SetBlendConstant c) = with_blend e c
ending_after e (SetColorTarget i t) = e
ending_after e (BindBuffer ta i b o s) = e
ending_after e (BindSampler u s) = with_units e (units_after e.units u s)
ending_after e (BindTexture i te ta a mips) = e
ending_after e (BindImage i x) = e
ending_after e (PushDebugGroup r) = e
ending_after e PopDebugGroup = e
ending_after e (SetImmediates d o) = e
ending_after e (SetClipDistances old n) = with_clip e (bound_after e.clip old n)

-- what is put in
abbrev pub unset : ℕ → Command
unset u = BindSampler u None

-- past the samplers
abbrev pub rest_by : Ending → List Command
rest_by e =
    only (not (same_depth_bias e.bias start_depth_bias)) (SetDepthBias start_depth_bias)
    ++ (only (not (zero_color e.blend)) (SetBlendConstant no_color)
    ++ (only e.alpha (SetAlphaToCoverage false)
    ++ only (not (eqb e.clip 0)) (SetClipDistances e.clip 0)))

abbrev pub resets_by : Ending → List Command
resets_by e = map unset (places e.units) ++ rest_by e
