-- A command's place: its name stands there in the table. Assumes nothing.
use Prim.Native.Nat.{ℕ, ◌<◌}
use mathlib.Core.Path.{◌≡◌, refl, ap, ◌∙◌}
use mathlib.Core.List.{[], ◌∷◌, ◌++◌}
use lib.Dec.{lit<}
use Rattle.records.specs.declared.command.Command.{Command}
use Rattle.records.specs.declared.command.Command.TheVariants.{Draw, DrawIndexed, DrawIndirect, DrawIndexedIndirect, Dispatch, DispatchIndirect, ClearBuffer, CopyBufferToBuffer, SetIndexBuffer, BeginQuery, EndQuery, TimestampQuery, CopyQueryResults, ResetFramebuffer, BindAttachment, ResolveAttachment, InvalidateAttachments, SetDrawColorBuffers, ClearColorF, ClearColorU, ClearColorI, ClearDepth, ClearStencil, ClearDepthAndStencil, BufferBarrier, TextureBarrier, SetViewport, SetScissor, SetStencilFunc, SetStencilOps, SetDepth, SetDepthBias, ConfigureDepthStencil, SetAlphaToCoverage, SetVertexAttribute, UnsetVertexAttribute, SetVertexBuffer, SetProgram, SetPrimitive, SetBlendConstant, SetColorTarget, BindBuffer, BindSampler, BindTexture, BindImage, PushDebugGroup, PopDebugGroup, SetImmediates, SetClipDistances}
use Rattle.text.specs.declared.field.Shown.{Shown}
use Rattle.text.specs.Digits.{decimal}
use Rattle.text.specs.Field.{spaced}
use Rattle.text.specs.Command.{name_of, line_of}
use Rattle.text.specs.Shown.{place_of, name_at, list_of, Tells}
use Rattle.text.specs.Put.{line_from}

pub placed : (c : Command) → (place_of c < 74) × (name_at (place_of c) ≡ 32 ∷ name_of c)
placed (Draw a b c d e f) = (lit< tt, refl)
placed (DrawIndexed a b c d e f g h) = (lit< tt, refl)
placed (DrawIndirect a b c d) = (lit< tt, refl)
placed (DrawIndexedIndirect a b c d e) = (lit< tt, refl)
placed (Dispatch a b c) = (lit< tt, refl)
placed (DispatchIndirect a b) = (lit< tt, refl)
placed (ClearBuffer a b c) = (lit< tt, refl)
placed (CopyBufferToBuffer a b c d e) = (lit< tt, refl)
placed (SetIndexBuffer a) = (lit< tt, refl)
placed (BeginQuery a b) = (lit< tt, refl)
placed (EndQuery a) = (lit< tt, refl)
placed (TimestampQuery a) = (lit< tt, refl)
placed (CopyQueryResults a b c d) = (lit< tt, refl)
placed (ResetFramebuffer a) = (lit< tt, refl)
placed (BindAttachment a b c d) = (lit< tt, refl)
placed (ResolveAttachment a b c) = (lit< tt, refl)
placed (InvalidateAttachments a) = (lit< tt, refl)
placed (SetDrawColorBuffers a) = (lit< tt, refl)
placed (ClearColorF a b) = (lit< tt, refl)
placed (ClearColorU a b) = (lit< tt, refl)
placed (ClearColorI a b) = (lit< tt, refl)
placed (ClearDepth a) = (lit< tt, refl)
placed (ClearStencil a) = (lit< tt, refl)
placed (ClearDepthAndStencil a b) = (lit< tt, refl)
placed (BufferBarrier a b) = (lit< tt, refl)
placed (TextureBarrier a) = (lit< tt, refl)
placed (SetViewport a b) = (lit< tt, refl)
placed (SetScissor a) = (lit< tt, refl)
placed (SetStencilFunc a b c d) = (lit< tt, refl)
placed (SetStencilOps a b c) = (lit< tt, refl)
placed (SetDepth a) = (lit< tt, refl)
placed (SetDepthBias a) = (lit< tt, refl)
placed (ConfigureDepthStencil a) = (lit< tt, refl)
placed (SetAlphaToCoverage a) = (lit< tt, refl)
placed (SetVertexAttribute a b c) = (lit< tt, refl)
placed (UnsetVertexAttribute a) = (lit< tt, refl)
placed (SetVertexBuffer a b c) = (lit< tt, refl)
placed (SetProgram a) = (lit< tt, refl)
placed (SetPrimitive a) = (lit< tt, refl)
placed (SetBlendConstant a) = (lit< tt, refl)
placed (SetColorTarget a b) = (lit< tt, refl)
placed (BindBuffer a b c d e) = (lit< tt, refl)
placed (BindSampler a b) = (lit< tt, refl)
placed (BindTexture a b c d e) = (lit< tt, refl)
placed (BindImage a b) = (lit< tt, refl)
placed (PushDebugGroup a) = (lit< tt, refl)
placed PopDebugGroup = (lit< tt, refl)
placed (SetImmediates a b) = (lit< tt, refl)
placed (SetClipDistances a b) = (lit< tt, refl)

-- the line of what is shown of a command is the command's line
pub line-is : (n : ℕ) (c : Command) (s : Shown) → Tells c s → line_from n s ≡ line_of n c
line-is n c s t =
    ap (λ x. decimal n ++ (name_at x ++ (spaced (list_of s) ++ (10 ∷ [])))) t.named
    ∙ ap (λ x. decimal n ++ (x ++ (spaced (list_of s) ++ (10 ∷ [])))) (placed c).1
    ∙ ap (λ x. decimal n ++ (32 ∷ (name_of c ++ (spaced x ++ (10 ∷ []))))) t.listed
