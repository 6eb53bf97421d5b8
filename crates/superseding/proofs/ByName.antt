-- What the claim says of a command by its name is what the definitions say by its class. Assumes nothing.
use mathlib.Core.Path.{◌≡◌, refl}
use mathlib.Core.Bool.{false}
use mathlib.Core.List.{[]}
use Rattle.records.specs.declared.command.Command.{Command}
use Rattle.records.specs.declared.command.Command.TheVariants.{Draw, DrawIndexed, DrawIndirect, DrawIndexedIndirect, Dispatch, DispatchIndirect, ClearBuffer, CopyBufferToBuffer}
use Rattle.records.specs.declared.command.Command.TheVariants.{SetIndexBuffer, BeginQuery, EndQuery, TimestampQuery, CopyQueryResults, ResetFramebuffer, BindAttachment}
use Rattle.records.specs.declared.command.Command.TheVariants.{ResolveAttachment, InvalidateAttachments, SetDrawColorBuffers, ClearColorF, ClearColorU, ClearColorI, ClearDepth}
use Rattle.records.specs.declared.command.Command.TheVariants.{ClearStencil, ClearDepthAndStencil, BufferBarrier, TextureBarrier, SetViewport, SetScissor, SetStencilFunc}
use Rattle.records.specs.declared.command.Command.TheVariants.{SetStencilOps, SetDepth, SetDepthBias, ConfigureDepthStencil, SetAlphaToCoverage, SetVertexAttribute}
use Rattle.records.specs.declared.command.Command.TheVariants.{UnsetVertexAttribute, SetVertexBuffer, SetProgram, SetPrimitive, SetBlendConstant, SetColorTarget, BindBuffer}
use Rattle.records.specs.declared.command.Command.TheVariants.{BindSampler, BindTexture, BindImage, PushDebugGroup, PopDebugGroup, SetImmediates, SetClipDistances}
use Rattle.std.specs.Prelude.{None, Some}
use Rattle.machine.specs.Machine.{Gl}
use Rattle.lists.specs.declared.class.Class.{Class}
use Rattle.lists.specs.declared.class.Class.TheVariants as class
use Rattle.lists.specs.Class.{class_of, draws}
use Rattle.lists.specs.Shots.{noting, shot_of}
use Rattle.lists.proofs.Kept.{keeps-shots}
use Rattle.superseding.specs.Superseded.{setting_of, ends}
use Rattle.superseding.specs.Claim.{ending, setting}

kind : (c : Command) → (ending c ≡ ends (class_of c)) × (setting c ≡ setting_of (class_of c))
kind (Draw t fv vc fi ic l) = (refl, refl)
kind (DrawIndexed t ty n o bv fi ic l) = (refl, refl)
kind (DrawIndirect t raw o l) = (refl, refl)
kind (DrawIndexedIndirect t ty raw o l) = (refl, refl)
kind (Dispatch a b c) = (refl, refl)
kind (DispatchIndirect raw o) = (refl, refl)
kind (ClearBuffer raw t r) = (refl, refl)
kind (CopyBufferToBuffer a b c d e) = (refl, refl)
kind (SetIndexBuffer raw) = (refl, refl)
kind (BeginQuery q t) = (refl, refl)
kind (EndQuery t) = (refl, refl)
kind (TimestampQuery q) = (refl, refl)
kind (CopyQueryResults a b c d) = (refl, refl)
kind (ResetFramebuffer d) = (refl, refl)
kind (BindAttachment a v d s) = (refl, refl)
kind (ResolveAttachment a v s) = (refl, refl)
kind (InvalidateAttachments s) = (refl, refl)
kind (SetDrawColorBuffers n) = (refl, refl)
kind (ClearColorF n c) = (refl, refl)
kind (ClearColorU n c) = (refl, refl)
kind (ClearColorI n c) = (refl, refl)
kind (ClearDepth d) = (refl, refl)
kind (ClearStencil s) = (refl, refl)
kind (ClearDepthAndStencil d s) = (refl, refl)
kind (BufferBarrier b u) = (refl, refl)
kind (TextureBarrier u) = (refl, refl)
kind (SetViewport r d) = (refl, refl)
kind (SetScissor r) = (refl, refl)
kind (SetStencilFunc side f r k) = (refl, refl)
kind (SetStencilOps side w o) = (refl, refl)
kind (SetDepth d) = (refl, refl)
kind (SetDepthBias d) = (refl, refl)
kind (ConfigureDepthStencil a) = (refl, refl)
kind (SetAlphaToCoverage a) = (refl, refl)
kind (SetVertexAttribute b d a) = (refl, refl)
kind (UnsetVertexAttribute l) = (refl, refl)
kind (SetVertexBuffer i b d) = (refl, refl)
kind (SetProgram p) = (refl, refl)
kind (SetPrimitive p) = (refl, refl)
kind (SetBlendConstant c) = (refl, refl)
kind (SetColorTarget None t) = (refl, refl)
kind (SetColorTarget (Some i) t) = (refl, refl)
kind (BindBuffer t i b o s) = (refl, refl)
kind (BindSampler u s) = (refl, refl)
kind (BindTexture i t ta a mips) = (refl, refl)
kind (BindImage i y) = (refl, refl)
kind (PushDebugGroup r) = (refl, refl)
kind PopDebugGroup = (refl, refl)
kind (SetImmediates d o) = (refl, refl)
kind (SetClipDistances old n) = (refl, refl)

pub ending-is : (c : Command) → ending c ≡ ends (class_of c)
ending-is c = (kind c).0

pub setting-is : (c : Command) → setting c ≡ setting_of (class_of c)
setting-is c = (kind c).1

no-draw : (k : Class) → ends k ≡ false → draws k ≡ false
no-draw class.Draw e = e
no-draw class.Clear e = refl
no-draw class.Dispatch e = refl
no-draw class.Reset e = refl
no-draw (class.Sets t) e = refl
no-draw class.Other e = refl

pub undrawn : (c : Command) (g : Gl) → ends (class_of c) ≡ false → shot_of g c ≡ []
undrawn c g e = keeps-shots c (noting g) (no-draw (class_of c) e)
