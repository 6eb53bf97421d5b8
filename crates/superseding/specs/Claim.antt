-- The request's sentences of what `take_out_superseded` hands back, the answer r and the run afterwards: document 02, request 7. Definitions only.
use Rattle.std.specs.Prelude.{◌≡◌, Bool, true, false, cond, List, [], ◌∷◌, ◌++◌, ◌⊎◌, drop, Option, None, Some}
use Rattle.records.specs.declared.command.Command.{Command}
use Rattle.records.specs.declared.command.Command.TheVariants.{Draw, DrawIndexed, DrawIndirect, DrawIndexedIndirect, Dispatch, DispatchIndirect, ClearBuffer, CopyBufferToBuffer}
use Rattle.records.specs.declared.command.Command.TheVariants.{SetIndexBuffer, BeginQuery, EndQuery, TimestampQuery, CopyQueryResults, ResetFramebuffer, BindAttachment}
use Rattle.records.specs.declared.command.Command.TheVariants.{ResolveAttachment, InvalidateAttachments, SetDrawColorBuffers, ClearColorF, ClearColorU, ClearColorI, ClearDepth}
use Rattle.records.specs.declared.command.Command.TheVariants.{ClearStencil, ClearDepthAndStencil, BufferBarrier, TextureBarrier, SetViewport, SetScissor, SetStencilFunc}
use Rattle.records.specs.declared.command.Command.TheVariants.{SetStencilOps, SetDepth, SetDepthBias, ConfigureDepthStencil, SetAlphaToCoverage, SetVertexAttribute}
use Rattle.records.specs.declared.command.Command.TheVariants.{UnsetVertexAttribute, SetVertexBuffer, SetProgram, SetPrimitive, SetBlendConstant, SetColorTarget, BindBuffer}
use Rattle.records.specs.declared.command.Command.TheVariants.{BindSampler, BindTexture, BindImage, PushDebugGroup, PopDebugGroup, SetImmediates, SetClipDistances}
use Rattle.records.specs.declared.command.Record.{Record}
use Rattle.records.specs.Outcome.{number, Smallest}
use Rattle.machine.specs.Each.{Each}
use Rattle.machine.specs.Machine.{Gl}
use Rattle.lists.specs.declared.limits.Used.{Used}
use Rattle.lists.specs.Limits.{handed, broken_by, broken, conditions_of}
use Rattle.lists.specs.Shots.{settings_after, settings, shots_from}
use Rattle.lists.specs.Things.{Thing, vertex, binding, screen, fixed, vertex_buffer, sampler, index_buffer, viewport, scissor, blend_constants, depth_bias}
use Rattle.superseding.specs.declared.treat.Treated.{Treated}
use Rattle.superseding.specs.Treated.{Treats}

-- ---- what the request says of a command, by the Rust's names
-- "any draw, pass clear, dispatch or framebuffer reset"
abbrev pub ending : Command → Bool
ending (Draw t fv vc fi ic l) = true
ending (DrawIndexed t ty n o bv fi ic l) = true
ending (DrawIndirect t raw o l) = true
ending (DrawIndexedIndirect t ty raw o l) = true
ending (Dispatch a b c) = true
ending (DispatchIndirect raw o) = true
ending (ClearBuffer raw t r) = false
ending (CopyBufferToBuffer a b c d e) = false
ending (SetIndexBuffer raw) = false
ending (BeginQuery q t) = false
ending (EndQuery t) = false
ending (TimestampQuery q) = false
ending (CopyQueryResults a b c d) = false
ending (ResetFramebuffer d) = true
ending (BindAttachment a v d s) = false
ending (ResolveAttachment a v s) = false
ending (InvalidateAttachments s) = false
ending (SetDrawColorBuffers n) = false
ending (ClearColorF n c) = true
ending (ClearColorU n c) = true
ending (ClearColorI n c) = true
ending (ClearDepth d) = true
ending (ClearStencil s) = true
ending (ClearDepthAndStencil d s) = true
ending (BufferBarrier b u) = false
ending (TextureBarrier u) = false
ending (SetViewport r d) = false
ending (SetScissor r) = false
ending (SetStencilFunc side f r k) = false
ending (SetStencilOps side w o) = false
ending (SetDepth d) = false
ending (SetDepthBias d) = false
ending (ConfigureDepthStencil a) = false
ending (SetAlphaToCoverage a) = false
ending (SetVertexAttribute b d a) = false
ending (UnsetVertexAttribute l) = false
ending (SetVertexBuffer i b d) = false
ending (SetProgram p) = false
ending (SetPrimitive p) = false
ending (SetBlendConstant c) = false
ending (SetColorTarget i t) = false
ending (BindBuffer t i b o s) = false
ending (BindSampler u s) = false
ending (BindTexture i t ta a mips) = false
ending (BindImage i y) = false
ending (PushDebugGroup r) = false
ending PopDebugGroup = false
ending (SetImmediates d o) = false
ending (SetClipDistances old n) = false

-- "each blend constant, viewport, scissor, vertex buffer, sampler, index buffer or depth bias setting", with the thing of the machine that it sets
abbrev pub setting : Command → Option Thing
setting (Draw t fv vc fi ic l) = None
setting (DrawIndexed t ty n o bv fi ic l) = None
setting (DrawIndirect t raw o l) = None
setting (DrawIndexedIndirect t ty raw o l) = None
setting (Dispatch a b c) = None
setting (DispatchIndirect raw o) = None
setting (ClearBuffer raw t r) = None
setting (CopyBufferToBuffer a b c d e) = None
setting (SetIndexBuffer raw) = Some (binding index_buffer)
setting (BeginQuery q t) = None
setting (EndQuery t) = None
setting (TimestampQuery q) = None
setting (CopyQueryResults a b c d) = None
setting (ResetFramebuffer d) = None
setting (BindAttachment a v d s) = None
setting (ResolveAttachment a v s) = None
setting (InvalidateAttachments s) = None
setting (SetDrawColorBuffers n) = None
setting (ClearColorF n c) = None
setting (ClearColorU n c) = None
setting (ClearColorI n c) = None
setting (ClearDepth d) = None
setting (ClearStencil s) = None
setting (ClearDepthAndStencil d s) = None
setting (BufferBarrier b u) = None
setting (TextureBarrier u) = None
setting (SetViewport r d) = Some (screen viewport)
setting (SetScissor r) = Some (screen scissor)
setting (SetStencilFunc side f r k) = None
setting (SetStencilOps side w o) = None
setting (SetDepth d) = None
setting (SetDepthBias d) = Some (fixed depth_bias)
setting (ConfigureDepthStencil a) = None
setting (SetAlphaToCoverage a) = None
setting (SetVertexAttribute b d a) = None
setting (UnsetVertexAttribute l) = None
setting (SetVertexBuffer i b d) = Some (vertex (vertex_buffer i))
setting (SetProgram p) = None
setting (SetPrimitive p) = None
setting (SetBlendConstant c) = Some (screen blend_constants)
setting (SetColorTarget i t) = None
setting (BindBuffer t i b o s) = None
setting (BindSampler u s) = Some (binding (sampler u))
setting (BindTexture i t ta a mips) = None
setting (BindImage i y) = None
setting (PushDebugGroup r) = None
setting PopDebugGroup = None
setting (SetImmediates d o) = None
setting (SetClipDistances old n) = None

-- ---- "Every draw and clear finds what it found before", a dispatch and a reset too: its command, and all that the machine holds
pub record Sight : Type 0 where
  pub command : Command
  pub gl : Gl

unfoldable pub sights : Gl → List Command → List Sight
sights g [] = []
sights g (c ∷ cs) = cond (ending c) (record { command = c; gl = g } ∷ sights (settings_after g c) cs) (sights (settings_after g c) cs)

-- ---- "no other command is taken out": the others, in their order
abbrev pub unless : Option Thing → Command → List Command → List Command
unless None c cs = c ∷ cs
unless (Some x) c cs = cs

unfoldable pub others : List Command → List Command
others [] = []
others (c ∷ cs) = unless (setting c) c (others cs)

-- ---- "take out each .. setting that the same thing's later setting replaces before any draw, pass clear, dispatch or framebuffer reset"
pub record Superseded (c : Command) (cs : List Command) : Type 0 where
  pub thing : Thing
  pub sets : setting c ≡ Some thing
  -- what follows: commands that are none of those, and then the later setting
  pub between : List Command
  pub later : Command
  pub after : List Command
  pub follow : cs ≡ between ++ later ∷ after
  pub unended : Each (λ (d : Command). ending d ≡ false) between
  pub again : setting later ≡ Some thing

-- what is left of a list: each command that is not superseded, in its order
unfoldable pub Left : List Command → List Command → Type 0
Left [] ds = ds ≡ []
Left (c ∷ cs) ds = (Superseded c cs × Left cs ds) ⊎ ((Superseded c cs → ⊥) × ((es : List Command) × ((ds ≡ c ∷ es) × Left cs es)))

-- ---- of a run
-- how much of the runs is used afterwards: bytes and queries are as they were
abbrev pub used_now : Used → Treated → Used
used_now u r = record { commands = r.commands; bytes = u.bytes; queries = u.queries }

-- the commands of a list
abbrev pub commands : List Record → Used → List Command
commands run u = (handed run u).commands

-- the list breaks a limit
abbrev pub breaks_limit : List Record → Used → Bool
breaks_limit run u = broken (broken_by (handed run u))

pub record Promised (run : List Record) (u : Used) (run' : List Record) (r : Treated) : Type 0 where
  -- "turned away like a state": by the smallest number whose condition holds, and left as it was
  pub answered : Smallest (conditions_of (broken_by (handed run u))) (number r.outcome)
  pub away : breaks_limit run u ≡ true → (run' ≡ run) × (r.commands ≡ u.commands)
  -- a list within the limits stays within them
  pub within : breaks_limit run u ≡ false → breaks_limit run' (used_now u r) ≡ false
  -- exactly what the request names is taken out, and "What is left keeps its order"
  pub left : breaks_limit run u ≡ false → Left (commands run u) (commands run' (used_now u r))
  -- "no other command is taken out"
  pub kept : others (commands run' (used_now u r)) ≡ others (commands run u)
  -- "Every draw and clear finds what it found before", from every machine: its draws; draws, clears, dispatches and resets; and what it holds at the end
  pub draws : (g : Gl) → shots_from g (commands run' (used_now u r)) ≡ shots_from g (commands run u)
  pub found : (g : Gl) → sights g (commands run' (used_now u r)) ≡ sights g (commands run u)
  pub ended : (g : Gl) → settings g (commands run' (used_now u r)) ≡ settings g (commands run u)
  -- "a second treatment takes nothing more": the same answer, and the run is left
  pub once : (run'' : List Record) (r' : Treated) → Treats run' (used_now u r) run'' r' → (r' ≡ r) × (run'' ≡ run')
  -- what lies past the list is not touched
  pub rest : drop u.commands run' ≡ drop u.commands run
