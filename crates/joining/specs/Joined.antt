-- Two lists joined: document 02 §14. Definitions only.
use Rattle.std.specs.Prelude.{ℕ, zero, suc, ◌+◌, Bool, true, false, cond, not, ◌&&◌, List, [], ◌∷◌, ◌++◌, map, eqb, ltb, T, length, Option, None, Some}
use Rattle.std.specs.Float.{binary32}
use Rattle.std.specs.Float.Ieee.{fits, of_bits}
use Rattle.numbers.specs.Convert.{bits32}
use Rattle.records.specs.Start.{start_depth_bias}
use Rattle.records.specs.Same.{same_depth_bias}
use Rattle.records.specs.declared.command.ColorF32.{ColorF32}
use Rattle.records.specs.declared.command.Command.{Command}
use Rattle.records.specs.declared.command.Command.TheVariants.{Draw, DrawIndexed, DrawIndirect, DrawIndexedIndirect, Dispatch, DispatchIndirect, ClearBuffer, CopyBufferToBuffer}
use Rattle.records.specs.declared.command.Command.TheVariants.{SetIndexBuffer, BeginQuery, EndQuery, TimestampQuery, CopyQueryResults, ResetFramebuffer, BindAttachment}
use Rattle.records.specs.declared.command.Command.TheVariants.{ResolveAttachment, InvalidateAttachments, SetDrawColorBuffers, ClearColorF, ClearColorU, ClearColorI, ClearDepth}
use Rattle.records.specs.declared.command.Command.TheVariants.{ClearStencil, ClearDepthAndStencil, BufferBarrier, TextureBarrier, SetViewport, SetScissor, SetStencilFunc}
use Rattle.records.specs.declared.command.Command.TheVariants.{SetStencilOps, SetDepth, SetDepthBias, ConfigureDepthStencil, SetAlphaToCoverage, SetVertexAttribute}
use Rattle.records.specs.declared.command.Command.TheVariants.{UnsetVertexAttribute, SetVertexBuffer, SetProgram, SetPrimitive, SetBlendConstant, SetColorTarget, BindBuffer}
use Rattle.records.specs.declared.command.Command.TheVariants.{BindSampler, BindTexture, BindImage, PushDebugGroup, PopDebugGroup, SetImmediates, SetClipDistances}
use Rattle.records.specs.declared.command.RangeU32.{RangeU32}
use Rattle.machine.specs.Machine.{Gl, fresh_gl}
use Rattle.lists.specs.Clips.{Clips, clip_of}
use Rattle.lists.specs.Shots.{settings}

-- a finished list: its commands, marker bytes and queries
pub record Listed : Type 0 where
  pub commands : List Command
  pub bytes : List ℕ
  pub queries : List ℕ

-- a range with both ends taken elsewhere
abbrev pub range_by : (ℕ → ℕ) → RangeU32 → RangeU32
range_by f r = record { start = f r.start; end = f r.end }

-- a command with its places among the marker bytes taken elsewhere by f, and those among the queries by g. The offset of a descriptor is a place among the words, and stays
abbrev pub moved_by : (ℕ → ℕ) → (ℕ → ℕ) → Command → Command
moved_by f g (Draw t fv vc fi ic l) = Draw t fv vc fi ic l
moved_by f g (DrawIndexed t ty n o bv fi ic l) = DrawIndexed t ty n o bv fi ic l
moved_by f g (DrawIndirect t raw o l) = DrawIndirect t raw o l
moved_by f g (DrawIndexedIndirect t ty raw o l) = DrawIndexedIndirect t ty raw o l
moved_by f g (Dispatch a b c) = Dispatch a b c
moved_by f g (DispatchIndirect raw o) = DispatchIndirect raw o
moved_by f g (ClearBuffer raw t r) = ClearBuffer raw t r
moved_by f g (CopyBufferToBuffer a b c d e) = CopyBufferToBuffer a b c d e
moved_by f g (SetIndexBuffer raw) = SetIndexBuffer raw
moved_by f g (BeginQuery q t) = BeginQuery q t
moved_by f g (EndQuery t) = EndQuery t
moved_by f g (TimestampQuery q) = TimestampQuery q
moved_by f g (CopyQueryResults r dst t o) = CopyQueryResults (range_by g r) dst t o
moved_by f g (ResetFramebuffer d) = ResetFramebuffer d
moved_by f g (BindAttachment a v d s) = BindAttachment a v d s
moved_by f g (ResolveAttachment a v s) = ResolveAttachment a v s
moved_by f g (InvalidateAttachments s) = InvalidateAttachments s
moved_by f g (SetDrawColorBuffers n) = SetDrawColorBuffers n
moved_by f g (ClearColorF n c) = ClearColorF n c
moved_by f g (ClearColorU n c) = ClearColorU n c
moved_by f g (ClearColorI n c) = ClearColorI n c
moved_by f g (ClearDepth d) = ClearDepth d
moved_by f g (ClearStencil s) = ClearStencil s
moved_by f g (ClearDepthAndStencil d s) = ClearDepthAndStencil d s
moved_by f g (BufferBarrier b u) = BufferBarrier b u
moved_by f g (TextureBarrier u) = TextureBarrier u
moved_by f g (SetViewport r d) = SetViewport r d
moved_by f g (SetScissor r) = SetScissor r
moved_by f g (SetStencilFunc at function r n) = SetStencilFunc at function r n
moved_by f g (SetStencilOps at w o) = SetStencilOps at w o
moved_by f g (SetDepth d) = SetDepth d
moved_by f g (SetDepthBias d) = SetDepthBias d
moved_by f g (ConfigureDepthStencil a) = ConfigureDepthStencil a
moved_by f g (SetAlphaToCoverage a) = SetAlphaToCoverage a
moved_by f g (SetVertexAttribute b d a) = SetVertexAttribute b d a
moved_by f g (UnsetVertexAttribute l) = UnsetVertexAttribute l
moved_by f g (SetVertexBuffer i b d) = SetVertexBuffer i b d
moved_by f g (SetProgram p) = SetProgram p
moved_by f g (SetPrimitive p) = SetPrimitive p
moved_by f g (SetBlendConstant c) = SetBlendConstant c
moved_by f g (SetColorTarget i t) = SetColorTarget i t
moved_by f g (BindBuffer ta i b o s) = BindBuffer ta i b o s
moved_by f g (BindSampler u s) = BindSampler u s
moved_by f g (BindTexture i te ta a mips) = BindTexture i te ta a mips
moved_by f g (BindImage i x) = BindImage i x
moved_by f g (PushDebugGroup r) = PushDebugGroup (range_by f r)
moved_by f g PopDebugGroup = PopDebugGroup
moved_by f g (SetImmediates d o) = SetImmediates d (f o)
moved_by f g (SetClipDistances old n) = SetClipDistances old n

-- "its marker, immediate and query ranges moved": behind m bytes and k queries
abbrev pub moved : ℕ → ℕ → Command → Command
moved m k = moved_by (λ n. m + n) (λ n. k + n)

-- ---- what the machine holds at a list's end
-- A bound of the clip distances that are on, 0 on a fresh machine. From old up to new switched on: the larger one of it and new. From new up to old switched off: the smaller one, if none from old on is on.
-- It is the last count where each old count is the count before, as the recorder's are (`chained-bound`); other lists may have distances on above the last count
abbrev pub bound_after : ℕ → ℕ → ℕ → ℕ
bound_after b old new = cond (ltb old new) (cond (ltb b new) new b) (cond (ltb old b) b (cond (ltb b new) b new))

abbrev pub bound_by : ℕ → Option Clips → ℕ
bound_by b None = b
bound_by b (Some c) = bound_after b c.old c.new

unfoldable pub bound_from : ℕ → List Command → ℕ
bound_from b [] = b
bound_from b (c ∷ cs) = bound_from (bound_by b (clip_of c)) cs

-- ---- "what sets samplers to none, depth bias and blend constants to zero, alpha to coverage off and clip distances from the last count to 0";
-- "Only settings that differ (floats by bits, zero being +0) from those values at the first's end are put in, in the order named, units ascending"
abbrev pub off : ℕ → Option ℕ → List Command
off u None = []
off u (Some s) = BindSampler u None ∷ []

unfoldable pub samplers_off : ℕ → ℕ → (ℕ → Option ℕ) → List Command
samplers_off zero u s = []
samplers_off (suc n) u s = off u (s u) ++ samplers_off n (suc u) s

abbrev pub no_color : ColorF32
no_color = record { r = of_bits binary32 0; g = of_bits binary32 0; b = of_bits binary32 0; a = of_bits binary32 0 }

abbrev pub zero_color : ColorF32 → Bool
zero_color c = eqb (bits32 c.r) 0 && (eqb (bits32 c.g) 0 && (eqb (bits32 c.b) 0 && eqb (bits32 c.a) 0))

abbrev pub only : Bool → Command → List Command
only true c = c ∷ []
only false c = []

abbrev pub resets : Gl → ℕ → List Command
resets g n =
    samplers_off 16 0 g.bindings.samplers
    ++ (only (not (same_depth_bias g.fixed.bias start_depth_bias)) (SetDepthBias start_depth_bias)
    ++ (only (not (zero_color g.screen.blend)) (SetBlendConstant no_color)
    ++ (only g.fixed.alpha (SetAlphaToCoverage false)
    ++ only (not (eqb n 0)) (SetClipDistances n 0))))

-- at the end of a list that is played from a fresh machine
abbrev pub end_of : List Command → Gl
end_of cs = settings fresh_gl cs

abbrev pub bound_of : List Command → ℕ
bound_of cs = bound_from 0 cs

abbrev pub put_in : List Command → List Command
put_in cs = resets (end_of cs) (bound_of cs)

-- "the first, then what sets .., then the second with its .. ranges moved"
abbrev pub joined : Listed → Listed → Listed
joined a b =
    record {
      commands = a.commands ++ (put_in a.commands ++ map (moved (length a.bytes) (length a.queries)) b.commands);
      bytes = a.bytes ++ b.bytes;
      queries = a.queries ++ b.queries;
    }

-- blend constants that are f32 values: equal bits mean equal values only of those
pub record Floats (c : ColorF32) : Type 0 where
  pub r : T (fits binary32 c.r)
  pub g : T (fits binary32 c.g)
  pub b : T (fits binary32 c.b)
  pub a : T (fits binary32 c.a)
