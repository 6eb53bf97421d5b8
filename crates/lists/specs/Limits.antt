-- The check of a handed-in list: document 02 §3, "A list handed in, here or later, that breaks a limit of document 01 is turned away like a state, a range beyond its run by 7".
-- The limits are those of document 01; what lies past the count is not looked at. Definitions only.
use Rattle.std.specs.Prelude.{ℕ, ◌+◌, ◌^◌, Bool, false, ◌&&◌, ◌||◌, List, ltb, leb, length, take, Option, None, Some}
use Rattle.names.specs.Gl.{GL_COLOR_ATTACHMENT0}
use Rattle.records.specs.Check.{some?, bad_attribute, bad_descriptor}
use Rattle.records.specs.declared.command.Command.{Command}
use Rattle.records.specs.declared.command.Command.TheVariants.{Draw, DrawIndexed, DrawIndirect, DrawIndexedIndirect, Dispatch, DispatchIndirect, ClearBuffer, CopyBufferToBuffer}
use Rattle.records.specs.declared.command.Command.TheVariants.{SetIndexBuffer, BeginQuery, EndQuery, TimestampQuery, CopyQueryResults, ResetFramebuffer, BindAttachment}
use Rattle.records.specs.declared.command.Command.TheVariants.{ResolveAttachment, InvalidateAttachments, SetDrawColorBuffers, ClearColorF, ClearColorU, ClearColorI, ClearDepth}
use Rattle.records.specs.declared.command.Command.TheVariants.{ClearStencil, ClearDepthAndStencil, BufferBarrier, TextureBarrier, SetViewport, SetScissor, SetStencilFunc}
use Rattle.records.specs.declared.command.Command.TheVariants.{SetStencilOps, SetDepth, SetDepthBias, ConfigureDepthStencil, SetAlphaToCoverage, SetVertexAttribute}
use Rattle.records.specs.declared.command.Command.TheVariants.{UnsetVertexAttribute, SetVertexBuffer, SetProgram, SetPrimitive, SetBlendConstant, SetColorTarget, BindBuffer}
use Rattle.records.specs.declared.command.Command.TheVariants.{BindSampler, BindTexture, BindImage, PushDebugGroup, PopDebugGroup, SetImmediates, SetClipDistances}
use Rattle.records.specs.declared.command.ImmediateDesc.{ImmediateDesc}
use Rattle.records.specs.declared.command.RangeU32.{RangeU32}
use Rattle.records.specs.declared.command.Record.{Record}
use Rattle.records.specs.declared.outcome.Conditions.{Conditions}
use Rattle.records.specs.declared.outcome.Outcome.{Outcome}
use Rattle.records.specs.Outcome.{smallest}
use Rattle.lists.specs.declared.limits.Breaks.{Breaks}
use Rattle.lists.specs.declared.limits.Used.{Used}
use Rattle.lists.specs.Class.{commands_of}

-- ---- what a command breaks, by document 01's numbers
abbrev pub keeps : Breaks
keeps = record { many = false; range = false; room = false }

-- 2: more places than the limits
abbrev pub too_many : Bool → Breaks
too_many b = record { many = b; range = false; room = false }

-- 3: a number out of range
abbrev pub out_of_range : Bool → Breaks
out_of_range b = record { many = false; range = b; room = false }

-- 7: a range beyond its run
abbrev pub beyond_run : Bool → Breaks
beyond_run b = record { many = false; range = false; room = b }

-- a range that ends before it starts
abbrev pub reversed : RangeU32 → Bool
reversed r = ltb r.end r.start

-- a draw buffer by its place, of which there are 8; without a number it is all of them
abbrev pub bad_target : Option ℕ → Bool
bad_target None = false
bad_target (Some i) = leb 8 i

-- OpenGL ES 3.2, 9.2.1: COLOR_ATTACHMENT0 to 31. The places are 0 to 7; other numbers are no colour places
abbrev pub bad_attachment : ℕ → Bool
bad_attachment n = leb (GL_COLOR_ATTACHMENT0 + 8) n && ltb n (GL_COLOR_ATTACHMENT0 + 32)

-- "a query range that ends before it starts", 3; beyond the queries, 7
abbrev pub query_breaks : Used → RangeU32 → Breaks
query_breaks u r = record { many = false; range = reversed r; room = ltb u.queries r.end }

-- a label's range of marker bytes: beyond them, 7; one that ends before it starts is no part of them
abbrev pub marker_breaks : Used → RangeU32 → Breaks
marker_breaks u r = beyond_run (reversed r || ltb u.bytes r.end)

-- an immediate's descriptor, 3; its words from the offset on, beyond the marker bytes, 7
abbrev pub immediate_breaks : Used → ImmediateDesc → ℕ → Breaks
immediate_breaks u d offset = record { many = false; range = bad_descriptor d; room = ltb u.bytes (offset + d.size_bytes) }

-- the limits: 8 places; locations, vertex slots, texture slots and units of 0 to 15; buffer and image slots "any byte"; ten invalidation bits;
-- descriptors "within 256 bytes", in words; a query range that does not end before it starts; ranges of marker bytes and queries within their counts
abbrev pub breaks : Used → Command → Breaks
breaks u (Draw t fv vc fi ic l) = keeps
breaks u (DrawIndexed t ty n o bv fi ic l) = keeps
breaks u (DrawIndirect t raw o l) = keeps
breaks u (DrawIndexedIndirect t ty raw o l) = keeps
breaks u (Dispatch x y z) = keeps
breaks u (DispatchIndirect raw o) = keeps
breaks u (ClearBuffer raw t r) = keeps
breaks u (CopyBufferToBuffer a b c d e) = keeps
breaks u (SetIndexBuffer raw) = keeps
breaks u (BeginQuery q t) = keeps
breaks u (EndQuery t) = keeps
breaks u (TimestampQuery q) = keeps
breaks u (CopyQueryResults r dst t o) = query_breaks u r
breaks u (ResetFramebuffer d) = keeps
breaks u (BindAttachment a v d s) = out_of_range (bad_attachment a)
breaks u (ResolveAttachment a v s) = out_of_range (bad_attachment a)
breaks u (InvalidateAttachments s) = out_of_range (leb (2 ^ 10) s)
breaks u (SetDrawColorBuffers n) = too_many (ltb 8 n)
breaks u (ClearColorF n c) = out_of_range (leb 8 n)
breaks u (ClearColorU n c) = out_of_range (leb 8 n)
breaks u (ClearColorI n c) = out_of_range (leb 8 n)
breaks u (ClearDepth d) = keeps
breaks u (ClearStencil s) = keeps
breaks u (ClearDepthAndStencil d s) = keeps
breaks u (BufferBarrier b k) = keeps
breaks u (TextureBarrier k) = keeps
breaks u (SetViewport r d) = keeps
breaks u (SetScissor r) = keeps
breaks u (SetStencilFunc face f r k) = keeps
breaks u (SetStencilOps face w o) = keeps
breaks u (SetDepth d) = keeps
breaks u (SetDepthBias d) = keeps
breaks u (ConfigureDepthStencil a) = keeps
breaks u (SetAlphaToCoverage a) = keeps
breaks u (SetVertexAttribute b d a) = out_of_range (bad_attribute a)
breaks u (UnsetVertexAttribute l) = out_of_range (leb 16 l)
breaks u (SetVertexBuffer i b d) = out_of_range (leb 16 i)
breaks u (SetProgram p) = keeps
breaks u (SetPrimitive p) = keeps
breaks u (SetBlendConstant c) = keeps
breaks u (SetColorTarget i t) = out_of_range (bad_target i)
breaks u (BindBuffer t i b o s) = out_of_range (leb 256 i)
breaks u (BindSampler i s) = out_of_range (leb 16 i)
breaks u (BindTexture i t ta a mips) = out_of_range (leb 16 i)
breaks u (BindImage i x) = out_of_range (leb 256 i)
breaks u (PushDebugGroup r) = marker_breaks u r
breaks u PopDebugGroup = keeps
breaks u (SetImmediates d o) = immediate_breaks u d o
breaks u (SetClipDistances old n) = keeps

-- what the one or the other breaks
abbrev pub either_breaks : Breaks → Breaks → Breaks
either_breaks a b = record { many = a.many || b.many; range = a.range || b.range; room = a.room || b.room }

-- ---- what a list breaks
-- 7, of the counts: "At most 4,096 commands, 65,536 marker bytes, 1,024 queries", and "a count above its lent run"
abbrev pub over_counts : ℕ → Used → Bool
over_counts room u = ltb 4096 u.commands || (ltb 65536 u.bytes || (ltb 1024 u.queries || ltb room u.commands))

-- a list as it is handed in: how many records its lent run has, how many commands, bytes and queries are used, and the used commands
pub record Handed : Type 0 where
  pub room : ℕ
  pub used : Used
  pub commands : List Command

abbrev pub handed : List Record → Used → Handed
handed run u = record { room = length run; used = u; commands = commands_of (take u.commands run) }

-- a limit is broken where a command, or for 7 a count, breaks it
abbrev pub broken_by : Handed → Breaks
broken_by l =
    record {
      many = some? (λ c. (breaks l.used c).many) l.commands;
      range = some? (λ c. (breaks l.used c).range) l.commands;
      room = over_counts l.room l.used || some? (λ c. (breaks l.used c).room) l.commands;
    }

-- ---- the answer to a list that is handed in
abbrev pub broken : Breaks → Bool
broken b = b.many || (b.range || b.room)

-- "turned away like a state": of document 01's conditions a list can meet 2, 3 and 7
abbrev pub conditions_of : Breaks → Conditions
conditions_of b = record { phase = false; many = b.many; range = b.range; absent = false; kind = false; sum = false; room = b.room }

abbrev pub refusal_of : Breaks → Outcome
refusal_of b = smallest (conditions_of b)
