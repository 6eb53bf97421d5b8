-- What the code knows while it goes through a list, from the last record to the first, and then from the first to the last. Definitions only.
use Rattle.std.specs.Prelude.{ℕ, Bool, false, cond, not}
use Rattle.mask.specs.Mask.{test_bit, set_bit}
use Rattle.records.specs.declared.command.Record.{Record}
use Rattle.lists.specs.declared.class.Class.{Class}
use Rattle.lists.specs.declared.class.Class.TheVariants.{Draw, Clear, Dispatch, Reset, Sets, Other}
use Rattle.lists.specs.declared.class.Thing.{Thing}
use Rattle.lists.specs.declared.class.Thing.TheVariants as thing
use Rattle.lists.specs.declared.class.Thing.TheVariants.{Attribute, IndexBuffer, Buffer, Texture, Image, Viewport, Scissor, BlendConstants, Program}
use Rattle.lists.specs.declared.class.Thing.TheVariants.{Primitive, DepthBias, AlphaToCoverage, ClipDistances, DepthStencil, Depth, Target, Targets, StencilFunction, StencilOperations}
use Rattle.lists.specs.Class.{class_of}
use Rattle.lists.specs.Limits.{breaks}
use Rattle.superseding.specs.declared.seen.Mark.{Mark}
use Rattle.superseding.specs.declared.seen.Mark.TheVariants.{VertexBuffer, Sampler, Single, Nothing}
use Rattle.superseding.specs.declared.seen.Seen.{Seen}
use Rattle.superseding.specs.Superseded.{ends}
use Rattle.superseding.specs.Treated.{blank_of}

-- ---- where a mask has the thing that a command sets
abbrev pub thing_mark : Thing → Mark
thing_mark (Attribute l) = Nothing
thing_mark (thing.VertexBuffer i) = VertexBuffer i
thing_mark IndexBuffer = Single 3
thing_mark (Buffer t i) = Nothing
thing_mark (Texture i) = Nothing
thing_mark (Image i) = Nothing
thing_mark (thing.Sampler u) = Sampler u
thing_mark Viewport = Single 1
thing_mark Scissor = Single 2
thing_mark BlendConstants = Single 0
thing_mark Program = Nothing
thing_mark Primitive = Nothing
thing_mark DepthBias = Single 4
thing_mark AlphaToCoverage = Nothing
thing_mark ClipDistances = Nothing
thing_mark DepthStencil = Nothing
thing_mark Depth = Nothing
thing_mark (Target i) = Nothing
thing_mark Targets = Nothing
thing_mark (StencilFunction face) = Nothing
thing_mark (StencilOperations face) = Nothing

abbrev pub mark_of : Class → Mark
mark_of Draw = Nothing
mark_of Clear = Nothing
mark_of Dispatch = Nothing
mark_of Reset = Nothing
mark_of (Sets t) = thing_mark t
mark_of Other = Nothing

-- ---- what is set again before anything ends the wait
abbrev pub nothing_seen : Seen
nothing_seen = record { buffers = 0; samplers = 0; singles = 0 }

abbrev pub is_seen : Seen → Mark → Bool
is_seen z (VertexBuffer i) = test_bit z.buffers i
is_seen z (Sampler u) = test_bit z.samplers u
is_seen z (Single k) = test_bit z.singles k
is_seen z Nothing = false

abbrev pub with_mark : Seen → Mark → Seen
with_mark z (VertexBuffer i) = record { buffers = set_bit z.buffers i; samplers = z.samplers; singles = z.singles }
with_mark z (Sampler u) = record { buffers = z.buffers; samplers = set_bit z.samplers u; singles = z.singles }
with_mark z (Single k) = record { buffers = z.buffers; samplers = z.samplers; singles = set_bit z.singles k }
with_mark z Nothing = z

abbrev pub seen_before : Seen → Class → Seen
seen_before z k = cond (ends k) nothing_seen (with_mark z (mark_of k))

-- ---- the steps of `map_back` and `fold_back` (list_walks/specs/Back.antt), whatever the place
abbrev pub blanked_by : Seen → ℕ → Record → Record
blanked_by z i x = cond (is_seen z (mark_of (class_of x.command))) blank_of x

abbrev pub look_back : Seen → ℕ → Record → Seen
look_back z i x = seen_before z (class_of x.command)

-- what `sifted` keeps (list_walks/specs/Sift.antt)
abbrev pub stays_of : Record → Bool
stays_of x = not (breaks (record { commands = 0; bytes = 0; queries = 0 }) x.command).range
