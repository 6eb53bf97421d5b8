-- Settings that a later one supersedes: document 02, request 7. Definitions only.
use Rattle.std.specs.Prelude.{Bool, true, false, cond, List, [], ◌∷◌, Option, None, Some}
use Rattle.records.specs.declared.command.Command.{Command}
use Rattle.lists.specs.declared.class.Class.{Class}
use Rattle.lists.specs.declared.class.Class.TheVariants.{Draw, Clear, Dispatch, Reset, Sets, Other}
use Rattle.lists.specs.declared.class.Thing as class
use Rattle.lists.specs.declared.class.Thing.TheVariants.{Attribute, VertexBuffer, IndexBuffer, Buffer, Texture, Image, Sampler, Viewport, Scissor, BlendConstants, Program}
use Rattle.lists.specs.declared.class.Thing.TheVariants.{Primitive, DepthBias, AlphaToCoverage, ClipDistances, DepthStencil, Depth, Target, Targets, StencilFunction, StencilOperations}
use Rattle.lists.specs.Class.{class_of}
use Rattle.lists.specs.Things.{Thing, vertex, binding, screen, fixed, vertex_buffer, sampler, index_buffer, viewport, scissor, blend_constants, depth_bias, names}

-- "each blend constant, viewport, scissor, vertex buffer, sampler, index buffer or depth bias setting", with the thing of the machine that it sets
abbrev pub thing_set : class.Thing → Option Thing
thing_set (Attribute l) = None
thing_set (VertexBuffer i) = Some (vertex (vertex_buffer i))
thing_set IndexBuffer = Some (binding index_buffer)
thing_set (Buffer t i) = None
thing_set (Texture i) = None
thing_set (Image i) = None
thing_set (Sampler u) = Some (binding (sampler u))
thing_set Viewport = Some (screen viewport)
thing_set Scissor = Some (screen scissor)
thing_set BlendConstants = Some (screen blend_constants)
thing_set Program = None
thing_set Primitive = None
thing_set DepthBias = Some (fixed depth_bias)
thing_set AlphaToCoverage = None
thing_set ClipDistances = None
thing_set DepthStencil = None
thing_set Depth = None
thing_set (Target i) = None
thing_set Targets = None
thing_set (StencilFunction face) = None
thing_set (StencilOperations face) = None

-- the thing that a command sets, if it is such a setting
abbrev pub setting_of : Class → Option Thing
setting_of Draw = None
setting_of Clear = None
setting_of Dispatch = None
setting_of Reset = None
setting_of (Sets t) = thing_set t
setting_of Other = None

-- "any draw, pass clear, dispatch or framebuffer reset"
abbrev pub ends : Class → Bool
ends Draw = true
ends Clear = true
ends Dispatch = true
ends Reset = true
ends (Sets t) = false
ends Other = false

-- "the same thing's later setting" stands in the list before any of those
unfoldable pub replaced : Thing → List Command → Bool
replaced x [] = false
replaced x (c ∷ cs) = cond (ends (class_of c)) false (cond (names c x) true (replaced x cs))

abbrev pub replaced_setting : Option Thing → List Command → Bool
replaced_setting None cs = false
replaced_setting (Some x) cs = replaced x cs

-- the command is a setting that what follows it supersedes
abbrev pub superseded : Command → List Command → Bool
superseded c cs = replaced_setting (setting_of (class_of c)) cs

-- the list without these
unfoldable pub trimmed : List Command → List Command
trimmed [] = []
trimmed (c ∷ cs) = cond (superseded c cs) (trimmed cs) (c ∷ trimmed cs)
