-- The request's sentences of what `join` hands back: document 02, request 14. Definitions only.
use Rattle.std.specs.Prelude.{ℕ, ◌+◌, ◌≤◌, ◌≡◌, Bool, true, false, cond, ◌||◌, List, [], ◌∷◌, ◌++◌, ltb, length, drop}
use Rattle.list_walks.specs.Fold.{part}
use Rattle.records.specs.declared.command.Command.{Command}
use Rattle.records.specs.declared.command.Command.TheVariants.{Draw, DrawIndexed, DrawIndirect, DrawIndexedIndirect, Dispatch, DispatchIndirect, ClearBuffer, CopyBufferToBuffer}
use Rattle.records.specs.declared.command.Command.TheVariants.{SetIndexBuffer, BeginQuery, EndQuery, TimestampQuery, CopyQueryResults, ResetFramebuffer, BindAttachment}
use Rattle.records.specs.declared.command.Command.TheVariants.{ResolveAttachment, InvalidateAttachments, SetDrawColorBuffers, ClearColorF, ClearColorU, ClearColorI, ClearDepth}
use Rattle.records.specs.declared.command.Command.TheVariants.{ClearStencil, ClearDepthAndStencil, BufferBarrier, TextureBarrier, SetViewport, SetScissor, SetStencilFunc}
use Rattle.records.specs.declared.command.Command.TheVariants.{SetStencilOps, SetDepth, SetDepthBias, ConfigureDepthStencil, SetAlphaToCoverage, SetVertexAttribute}
use Rattle.records.specs.declared.command.Command.TheVariants.{UnsetVertexAttribute, SetVertexBuffer, SetProgram, SetPrimitive, SetBlendConstant, SetColorTarget, BindBuffer}
use Rattle.records.specs.declared.command.Command.TheVariants.{BindSampler, BindTexture, BindImage, PushDebugGroup, PopDebugGroup, SetImmediates, SetClipDistances}
use Rattle.machine.specs.Machine.{Gl, fresh_gl}
use Rattle.lists.specs.Class.{class_of, draws}
use Rattle.lists.specs.Clips.{chained}
use Rattle.lists.specs.Limits.{broken}
use Rattle.lists.specs.Shots.{settings_after}
use Rattle.lists.specs.Things.{BindingThing, buffer, texture, image, sampler, index_buffer, ScreenThing, viewport, scissor, blend_constants}
use Rattle.lists.specs.Things.{FixedThing, program, primitive, depth_bias, alpha_to_coverage, depth_stencil, depth, target, clip_distance}
use Rattle.lists.specs.Things.{Thing, vertex, binding, screen, fixed, face, Same, named}
use Rattle.joining.specs.declared.plan.Joining.{Joining}
use Rattle.joining.specs.declared.plan.Joining.TheVariants.{Done}
use Rattle.joining.specs.Joined.{Listed, end_of, put_in, joined}
use Rattle.joining.specs.Joins.{Lent, list_of, size_of, number, broken_in, total_of, too_long, too_small, Joins}

-- ---- "those five": samplers of the units 0 to 15, depth bias, blend constants, alpha to coverage, clip distances
abbrev pub five_binding : BindingThing → Bool
five_binding (buffer t i) = false
five_binding (texture i) = false
five_binding (image i) = false
five_binding (sampler u) = ltb u 16
five_binding index_buffer = false

abbrev pub five_screen : ScreenThing → Bool
five_screen viewport = false
five_screen scissor = false
five_screen blend_constants = true

abbrev pub five_fixed : FixedThing → Bool
five_fixed program = false
five_fixed primitive = false
five_fixed depth_bias = true
five_fixed alpha_to_coverage = true
five_fixed depth_stencil = false
five_fixed depth = false
five_fixed (target i) = false
five_fixed (clip_distance i) = true

abbrev pub five : Thing → Bool
five (vertex x) = false
five (binding x) = five_binding x
five (screen x) = five_screen x
five (fixed x) = five_fixed x
five (face x) = false

-- ---- the draws of a list: what stood before each, its command, what it finds
pub record Found : Type 0 where
  pub before : List Command
  pub command : Command
  pub gl : Gl

unfoldable pub founds : List Command → Gl → List Command → List Found
founds past g [] = []
founds past g (c ∷ cs) =
    cond (draws (class_of c)) (record { before = past; command = c; gl = g } ∷ founds (past ++ (c ∷ [])) (settings_after g c) cs)
    (founds (past ++ (c ∷ [])) (settings_after g c) cs)

-- "Each draw of the second finds what it found alone, for the things its own list sets before it and those five"
abbrev pub Alone : List Found → List Found → Type 0
Alone [] [] = Unit {0}
Alone [] (y ∷ ys) = ⊥
Alone (x ∷ xs) [] = ⊥
Alone (x ∷ xs) (y ∷ ys) = (x.command ≡ y.command) × ((t : Thing) → named x.before t || five t ≡ true → Same t x.gl y.gl) × Alone xs ys

-- the joined list has the first's draws as they were, and then the second's
abbrev pub FirstThenAlone : List Command → List Command → List Command → Type 0
FirstThenAlone xs ys zs = (fs : List Found) × ((founds [] fresh_gl zs ≡ founds [] fresh_gl xs ++ fs) × Alone (founds [] fresh_gl ys) fs)

-- ---- "its marker, immediate and query ranges moved": what each command reads of marker bytes and queries is what it was
-- a label's bytes, an immediate's words, the queries of a copy
abbrev pub read_by : Listed → Command → List (List ℕ)
read_by l (Draw t fv vc fi ic loc) = []
read_by l (DrawIndexed t ty n o bv fi ic loc) = []
read_by l (DrawIndirect t raw o loc) = []
read_by l (DrawIndexedIndirect t ty raw o loc) = []
read_by l (Dispatch a b c) = []
read_by l (DispatchIndirect raw o) = []
read_by l (ClearBuffer raw t r) = []
read_by l (CopyBufferToBuffer a b c d e) = []
read_by l (SetIndexBuffer raw) = []
read_by l (BeginQuery q t) = []
read_by l (EndQuery t) = []
read_by l (TimestampQuery q) = []
read_by l (CopyQueryResults r dst t o) = part l.queries r.start r.end ∷ []
read_by l (ResetFramebuffer d) = []
read_by l (BindAttachment a v d s) = []
read_by l (ResolveAttachment a v s) = []
read_by l (InvalidateAttachments s) = []
read_by l (SetDrawColorBuffers n) = []
read_by l (ClearColorF n c) = []
read_by l (ClearColorU n c) = []
read_by l (ClearColorI n c) = []
read_by l (ClearDepth d) = []
read_by l (ClearStencil s) = []
read_by l (ClearDepthAndStencil d s) = []
read_by l (BufferBarrier b u) = []
read_by l (TextureBarrier u) = []
read_by l (SetViewport r d) = []
read_by l (SetScissor r) = []
read_by l (SetStencilFunc at function r n) = []
read_by l (SetStencilOps at w o) = []
read_by l (SetDepth d) = []
read_by l (SetDepthBias d) = []
read_by l (ConfigureDepthStencil a) = []
read_by l (SetAlphaToCoverage a) = []
read_by l (SetVertexAttribute b d a) = []
read_by l (UnsetVertexAttribute loc) = []
read_by l (SetVertexBuffer i b d) = []
read_by l (SetProgram p) = []
read_by l (SetPrimitive p) = []
read_by l (SetBlendConstant c) = []
read_by l (SetColorTarget i t) = []
read_by l (BindBuffer ta i b o s) = []
read_by l (BindSampler u s) = []
read_by l (BindTexture i te ta a mips) = []
read_by l (BindImage i x) = []
read_by l (PushDebugGroup r) = part l.bytes r.start r.end ∷ []
read_by l PopDebugGroup = []
read_by l (SetImmediates d o) = part l.bytes o (o + d.size_bytes) ∷ []
read_by l (SetClipDistances old n) = []

unfoldable pub reads : Listed → List Command → List (List ℕ)
reads l [] = []
reads l (c ∷ cs) = read_by l c ++ reads l cs

abbrev pub reads_of : Listed → List (List ℕ)
reads_of l = reads l l.commands

-- ---- "Only settings that differ .. from those values at the first's end are put in"
abbrev pub is_clip : Thing → Bool
is_clip (vertex x) = false
is_clip (binding x) = false
is_clip (screen x) = false
is_clip (fixed program) = false
is_clip (fixed primitive) = false
is_clip (fixed depth_bias) = false
is_clip (fixed alpha_to_coverage) = false
is_clip (fixed depth_stencil) = false
is_clip (fixed depth) = false
is_clip (fixed (target i)) = false
is_clip (fixed (clip_distance i)) = true
is_clip (face x) = false

-- one of the five that is not as on a fresh machine is put in, and no other. Of clip distances the second holds where each old count is the count before (Bounded.antt)
pub record OnlyDiffering (cs : List Command) : Type 0 where
  pub every : (t : Thing) → five t ≡ true → named (put_in cs) t ≡ false → Same t (end_of cs) fresh_gl
  pub only : (t : Thing) → five t ≡ true → (is_clip t ≡ true → chained 0 cs ≡ true) → named (put_in cs) t ≡ true → Same t (end_of cs) fresh_gl → ⊥

-- ---- the answer: the numbers in their order, each with its condition
pub record Condition : Type 0 where
  pub number : ℕ
  pub holds : Bool

unfoldable pub first_of : List Condition → ℕ
first_of [] = 0
first_of (c ∷ cs) = cond c.holds c.number (first_of cs)

abbrev pub conditions_of : Lent → Lent → List Condition
conditions_of a b =
    record { number = 2; holds = (broken_in a).many || (broken_in b).many }
    ∷ record { number = 3; holds = (broken_in a).range || (broken_in b).range }
    ∷ record { number = 16; holds = too_long (total_of a b) }
    ∷ record { number = 7; holds = too_small a b (total_of a b) }
    ∷ []

-- ---- the sentences, of the runs a and b that are handed in, the first's runs a' afterwards, and the answer o
pub record Promised (a b a' : Lent) (o : Joining) : Type 0 where
  -- "Answers: 16 ..; it comes before 7", and 2 and 3 before both
  pub answered : number o ≡ first_of (conditions_of a b)
  -- "both before anything is written": every run and count is as it was
  pub away : (o ≡ Done → ⊥) → a' ≡ a
  -- "the first, then what sets .., then the second with its .. ranges moved"
  pub joins : o ≡ Done → (list_of a' ≡ joined (list_of a) (list_of b)) × (a'.used ≡ size_of (joined (list_of a) (list_of b)))
  -- behind the list the runs are as they were
  pub rest : (drop a'.used.commands a'.list ≡ drop a'.used.commands a.list)
      × (drop a'.used.bytes a'.bytes ≡ drop a'.used.bytes a.bytes) × (drop a'.used.queries a'.queries ≡ drop a'.used.queries a.queries)
  -- "Each draw of the second finds what it found alone, for the things its own list sets before it and those five"
  pub draws : o ≡ Done → FirstThenAlone (list_of a).commands (list_of b).commands (list_of a').commands
  -- each label, immediate and copy reads what it read
  pub ranges : o ≡ Done → reads_of (list_of a') ≡ reads_of (list_of a) ++ reads_of (list_of b)
  -- "Only settings that differ .. are put in"
  pub differing : OnlyDiffering (list_of a).commands
  -- it may be handed in again
  pub within : o ≡ Done → broken (broken_in a') ≡ false

-- ---- "Joining three lists gives every draw the same either way they are bracketed"
-- a list fits into runs
abbrev pub FitsIn : Listed → Lent → Type 0
FitsIn j a = (length j.commands ≤ length a.list) × (length j.bytes ≤ length a.bytes) × (length j.queries ≤ length a.queries)

-- both joins of a way are carried out
abbrev pub BothDone : Joining → Joining → Type 0
BothDone o p = (o ≡ Done) × (p ≡ Done)

-- (a b) c leaves abc in the first's runs, a (b c) leaves abc': if the latter way is carried out so is the former; if the former is so is the latter where the second's runs hold b and c joined;
-- and then all runs and counts are the same
abbrev pub Bracketed : Type 0
Bracketed =
    (a b c ab abc bc abc' : Lent) (o o' p p' : Joining) → Joins a b ab o → Joins ab c abc o' → Joins b c bc p → Joins a bc abc' p'
    → (BothDone p p' → BothDone o o') × (FitsIn (joined (list_of b) (list_of c)) b → BothDone o o' → BothDone p p') × (BothDone o o' → BothDone p p' → abc ≡ abc')
