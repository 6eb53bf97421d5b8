-- Lists worked out: what is left of each, and that the rule is the request's at its edges. Assumes nothing.
use Prim.Native.Nat.{ℕ}
use mathlib.Core.Path.{◌≡◌, refl}
use mathlib.Core.Bool.{false}
use mathlib.Core.List.{List, [], ◌∷◌, map}
use lib.IntN.{pos}
use lib.Ieee.{binary32, of_bits}
use lib.ListN.{length}
use Rattle.records.specs.declared.command.Command.{Command}
use Rattle.records.specs.declared.command.Command.TheVariants.{Draw, Dispatch, ClearBuffer, SetIndexBuffer, ResetFramebuffer, ResolveAttachment, SetDrawColorBuffers, ClearStencil}
use Rattle.records.specs.declared.command.Command.TheVariants.{SetViewport, SetScissor, SetDepthBias, SetVertexBuffer, SetProgram, SetBlendConstant, BindSampler}
use Rattle.records.specs.declared.command.Extent3d.{Extent3d}
use Rattle.std.specs.Prelude.{None, Some}
use Rattle.records.specs.declared.command.RectI32.{RectI32}
use Rattle.records.specs.declared.command.TextureView.{TextureView}
use Rattle.records.specs.declared.command.VertexStepMode.TheVariants.{Vertex}
use Rattle.records.specs.declared.outcome.Outcome.{Outcome}
use Rattle.records.specs.declared.outcome.Outcome.TheVariants.{Done, TooMany, OutOfRange, NoRoom}
use Rattle.records.specs.Check.{some?}
use Rattle.records.specs.Outcome.{smallest}
use Rattle.machine.specs.Each.{Each}
use Rattle.lists.specs.declared.limits.Used.{Used}
use Rattle.lists.specs.Limits.{handed, broken_by}
use Rattle.superseding.specs.declared.treat.Treated.{Treated}
use Rattle.superseding.specs.Superseded.{replaced, trimmed}
use Rattle.superseding.specs.Treated.{record_of, answer_by}

-- commands of each kind, told apart by a number
abbrev square : ℕ → RectI32
square n = record { x = pos 0; y = pos 0; w = pos n; h = pos n }

port : ℕ → Command
port n = SetViewport (square n) (record { start = of_bits binary32 0; end = of_bits binary32 0 })

blend : ℕ → Command
blend n = SetBlendConstant (record { r = of_bits binary32 n; g = of_bits binary32 0; b = of_bits binary32 0; a = of_bits binary32 0 })

slot : ℕ → ℕ → Command
slot i n = SetVertexBuffer i (record { raw = n; offset = 0 }) (record { step = Vertex; stride = 4 })

bias : ℕ → Command
bias n = SetDepthBias (record { constant = pos n; slope_scale = 0; clamp = 0 })

shot : Command
shot = Draw 4 0 3 0 1 None

pub record Row : Type 0 where
  pub given : List Command
  pub left : List Command

abbrev row : List Command → List Command → Row
row a b = record { given = a; left = b }

pub rows : List Row
rows =
    -- nothing; the last setting stays, though nothing looks after it
    row [] []
    ∷ row (port 1 ∷ []) (port 1 ∷ [])
    -- a chain of three loses the first two
    ∷ row (port 1 ∷ port 2 ∷ port 3 ∷ shot ∷ []) (port 3 ∷ shot ∷ [])
    -- the same value twice: the earlier goes
    ∷ row (port 1 ∷ port 1 ∷ []) (port 1 ∷ [])
    -- each of the seven kinds
    ∷ row (blend 1 ∷ SetScissor (square 1) ∷ SetIndexBuffer 1 ∷ bias 1 ∷ blend 2 ∷ SetScissor (square 2) ∷ SetIndexBuffer 2 ∷ bias 2 ∷ [])
    (blend 2 ∷ SetScissor (square 2) ∷ SetIndexBuffer 2 ∷ bias 2 ∷ [])
    -- slots and units by their numbers, a slot is no unit, a viewport no scissor
    ∷ row (slot 0 1 ∷ slot 1 1 ∷ slot 0 2 ∷ []) (slot 1 1 ∷ slot 0 2 ∷ [])
    ∷ row (BindSampler 3 None ∷ BindSampler 4 None ∷ BindSampler 3 (Some 1) ∷ []) (BindSampler 4 None ∷ BindSampler 3 (Some 1) ∷ [])
    ∷ row (slot 3 1 ∷ BindSampler 3 None ∷ []) (slot 3 1 ∷ BindSampler 3 None ∷ [])
    ∷ row (port 1 ∷ SetScissor (square 1) ∷ []) (port 1 ∷ SetScissor (square 1) ∷ [])
    -- a draw, a clear, a dispatch, a reset between
    ∷ row (port 1 ∷ shot ∷ port 2 ∷ []) (port 1 ∷ shot ∷ port 2 ∷ [])
    ∷ row (port 1 ∷ ClearStencil 0 ∷ port 2 ∷ []) (port 1 ∷ ClearStencil 0 ∷ port 2 ∷ [])
    ∷ row (port 1 ∷ Dispatch 1 1 1 ∷ port 2 ∷ []) (port 1 ∷ Dispatch 1 1 1 ∷ port 2 ∷ [])
    ∷ row (port 1 ∷ ResetFramebuffer false ∷ port 2 ∷ []) (port 1 ∷ ResetFramebuffer false ∷ port 2 ∷ [])
    -- what is none of these ends nothing: a cleared buffer, a program
    ∷ row (port 1 ∷ ClearBuffer 1 0 (record { start = 0; end = 4 }) ∷ SetProgram 1 ∷ port 2 ∷ []) (ClearBuffer 1 0 (record { start = 0; end = 4 }) ∷ SetProgram 1 ∷ port 2 ∷ [])
    -- other settings stay, though a later one sets the same
    ∷ row (SetProgram 1 ∷ SetProgram 2 ∷ []) (SetProgram 1 ∷ SetProgram 2 ∷ [])
    ∷ []

pub worked : Each (λ (r : Row). trimmed r.given ≡ r.left) rows
unfolding rows port blend slot bias shot trimmed replaced
worked = (refl, (refl, (refl, (refl, (refl, (refl, (refl, (refl, (refl, (refl, (refl, (refl, (refl, (refl, (refl, tt)))))))))))))))

-- a resolve ends nothing, though the scissor cuts its blit (docs/DIFFERENCES.md)
pub resolved : (v : TextureView) (size : Extent3d)
    → trimmed (SetScissor (square 1) ∷ ResolveAttachment 36064 v size ∷ SetScissor (square 2) ∷ []) ≡ ResolveAttachment 36064 v size ∷ SetScissor (square 2) ∷ []
unfolding trimmed replaced
resolved v size = refl

-- ---- answers: a list of three commands, and what is said of it
pub record Asked : Type 0 where
  pub given : List Command
  pub used : ℕ
  pub outcome : Outcome
  pub commands : ℕ

abbrev asked : List Command → ℕ → Outcome → ℕ → Asked
asked cs n o k = record { given = cs; used = n; outcome = o; commands = k }

abbrev used_of : ℕ → Used
used_of n = record { commands = n; bytes = 0; queries = 0 }

pub asks : List Asked
asks =
    asked (port 1 ∷ port 2 ∷ shot ∷ []) 3 Done 2
    -- what lies past the count is not looked at
    ∷ asked (port 1 ∷ port 2 ∷ shot ∷ []) 1 Done 1
    -- 7: more commands than the run has; 3: a slot out of range; 2: more draw buffers than places; of several the smallest
    ∷ asked (port 1 ∷ port 2 ∷ shot ∷ []) 4 NoRoom 4
    ∷ asked (port 1 ∷ slot 16 1 ∷ shot ∷ []) 3 OutOfRange 3
    ∷ asked (port 1 ∷ slot 16 1 ∷ shot ∷ []) 4 OutOfRange 4
    ∷ asked (port 1 ∷ slot 16 1 ∷ SetDrawColorBuffers 9 ∷ []) 3 TooMany 3
    ∷ asked (port 1 ∷ slot 16 1 ∷ SetDrawColorBuffers 9 ∷ []) 4 TooMany 4
    ∷ []

abbrev answer_to : Asked → Treated
answer_to a = let l = handed (map record_of a.given) (used_of a.used) in answer_by (broken_by l) a.used (length (trimmed l.commands))

pub answered : Each (λ (a : Asked). answer_to a ≡ record { outcome = a.outcome; commands = a.commands }) asks
unfolding asks port blend slot bias shot trimmed replaced some? smallest
answered = (refl, (refl, (refl, (refl, (refl, (refl, (refl, tt)))))))
