-- The machine worked out on short lists of commands, each beside the sentence that it shows. Assumes nothing.
use Prim.Native.Nat.{ℕ}
use mathlib.Core.Path.{◌≡◌, refl}
use mathlib.Core.Bool.{true, false}
use mathlib.Core.List.{List, [], ◌∷◌, map}
use Rattle.std.specs.Prelude.{Option, None, Some}
use lib.IntN.{pos}
use Rattle.tables.specs.Tabulate.{tabulate}
use Rattle.records.specs.declared.command.ColorTargetDesc.{ColorTargetDesc}
use Rattle.records.specs.declared.command.Command.{Command}
use Rattle.records.specs.declared.command.Command.TheVariants.{BindSampler, DispatchIndirect, Draw, ResetFramebuffer, SetClipDistances, SetColorTarget, SetDepthBias, SetStencilFunc}
use Rattle.records.specs.declared.command.DepthBiasState.{DepthBiasState}
use Rattle.machine.specs.View.{StencilFunc}
use Rattle.machine.specs.Machine.{Gl, Shot, fresh, play}

abbrev after : List Command → Gl
after l = (play fresh l).gl

-- ---- "On a fresh machine nothing is bound, bias .. zero, colour targets are 15 without blend, alpha to coverage is off, and no clip distance is on"
abbrev bias : ℕ → DepthBiasState
bias n = record { constant = pos n; slope_scale = 0; clamp = 0 }

fresh-bias : (after []).fixed.bias ≡ bias 0
fresh-bias = refl

-- ---- "A setting command overwrites the thing it names"
bias-set : (after (SetDepthBias (bias 3) ∷ SetDepthBias (bias 5) ∷ [])).fixed.bias ≡ bias 5
bias-set = refl

sampler-set : tabulate 3 (after (BindSampler 1 (Some 9) ∷ BindSampler 2 (Some 8) ∷ BindSampler 2 None ∷ [])).bindings.samplers ≡ None ∷ Some 9 ∷ None ∷ []
unfolding tabulate
sampler-set = refl

-- a target by its number, and without a number all of them
abbrev target : ℕ → ColorTargetDesc
target mask = record { mask = mask; blend = None }

one-target : tabulate 3 (after (SetColorTarget (Some 1) (target 3) ∷ [])).fixed.target ≡ target 15 ∷ target 3 ∷ target 15 ∷ []
unfolding tabulate
one-target = refl

all-targets : tabulate 3 (after (SetColorTarget None (target 3) ∷ [])).fixed.target ≡ target 3 ∷ target 3 ∷ target 3 ∷ []
unfolding tabulate
all-targets = refl

-- OpenGL ES 3.2, 15.1.2: GL_FRONT 1028, GL_BACK 1029, FRONT_AND_BACK 1032
abbrev func : ℕ → Option StencilFunc
func n = Some (record { function = 519; reference = n; read = 255 })

abbrev faces : List Command → List (Option StencilFunc)
faces l = (after l).faces.front ∷ (after l).faces.back ∷ []

front-face : faces (SetStencilFunc 1028 519 1 255 ∷ []) ≡ func 1 ∷ None ∷ []
front-face = refl

back-face : faces (SetStencilFunc 1032 519 1 255 ∷ SetStencilFunc 1029 519 2 255 ∷ []) ≡ func 1 ∷ func 2 ∷ []
back-face = refl

-- the clip distances from the old count up to the new one are turned on, those from the new one up to the old one off
clip-up-and-down : tabulate 4 (after (SetClipDistances 0 3 ∷ SetClipDistances 3 1 ∷ [])).fixed.clip ≡ true ∷ false ∷ false ∷ false ∷ []
unfolding tabulate
clip-up-and-down = refl

-- "other commands nothing"
dispatch-sets-nothing : play fresh (DispatchIndirect 7 0 ∷ []) ≡ fresh
dispatch-sets-nothing = refl

-- ---- the draws that are noted are those of the first render pass
abbrev drawn : ℕ → Command
drawn n = Draw 4 0 n 0 1 None

first-pass : map (λ (s : Shot). s.command) (play fresh (drawn 1 ∷ ResetFramebuffer false ∷ drawn 2 ∷ drawn 3 ∷ ResetFramebuffer false ∷ drawn 4 ∷ [])).shots ≡ drawn 2 ∷ drawn 3 ∷ []
first-pass = refl
