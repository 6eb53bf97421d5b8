-- What holds of each command that may be put in, and of two lists one behind the other where it holds of both, holds of what is put in. Assumes nothing.
use Prim.Native.Nat.{ℕ, zero, suc, ◌+◌, ◌≤◌, ◌<◌}
use mathlib.Core.Bool.{Bool, true, false, not}
use mathlib.Core.List.{List, [], ◌∷◌, ◌++◌}
use native.Mathlib.Omega.{arith}
use lib.Dec.{eqb}
use Rattle.records.specs.Start.{start_depth_bias}
use Rattle.records.specs.Same.{same_depth_bias}
use Rattle.records.specs.declared.command.Command.{Command}
use Rattle.records.specs.declared.command.Command.TheVariants.{SetDepthBias, SetAlphaToCoverage, SetBlendConstant, BindSampler, SetClipDistances}
use Rattle.std.specs.Prelude.{Option, None, Some}
use Rattle.machine.specs.Machine.{Gl}
use Rattle.joining.specs.Joined.{off, samplers_off, no_color, zero_color, only, resets}

module _ (P : List Command → Type 0) (none : P []) (append : (xs ys : List Command) → P xs → P ys → P (xs ++ ys)) where
  only-by : (t : Bool) (c : Command) → P (c ∷ []) → P (only t c)
  only-by true c h = h
  only-by false c h = none

  off-by : ((u : ℕ) → u < 16 → P (BindSampler u None ∷ [])) → (n u : ℕ) (s : ℕ → Option ℕ) → u + n ≤ 16 → P (samplers_off n u s)
  unfolding samplers_off
  off-by h zero u s l = none
  off-by h (suc n) u s l = append (off u (s u)) (samplers_off n (suc u) s) (unit (s u)) (off-by h n (suc u) s (omega arith))
    where
      unit : (o : Option ℕ) → P (off u o)
      unit None = none
      unit (Some x) = h u (omega arith)

  pub resets-by : ((u : ℕ) → u < 16 → P (BindSampler u None ∷ [])) → P (SetDepthBias start_depth_bias ∷ []) → P (SetBlendConstant no_color ∷ []) → P (SetAlphaToCoverage false ∷ [])
      → ((n : ℕ) → P (SetClipDistances n 0 ∷ [])) → (g : Gl) (n : ℕ) → P (resets g n)
  resets-by units bias blend alpha clip g n =
      append (samplers_off 16 0 g.bindings.samplers) (b ++ (c ++ (a ++ d))) (off-by units 16 0 g.bindings.samplers (omega arith))
      (append b (c ++ (a ++ d)) (only-by (not (same_depth_bias g.fixed.bias start_depth_bias)) (SetDepthBias start_depth_bias) bias)
      (append c (a ++ d) (only-by (not (zero_color g.screen.blend)) (SetBlendConstant no_color) blend)
      (append a d (only-by g.fixed.alpha (SetAlphaToCoverage false) alpha) (only-by (not (eqb n 0)) (SetClipDistances n 0) (clip n)))))
    where
      b : List Command
      b = only (not (same_depth_bias g.fixed.bias start_depth_bias)) (SetDepthBias start_depth_bias)

      c : List Command
      c = only (not (zero_color g.screen.blend)) (SetBlendConstant no_color)

      a : List Command
      a = only g.fixed.alpha (SetAlphaToCoverage false)

      d : List Command
      d = only (not (eqb n 0)) (SetClipDistances n 0)
