-- The colour targets by place. Assumes nothing.
-- `commands-are`: of targets that are not empty, one command where all are the first, else one each. `each_long`, `each_at`: those commands.
-- `differ`: lists of different lengths are not the same.
use Rattle.std.specs.Prelude.{ℕ, zero, suc, ◌+◌, ◌<◌, ◌≡◌, refl, Bool, true, false, cond, ◌&&◌, List, [], ◌∷◌, length, get_or, None, Some}
use Rattle.std.proofs.Common.{ap, ◌∙◌, not-suc-le-zero, le_of_suc-le-suc, arith}
use Rattle.records.specs.Same.{same_color_target, itself, color-target}
use Rattle.records.specs.Start.{start_target}
use Rattle.records.specs.declared.command.ColorTargetDesc.{ColorTargetDesc}
use Rattle.records.specs.declared.command.Command.{Command}
use Rattle.records.specs.declared.command.Command.TheVariants.{SetColorTarget}
use Rattle.records.specs.declared.pipeline.RenderPipeline.{RenderPipeline}
use Rattle.pipeline.specs.Fixed.{targets_in, same_targets, all_same, each_target, target_commands}

abbrev pub first_target : RenderPipeline → ColorTargetDesc
first_target p = get_or (targets_in p) 0 start_target

-- all targets are the same as the first
abbrev pub all_alike : RenderPipeline → Bool
all_alike p = all_same (first_target p) (targets_in p)

pub each_long : (i : ℕ) (l : List ColorTargetDesc) → length (each_target i l) ≡ length l
unfolding each_target
each_long i [] = refl
each_long i (x ∷ l) = ap suc (each_long (suc i) l)

pub each_at : (i : ℕ) (l : List ColorTargetDesc) (k : ℕ) (t : ColorTargetDesc) (d : Command) → k < length l
    → get_or (each_target i l) k d ≡ SetColorTarget (Some (i + k)) (get_or l k t)
unfolding each_target
each_at i [] k t d h = absurd (not-suc-le-zero h)
each_at i (x ∷ l) zero t d h = ap (λ (n : ℕ). SetColorTarget (Some n) x) (omega arith)
each_at i (x ∷ l) (suc k) t d h = each_at (suc i) l k t d (le_of_suc-le-suc h) ∙ ap (λ (n : ℕ). SetColorTarget (Some n) (get_or l k t)) (omega arith)

pub commands-are : (l : List ColorTargetDesc) (t : ColorTargetDesc) → 0 < length l
    → target_commands l ≡ cond (all_same (get_or l 0 t) l) (SetColorTarget None (get_or l 0 t) ∷ []) (each_target 0 l)
unfolding all_same
commands-are [] t h = absurd (not-suc-le-zero h)
commands-are (x ∷ l) t h = rw (itself color-target x)

pub differ : (xs ys : List ColorTargetDesc) → (length xs ≡ length ys → ⊥) → same_targets xs ys ≡ false
unfolding same_targets
differ [] [] n = absurd (n refl)
differ [] (y ∷ ys) n = refl
differ (x ∷ xs) [] n = refl
differ (x ∷ xs) (y ∷ ys) n = rw (differ xs ys (λ e. n (ap suc e))) (and-false (same_color_target x y))
  where
    and-false : (b : Bool) → b && false ≡ false
    and-false true = refl
    and-false false = refl
