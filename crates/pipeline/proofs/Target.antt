-- The commands of the colour targets by place: none, all alike, or one by one. Assumes nothing.
use Prim.Native.Nat.{ℕ, ◌<◌}
use mathlib.Core.Path.{◌≡◌, refl, sym, ap, ◌∙◌, subst}
use mathlib.Core.Bool.{Bool, true, false, ◌&&◌}
use mathlib.Core.List.{List, [], ◌∷◌}
use native.Mathlib.Nat.{zero-add, zero-lt-suc}
use Rattle.std.specs.List.{list_all}
use lib.Pointwise.{pointwise}
use lib.ListN.{length, get_or}
use Rattle.records.specs.Same.{same_color_target}
use Rattle.records.specs.Start.{start_target}
use Rattle.records.specs.declared.command.ColorTargetDesc.{ColorTargetDesc}
use Rattle.records.specs.declared.command.Command.{Command}
use Rattle.records.specs.declared.command.Command.TheVariants.{SetColorTarget}
use Rattle.std.specs.Prelude.{None, Some}
use Rattle.slots.specs.Place.{Stands}
use Rattle.pipeline.specs.Fixed.{same_targets, all_same, each_target, target_commands}
use Rattle.pipeline.specs.Targets.{commands-are, each_long, each_at}
use Rattle.pipeline.proofs.Choice.{alone}

-- where not all are the same as one, there is one
some-there : (l : List ColorTargetDesc) (t : ColorTargetDesc) → all_same t l ≡ false → 0 < length l
unfolding all_same
some-there [] t e = absurd cc
some-there (x ∷ l) t e = zero-lt-suc (length l)

module _ (l : List ColorTargetDesc) where
  pub alike_is : all_same (get_or l 0 start_target) l ≡ true → target_commands l ≡ SetColorTarget None (get_or l 0 start_target) ∷ []
  alike_is e = go l e
    where
      go : (l : List ColorTargetDesc) → all_same (get_or l 0 start_target) l ≡ true → target_commands l ≡ SetColorTarget None (get_or l 0 start_target) ∷ []
      go [] e = refl
      go (x ∷ l) e = commands-are (x ∷ l) start_target (zero-lt-suc (length l)) ∙ rw e

  pub each-is : all_same (get_or l 0 start_target) l ≡ false → target_commands l ≡ each_target 0 l
  each-is e = commands-are l start_target (some-there l (get_or l 0 start_target) e) ∙ rw e

  pub stands_alike : (k : ℕ) → all_same (get_or l 0 start_target) l ≡ true → Stands (SetColorTarget None (get_or l 0 start_target)) k (target_commands l)
  stands_alike k e =
      subst (λ (cs : List Command). Stands (SetColorTarget None (get_or l 0 start_target)) k cs) (sym (alike_is e)) (alone (SetColorTarget None (get_or l 0 start_target)) k)

  pub stands-each : (k : ℕ) → all_same (get_or l 0 start_target) l ≡ false → Stands (SetColorTarget (Some k) (get_or l k start_target)) k (target_commands l)
  stands-each k e = subst (λ (cs : List Command). Stands (SetColorTarget (Some k) (get_or l k start_target)) k cs) (sym (each-is e)) at
    where
      at : Stands (SetColorTarget (Some k) (get_or l k start_target)) k (each_target 0 l)
      at h d =
          ap (λ (n : ℕ). SetColorTarget (Some n) (get_or l k start_target)) (sym (zero-add k))
          ∙ sym (each_at 0 l k start_target d (subst (λ (n : ℕ). k < n) (each_long 0 l) h))

-- lists that are the same element by element, by an equality that is `same_color_target`
pub pointwise_same : (e : ColorTargetDesc → ColorTargetDesc → Bool) → ((x y : ColorTargetDesc) → e x y ≡ same_color_target x y)
    → (xs ys : List ColorTargetDesc) → pointwise e xs ys ≡ same_targets xs ys
unfolding same_targets
pointwise_same e h [] [] = refl
pointwise_same e h [] (y ∷ ys) = refl
pointwise_same e h (x ∷ xs) [] = refl
pointwise_same e h (x ∷ xs) (y ∷ ys) = rw (h x y, pointwise_same e h xs ys)

-- the same, in std's word
pub same-all : (t : ColorTargetDesc) (l : List ColorTargetDesc) → all_same t l ≡ list_all (λ x. same_color_target x t) l
unfolding all_same
same-all t [] = refl
same-all t (x ∷ l) = ap (λ (b : Bool). same_color_target x t && b) (same-all t l)
