-- The loop of `picked`. Assumes nothing.
use Prim.Native.Nat.{ℕ, ◌+◌, ◌<◌}
use mathlib.Core.Path.{◌≡◌, refl, sym, ap, ◌∙◌}
use mathlib.Core.Bool.{Bool, true, false, cond}
use mathlib.Core.List.{List, [], ◌∷◌, ◌++◌, append-nil}
use native.Mathlib.Omega.{arith}
use native.Mathlib.Numerals.{add-one}
use lib.ListN.{length, take, get_or, set}
use lib.Seq.{take-suc, take-suc-set, take-set-le}
use Rattle.records.specs.declared.command.ImmediateDesc.{ImmediateDesc}
use Rattle.bindings.specs.Immediates.{filter}

-- what a last descriptor adds
abbrev sent_last : (ImmediateDesc → Bool) → ImmediateDesc → List ImmediateDesc
sent_last f d = cond (f d) (d ∷ []) []

filter-snoc : (f : ImmediateDesc → Bool) (l : List ImmediateDesc) (d : ImmediateDesc) → filter f (l ++ (d ∷ [])) ≡ filter f l ++ sent_last f d
unfolding filter
filter-snoc f [] d = refl
filter-snoc f (x ∷ l) d = go (f x) (filter-snoc f l d)
  where
    go : (t : Bool) → filter f (l ++ (d ∷ [])) ≡ filter f l ++ sent_last f d
        → cond t (x ∷ filter f (l ++ (d ∷ []))) (filter f (l ++ (d ∷ []))) ≡ cond t (x ∷ filter f l) (filter f l) ++ sent_last f d
    go true e = ap (λ (m : List ImmediateDesc). x ∷ m) e
    go false e = e

-- one more descriptor is looked at: it is written behind those kept, and counted where it is sent
pub kept_more : (f : ImmediateDesc → Bool) (kept descs : List ImmediateDesc) (k j : ℕ) (none : ImmediateDesc)
    → k < length kept → j < length descs → take k kept ≡ filter f (take j descs)
    → take (k + cond (f (get_or descs j none)) 1 0) (set kept k (get_or descs j none)) ≡ filter f (take (j + 1) descs)
kept_more f kept descs k j none h l e =
    go (f d) refl ∙ sym (ap (λ (n : ℕ). filter f (take n descs)) (add-one j) ∙ ap (filter f) (take-suc descs j none l) ∙ filter-snoc f (take j descs) d)
  where
    d : ImmediateDesc
    d = get_or descs j none

    zero+ : (k : ℕ) → k + 0 ≡ k
    zero+ k = omega arith

    sure : (t : Bool) → f d ≡ t → filter f (take j descs) ++ sent_last f d ≡ filter f (take j descs) ++ cond t (d ∷ []) []
    sure t q = ap (λ (t : Bool). filter f (take j descs) ++ cond t (d ∷ []) []) q

    go : (t : Bool) → f d ≡ t → take (k + cond t 1 0) (set kept k d) ≡ filter f (take j descs) ++ sent_last f d
    go true q = ap (λ (n : ℕ). take n (set kept k d)) (add-one k) ∙ take-suc-set kept k d h ∙ ap (λ (m : List ImmediateDesc). m ++ (d ∷ [])) e ∙ sym (sure true q)
    go false q = ap (λ (n : ℕ). take n (set kept k d)) (zero+ k) ∙ take-set-le k kept k d (omega arith) ∙ e ∙ sym (append-nil (filter f (take j descs))) ∙ sym (sure false q)
