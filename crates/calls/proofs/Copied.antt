-- A list whose first n elements are copied into a run, said by place. Assumes nothing.
use Rattle.std.proofs.Common.{◌≡◌, sym, ap, ◌∙◌, ℕ, ◌+◌, ◌<◌, ◌≤◌, List, ◌++◌, length, get_or, take, drop}
use Rattle.std.proofs.lemmas.List.{drop-drop}
use mathlib.Core.List.{append_assoc}
use Rattle.walks.specs.Fill.{filled, firsts}
use Rattle.walks.proofs.Filled.{filled_is}
use Rattle.calls.proofs.Listed.{firsts-are, map_same}

module _ {X : Type 0} (f : ℕ → X) (run ys : List X) (none : X) (at n : ℕ) where
  pub copied : at + n ≤ length run → n ≤ length ys → ((i : ℕ) → i < n → f i ≡ get_or ys i none) → filled f run at n ≡ take at run ++ (take n ys ++ drop n (drop at run))
  copied fits long e =
      let all : firsts f n ≡ take n ys = firsts-are (λ x. x) f ys none n long e ∙ map_same (take n ys) in
      filled_is f run at n fits ∙ append_assoc (take at run) _ _ ∙ ap (λ (l : List X). take at run ++ (l ++ drop (at + n) run)) all ∙ ap (λ (l : List X). take at run ++ (take n ys ++ l)) (sym (drop-drop n at run))
