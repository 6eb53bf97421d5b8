-- By `folds-first` of list_walks.
use mathlib.Core.Path.{refl, ◌≡◌}
use mir.Syntax.{w32, w64}
use native.Mathlib.Omega.{arith}
use lib.ListN.{length, take}
use Rattle.std.specs.Prelude.{min}
use Rattle.std.proofs.Math.Nat.{min-le_right}
use Rattle.walks.proofs.Args.{uint}
use Rattle.list_walks.specs.Fold.{fold_at}
use Rattle.list_walks.proofs.Folding.{free_fold}
use Rattle.list_walks.proofs.FoldingFirst.{First, folds-first}
use Rattle.walk_forms.proofs.Data.{element}
use Rattle.walk_forms.specs.Steps.{newest}
use Rattle.walk_forms.proofs.folds.upto.Symbol as upto
use Rattle.walk_forms.proofs.folds.upto.Met as upto_thm
use Rattle.walk_forms.proofs.folds.begin.Symbol as begin
use Rattle.walk_forms.proofs.folds.begin.Met as begin_thm
use Rattle.walk_forms.proofs.folds.fold.Symbol as fold
use Rattle.walk_forms.proofs.folds.fold.Met as fold_thm
use Rattle.walk_forms.specs.contracts.folds.first.Key as key
use Rattle.walk_forms.proofs.folds.first.Statement.{statement}
use Rattle.walk_forms.proofs.folds.first.Code as code

abbrev over_first : First element (uint w64) (uint w32)
over_first = record {
  fold = free_fold element (uint w32) newest;
  to = min;
  start = λ x len. 0;
  fits = λ l x. (omega arith, min-le_right x (length l));
  Done = λ l x r. r ≡ fold_at newest 0 0 (take (min x (length l)) l);
  does = λ l x. refl;
}

pub first_spec : {M : Type 1} → statement M
first_spec 𝓤 𝓛 𝓜 𝓡 wired = folds-first element (uint w64) (uint w32) over_first (record { to = upto.name; start = begin.name; fold = fold.name }) 𝓛 𝓜 𝓡 𝓡.env key.name
    (code.unfolded 𝓤 𝓛.H 𝓜 𝓡 wired)
    (𝓡.env upto.name) refl (upto_thm.met 𝓤 𝓛 𝓜 𝓡 (code.calls-walk_forms::folds::upto 𝓡.env wired))
    (𝓡.env begin.name) refl (begin_thm.met 𝓤 𝓛 𝓜 𝓡 (code.calls-walk_forms::folds::begin 𝓡.env wired))
    (𝓡.env fold.name) refl (fold_thm.met 𝓤 𝓛 𝓜 𝓡 (code.calls-walk_forms::folds::fold 𝓡.env wired))
