-- By `folds` of list_walks.
use mathlib.Core.Path.{refl}
use mir.Syntax.{w32}
use Rattle.walks.proofs.Args.{uint}
use Rattle.walk_forms.proofs.Data.{element}
use Rattle.walk_forms.specs.Steps.{newest}
use Rattle.list_walks.proofs.Folding.{folds}
use Rattle.walk_forms.proofs.folds.step.Symbol as step
use Rattle.walk_forms.proofs.folds.step.Met as step_thm
use Rattle.walk_forms.specs.contracts.folds.fold.Key as key
use Rattle.walk_forms.proofs.folds.fold.Statement.{statement}
use Rattle.walk_forms.proofs.folds.fold.Code as code

pub fold_spec : {M : Type 1} → statement M
fold_spec 𝓤 𝓛 𝓜 𝓡 wired = folds element (uint w32) newest 𝓛 𝓜 𝓡 𝓡.env key.name step.name (code.unfolded 𝓤 𝓛.H 𝓜 𝓡 wired)
    (𝓡.env step.name) refl (step_thm.met 𝓤 𝓛 𝓜 𝓡 (code.calls-walk_forms::folds::step 𝓡.env wired))
