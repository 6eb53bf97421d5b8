-- By `folds-ok` of list_walks.
use mathlib.Core.Path.{refl}
use mir.Syntax.{w64}
use Prim.Native.Nat.{◌+◌, ◌≤◌, ◌<◌, ◌^◌}
use native.Mathlib.Omega.{arith}
use Rattle.walks.proofs.Args.{uint}
use Rattle.walk_forms.proofs.Data.{element}
use Rattle.walk_forms.specs.Steps.{counted}
use Rattle.list_walks.proofs.Folding.{folds-ok}
use Rattle.walk_forms.proofs.folds.count.Symbol as count
use Rattle.walk_forms.proofs.folds.count.Met as count_thm
use Rattle.walk_forms.specs.contracts.folds.count_between.Key as key
use Rattle.walk_forms.proofs.folds.count_between.Statement.{statement}
use Rattle.walk_forms.proofs.folds.count_between.Code as code

pub count_between_spec : {M : Type 1} → statement M
count_between_spec 𝓤 𝓛 𝓜 𝓡 wired = folds-ok element (uint w64) (λ i a. a ≤ i) (λ i a. a + 1 < 2 ^ 64) counted
    (λ i a y h. omega (arith, h)) (λ i a h less. omega (arith, h, less)) 𝓛 𝓜 𝓡 𝓡.env key.name count.name (code.unfolded 𝓤 𝓛.H 𝓜 𝓡 wired)
    (𝓡.env count.name) refl (count_thm.met 𝓤 𝓛 𝓜 𝓡 (code.calls-walk_forms::folds::count 𝓡.env wired))
