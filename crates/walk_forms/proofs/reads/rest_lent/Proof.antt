-- By `looks-lent` of list_walks.
use mathlib.Core.Path.{refl, ◌≡◌}
use mir.Syntax.{w64}
use Prim.Native.Nat.{◌-◌}
use lib.ListN.{length}
use Rattle.walks.proofs.Args.{uint}
use Rattle.walk_forms.proofs.Data.{element}
use Rattle.list_walks.proofs.Looking.{looks-lent}
use Rattle.walk_forms.proofs.reads.rest.Symbol as rest
use Rattle.walk_forms.proofs.reads.rest.Met as rest_thm
use Rattle.walk_forms.specs.contracts.reads.rest_lent.Key as key
use Rattle.walk_forms.proofs.reads.rest_lent.Statement.{statement}
use Rattle.walk_forms.proofs.reads.rest_lent.Code as code

pub rest_lent_spec : {M : Type 1} → statement M
rest_lent_spec 𝓤 𝓛 𝓜 𝓡 wired = looks-lent element.R (uint w64) (uint w64) (λ l x r. r ≡ length l - x) 𝓛 𝓜 𝓡 𝓡.env key.name rest.name (code.unfolded 𝓤 𝓛.H 𝓜 𝓡 wired)
    (𝓡.env rest.name) refl (rest_thm.met 𝓤 𝓛 𝓜 𝓡 (code.calls-walk_forms::reads::rest 𝓡.env wired))
