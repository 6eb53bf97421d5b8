-- By `retains` of list_walks.
use mathlib.Core.Path.{refl}
use Rattle.walk_forms.proofs.Data.{element}
use Rattle.walk_forms.specs.Steps.{kept}
use Rattle.list_walks.proofs.Retaining.{retains}
use Rattle.walk_forms.proofs.writes.keeps.Symbol as keeps
use Rattle.walk_forms.proofs.writes.keeps.Met as keeps_thm
use Rattle.walk_forms.specs.contracts.writes.retain.Key as key
use Rattle.walk_forms.proofs.writes.retain.Statement.{statement}
use Rattle.walk_forms.proofs.writes.retain.Code as code

pub retain_spec : {M : Type 1} → statement M
retain_spec 𝓤 𝓛 𝓜 𝓡 wired = retains element kept 𝓛 𝓜 𝓡 𝓡.env key.name keeps.name (code.unfolded 𝓤 𝓛.H 𝓜 𝓡 wired)
    (𝓡.env keeps.name) refl (keeps_thm.met 𝓤 𝓛 𝓜 𝓡 (code.calls-walk_forms::writes::keeps 𝓡.env wired))
