-- By `fills` of walks.
use mathlib.Core.Path.{refl}
use Rattle.walks.proofs.Filling.{fills}
use Rattle.walk_forms.specs.Filled.{number_at, NumberFits}
use Rattle.walk_forms.proofs.Data.{batch, kinds_of}
use Rattle.walk_forms.proofs.fills.number.Symbol as number
use Rattle.walk_forms.proofs.fills.number.Met as number_thm
use Rattle.walk_forms.specs.contracts.fills.fill.Key as key
use Rattle.walk_forms.proofs.fills.fill.Statement.{statement}
use Rattle.walk_forms.proofs.fills.fill.Code as code

pub fill_spec : {M : Type 1} → statement M
fill_spec 𝓤 𝓛 𝓜 𝓡 wired = fills (kinds_of batch) NumberFits number_at 𝓛 𝓜 𝓡 𝓡.env key.name number.name (code.unfolded 𝓤 𝓛.H 𝓜 𝓡 wired)
    (𝓡.env number.name) refl (number_thm.met 𝓤 𝓛 𝓜 𝓡 (code.calls-walk_forms::fills::number 𝓡.env wired))
