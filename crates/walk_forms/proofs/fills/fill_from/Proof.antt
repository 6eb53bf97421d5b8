-- By `fills-from` of walks.
use mathlib.Core.Path.{refl}
use mir.Syntax.{w32}
use Rattle.walks.proofs.FillingFrom.{fills-from}
use Rattle.walk_forms.specs.Filled.{read_at, ReadFits}
use Rattle.walk_forms.proofs.Data.{window, kinds_of}
use Rattle.walk_forms.proofs.fills.read.Symbol as read
use Rattle.walk_forms.proofs.fills.read.Met as read_thm
use Rattle.walk_forms.specs.contracts.fills.fill_from.Key as key
use Rattle.walk_forms.proofs.fills.fill_from.Statement.{statement}
use Rattle.walk_forms.proofs.fills.fill_from.Code as code

pub fill_from_spec : {M : Type 1} → statement M
fill_from_spec 𝓤 𝓛 𝓜 𝓡 wired = fills-from (kinds_of window) w32 ReadFits read_at 𝓛 𝓜 𝓡 𝓡.env key.name read.name (code.unfolded 𝓤 𝓛.H 𝓜 𝓡 wired)
    (𝓡.env read.name) refl (read_thm.met 𝓤 𝓛 𝓜 𝓡 (code.calls-walk_forms::fills::read 𝓡.env wired))
