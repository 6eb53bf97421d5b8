-- By `records-plan-from` of walks.
use mathlib.Core.Path.{refl}
use mir.Syntax.{w32}
use Rattle.walks.proofs.RecordingFrom.{records-plan-from}
use Rattle.walk_forms.proofs.Data.{plans_from}
use Rattle.walk_forms.proofs.plans.window_of.Symbol as window
use Rattle.walk_forms.proofs.plans.window_of.Met as window_thm
use Rattle.walk_forms.proofs.fills.at_of.Symbol as at
use Rattle.walk_forms.proofs.fills.at_of.Met as at_thm
use Rattle.walk_forms.proofs.fills.count_of.Symbol as count
use Rattle.walk_forms.proofs.fills.count_of.Met as count_thm
use Rattle.walk_forms.proofs.fills.fill_from.Symbol as filler
use Rattle.walk_forms.proofs.fills.fill_from.Met as filler_thm
use Rattle.walk_forms.specs.contracts.plans.record_from.Key as key
use Rattle.walk_forms.proofs.plans.record_from.Statement.{statement}
use Rattle.walk_forms.proofs.plans.record_from.Code as code

pub record_from_spec : {M : Type 1} → statement M
record_from_spec 𝓤 𝓛 𝓜 𝓡 wired = records-plan-from plans_from w32 𝓛 𝓜 𝓡 𝓡.env key.name window.name at.name count.name filler.name (code.unfolded 𝓤 𝓛.H 𝓜 𝓡 wired)
    (𝓡.env window.name) refl (window_thm.met 𝓤 𝓛 𝓜 𝓡 (code.calls-walk_forms::plans::window_of 𝓡.env wired))
    (𝓡.env at.name) refl (at_thm.met 𝓤 𝓛 𝓜 𝓡 (code.calls-walk_forms::fills::at_of 𝓡.env wired))
    (𝓡.env count.name) refl (count_thm.met 𝓤 𝓛 𝓜 𝓡 (code.calls-walk_forms::fills::count_of 𝓡.env wired))
    (𝓡.env filler.name) refl (filler_thm.met 𝓤 𝓛 𝓜 𝓡 (code.calls-walk_forms::fills::fill_from 𝓡.env wired))
