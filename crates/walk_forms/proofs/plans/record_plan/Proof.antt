-- By `records-plan` of walks.
use mathlib.Core.Path.{refl}
use Rattle.walks.proofs.Recording.{records-plan}
use Rattle.walk_forms.proofs.Data.{plans}
use Rattle.walk_forms.proofs.plans.batch_of.Symbol as batch
use Rattle.walk_forms.proofs.plans.batch_of.Met as batch_thm
use Rattle.walk_forms.proofs.plans.start_of.Symbol as at
use Rattle.walk_forms.proofs.plans.start_of.Met as at_thm
use Rattle.walk_forms.proofs.plans.length_of.Symbol as count
use Rattle.walk_forms.proofs.plans.length_of.Met as count_thm
use Rattle.walk_forms.proofs.fills.fill.Symbol as filler
use Rattle.walk_forms.proofs.fills.fill.Met as filler_thm
use Rattle.walk_forms.specs.contracts.plans.record_plan.Key as key
use Rattle.walk_forms.proofs.plans.record_plan.Statement.{statement}
use Rattle.walk_forms.proofs.plans.record_plan.Code as code

pub record_plan_spec : {M : Type 1} → statement M
record_plan_spec 𝓤 𝓛 𝓜 𝓡 wired = records-plan plans 𝓛 𝓜 𝓡 𝓡.env key.name batch.name at.name count.name filler.name (code.unfolded 𝓤 𝓛.H 𝓜 𝓡 wired)
    (𝓡.env batch.name) refl (batch_thm.met 𝓤 𝓛 𝓜 𝓡 (code.calls-walk_forms::plans::batch_of 𝓡.env wired))
    (𝓡.env at.name) refl (at_thm.met 𝓤 𝓛 𝓜 𝓡 (code.calls-walk_forms::plans::start_of 𝓡.env wired))
    (𝓡.env count.name) refl (count_thm.met 𝓤 𝓛 𝓜 𝓡 (code.calls-walk_forms::plans::length_of 𝓡.env wired))
    (𝓡.env filler.name) refl (filler_thm.met 𝓤 𝓛 𝓜 𝓡 (code.calls-walk_forms::fills::fill 𝓡.env wired))
