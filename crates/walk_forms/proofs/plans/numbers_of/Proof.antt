-- By `reads` of walks.
use lib.ListN.{length, get_or}
use mathlib.Core.List.{[], ◌∷◌}
use mathlib.Core.Path.{◌≡◌, refl, sym, ◌∙◌, ap, subst}
use mir.Syntax.{w32, w64}
use Rattle.walk_forms.proofs.Data.{plans, answers}
use Rattle.walk_forms.proofs.Fitting.{plan_fits}
use Rattle.walk_forms.specs.Planned.{planned, answer_of, laid}
use Rattle.walks.proofs.Args.{uint}
use Rattle.walks.proofs.Recording.{Plan, Fits}
use Rattle.walks.proofs.Reading.{reads}
use Rattle.walk_forms.proofs.plans.plan_set.Symbol as plan
use Rattle.walk_forms.proofs.plans.plan_set.Met as plan_thm
use Rattle.walk_forms.proofs.plans.record_plan.Symbol as recorder
use Rattle.walk_forms.proofs.plans.record_plan.Met as recorder_thm
use Rattle.walk_forms.proofs.plans.answer_to.Symbol as answer
use Rattle.walk_forms.proofs.plans.answer_to.Met as answer_thm
use Rattle.walk_forms.specs.contracts.plans.numbers_of.Key as key
use Rattle.walk_forms.proofs.plans.numbers_of.Statement.{statement}
use Rattle.walk_forms.proofs.plans.numbers_of.Code as code

pub numbers_of_spec : {M : Type 1} → statement M
numbers_of_spec 𝓤 𝓛 𝓜 𝓡 wired = reads plans answers w32 (uint w64 ∷ []) (uint w64 ∷ []) (λ ns n d p. p ≡ planned n (get_or ns d.0 0) d.1.0 d.1.1.0)
    (λ ys ns d zs r. (r ≡ answer_of (planned (length ys) (get_or ns d.0 0) d.1.0 d.1.1.0) d.1.0) × (zs ≡ laid (planned (length ys) (get_or ns d.0 0) d.1.0 d.1.1.0) ys))
    (λ ns n d p e. subst (λ (x : Plan plans). Fits plans x n) (sym e) (plan_fits n (get_or ns d.0 0) d.1.0 d.1.1.0))
    (λ ys ns d zs r p e h. (h.0 ∙ ap (λ (x : Plan plans). answer_of x d.1.0) e, h.1 ∙ ap (λ (x : Plan plans). laid x ys) e))
    𝓛 𝓜 𝓡 𝓡.env key.name plan.name recorder.name answer.name (code.unfolded 𝓤 𝓛.H 𝓜 𝓡 wired)
    (𝓡.env plan.name) refl (plan_thm.met 𝓤 𝓛 𝓜 𝓡 (code.calls-walk_forms::plans::plan_set 𝓡.env wired))
    (𝓡.env recorder.name) refl (recorder_thm.met 𝓤 𝓛 𝓜 𝓡 (code.calls-walk_forms::plans::record_plan 𝓡.env wired))
    (𝓡.env answer.name) refl (answer_thm.met 𝓤 𝓛 𝓜 𝓡 (code.calls-walk_forms::plans::answer_to 𝓡.env wired))
