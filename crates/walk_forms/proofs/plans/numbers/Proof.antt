-- By `lists` of walks.
use lib.ListN.{length}
use mathlib.Core.List.{[], ◌∷◌}
use mathlib.Core.Path.{◌≡◌, refl, sym, ◌∙◌, ap, subst}
use mir.Syntax.{w32, w64}
use Rattle.walk_forms.proofs.Data.{plans, answers}
use Rattle.walk_forms.proofs.Fitting.{plan_fits}
use Rattle.walk_forms.specs.Planned.{planned, answer_of, laid}
use Rattle.walks.proofs.Args.{uint}
use Rattle.walks.proofs.Recording.{Plan, Fits, lists}
use Rattle.walk_forms.proofs.plans.plan_numbers.Symbol as plan
use Rattle.walk_forms.proofs.plans.plan_numbers.Met as plan_thm
use Rattle.walk_forms.proofs.plans.record_plan.Symbol as recorder
use Rattle.walk_forms.proofs.plans.record_plan.Met as recorder_thm
use Rattle.walk_forms.proofs.plans.answer_to.Symbol as answer
use Rattle.walk_forms.proofs.plans.answer_to.Met as answer_thm
use Rattle.walk_forms.specs.contracts.plans.numbers.Key as key
use Rattle.walk_forms.proofs.plans.numbers.Statement.{statement}
use Rattle.walk_forms.proofs.plans.numbers.Code as code

pub numbers_spec : {M : Type 1} → statement M
numbers_spec 𝓤 𝓛 𝓜 𝓡 wired = lists plans answers (uint w32) (uint w64 ∷ []) (λ n d p. p ≡ planned n d.0 d.1.0 d.1.1.0)
    (λ ys d zs r. (r ≡ answer_of (planned (length ys) d.0 d.1.0 d.1.1.0) d.1.0) × (zs ≡ laid (planned (length ys) d.0 d.1.0 d.1.1.0) ys))
    (λ n d p e. subst (λ (x : Plan plans). Fits plans x n) (sym e) (plan_fits n d.0 d.1.0 d.1.1.0))
    (λ ys d zs r p e h. (h.0 ∙ ap (λ (x : Plan plans). answer_of x d.1.0) e, h.1 ∙ ap (λ (x : Plan plans). laid x ys) e))
    𝓛 𝓜 𝓡 𝓡.env key.name plan.name recorder.name answer.name (code.unfolded 𝓤 𝓛.H 𝓜 𝓡 wired)
    (𝓡.env plan.name) refl (plan_thm.met 𝓤 𝓛 𝓜 𝓡 (code.calls-walk_forms::plans::plan_numbers 𝓡.env wired))
    (𝓡.env recorder.name) refl (recorder_thm.met 𝓤 𝓛 𝓜 𝓡 (code.calls-walk_forms::plans::record_plan 𝓡.env wired))
    (𝓡.env answer.name) refl (answer_thm.met 𝓤 𝓛 𝓜 𝓡 (code.calls-walk_forms::plans::answer_to 𝓡.env wired))
