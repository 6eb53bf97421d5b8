-- By `resolves` of walks.
use lib.ListN.{length, get_or}
use mathlib.Core.List.{[], ◌∷◌}
use mathlib.Core.Path.{◌≡◌, refl, sym, subst}
use mir.Syntax.{w8, w64}
use Rattle.walk_forms.proofs.Data.{plans, answers}
use Rattle.walk_forms.proofs.Fitting.{beside_fits, beside_copies}
use Rattle.walk_forms.specs.Planned.{planned_beside, copied, Copies, Beside}
use Rattle.walks.proofs.Args.{uint}
use Rattle.walks.proofs.Recording.{Plan, Fits}
use Rattle.walks.proofs.Resolving.{resolves}
use Rattle.walk_forms.proofs.plans.plan_load.Symbol as plan
use Rattle.walk_forms.proofs.plans.plan_load.Met as plan_thm
use Rattle.walk_forms.proofs.plans.copy_byte.Symbol as copier
use Rattle.walk_forms.proofs.plans.copy_byte.Met as copier_thm
use Rattle.walk_forms.proofs.plans.record_plan.Symbol as recorder
use Rattle.walk_forms.proofs.plans.record_plan.Met as recorder_thm
use Rattle.walk_forms.proofs.plans.answer_to.Symbol as answer
use Rattle.walk_forms.proofs.plans.answer_to.Met as answer_thm
use Rattle.walk_forms.specs.contracts.plans.numbers_beside.Key as key
use Rattle.walk_forms.proofs.plans.numbers_beside.Statement.{statement}
use Rattle.walk_forms.proofs.plans.numbers_beside.Code as code

pub numbers_beside_spec : {M : Type 1} → statement M
numbers_beside_spec 𝓤 𝓛 𝓜 𝓡 wired = resolves plans answers w8 w8 [] (uint w64 ∷ []) (λ ls n m d p. p ≡ planned_beside n m (length ls) (get_or ls 0 0) d.0 d.1.0) Copies copied
    (λ ys bs ls d zs bs' r. Beside (planned_beside (length ys) (length bs) (length ls) (get_or ls 0 0) d.0 d.1.0) ls d.0 ys bs zs bs' r)
    (λ ls n m d p e. subst (λ (x : Plan plans). Fits plans x n × Copies ls x m) (sym e) (beside_fits n m (length ls) (get_or ls 0 0) d.0 d.1.0, beside_copies ls n m (get_or ls 0 0) d.0 d.1.0))
    (λ ys bs ls d zs bs' r p e h w. subst (λ (x : Plan plans). Beside x ls d.0 ys bs zs bs' r) e (h.0, h.1, w))
    𝓛 𝓜 𝓡 𝓡.env key.name plan.name copier.name recorder.name answer.name (code.unfolded 𝓤 𝓛.H 𝓜 𝓡 wired)
    (𝓡.env plan.name) refl (plan_thm.met 𝓤 𝓛 𝓜 𝓡 (code.calls-walk_forms::plans::plan_load 𝓡.env wired))
    (𝓡.env copier.name) refl (copier_thm.met 𝓤 𝓛 𝓜 𝓡 (code.calls-walk_forms::plans::copy_byte 𝓡.env wired))
    (𝓡.env recorder.name) refl (recorder_thm.met 𝓤 𝓛 𝓜 𝓡 (code.calls-walk_forms::plans::record_plan 𝓡.env wired))
    (𝓡.env answer.name) refl (answer_thm.met 𝓤 𝓛 𝓜 𝓡 (code.calls-walk_forms::plans::answer_to 𝓡.env wired))
