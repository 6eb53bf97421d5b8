-- By `reads-from` of walks.
use lib.ListN.{length}
use mathlib.Core.List.{[], ◌∷◌}
use mathlib.Core.Path.{◌≡◌, refl, sym, ◌∙◌, ap, subst}
use mir.Syntax.{w32, w64}
use Rattle.walk_forms.proofs.Data.{plans_from, answers_from}
use Rattle.walk_forms.proofs.Fitting.{reading_fits}
use Rattle.walk_forms.specs.Planned.{reading, answer_from, laid_from}
use Rattle.walk_forms.specs.declared.plans.Reading.{Reading}
use Rattle.walks.proofs.Args.{uint}
use Rattle.walks.proofs.Recording.{Fits}
use Rattle.walks.proofs.RecordingFrom.{over}
use Rattle.walks.proofs.ReadingFrom.{reads-from}
use Rattle.walk_forms.proofs.plans.plan_run.Symbol as plan
use Rattle.walk_forms.proofs.plans.plan_run.Met as plan_thm
use Rattle.walk_forms.proofs.plans.record_from.Symbol as recorder
use Rattle.walk_forms.proofs.plans.record_from.Met as recorder_thm
use Rattle.walk_forms.proofs.plans.answer_from.Symbol as answer
use Rattle.walk_forms.proofs.plans.answer_from.Met as answer_thm
use Rattle.walk_forms.specs.contracts.plans.numbers_from.Key as key
use Rattle.walk_forms.proofs.plans.numbers_from.Statement.{statement}
use Rattle.walk_forms.proofs.plans.numbers_from.Code as code

pub numbers_from_spec : {M : Type 1} → statement M
numbers_from_spec 𝓤 𝓛 𝓜 𝓡 wired = reads-from plans_from answers_from w32 (uint w64 ∷ []) (uint w64 ∷ []) (λ ns n d p. p ≡ reading n (length ns) d.0 d.1.0 d.1.1.0)
    (λ ys ns d zs r. (r ≡ answer_from (reading (length ys) (length ns) d.0 d.1.0 d.1.1.0) d.1.0) × (zs ≡ laid_from ns (reading (length ys) (length ns) d.0 d.1.0 d.1.1.0) ys))
    (λ ns n d p e. subst (λ (x : Reading). Fits (over plans_from ns) x n) (sym e) (reading_fits ns n d.0 d.1.0 d.1.1.0))
    (λ ys ns d zs r p e h. (h.0 ∙ ap (λ (x : Reading). answer_from x d.1.0) e, h.1 ∙ ap (λ (x : Reading). laid_from ns x ys) e))
    𝓛 𝓜 𝓡 𝓡.env key.name plan.name recorder.name answer.name (code.unfolded 𝓤 𝓛.H 𝓜 𝓡 wired)
    (𝓡.env plan.name) refl (plan_thm.met 𝓤 𝓛 𝓜 𝓡 (code.calls-walk_forms::plans::plan_run 𝓡.env wired))
    (𝓡.env recorder.name) refl (recorder_thm.met 𝓤 𝓛 𝓜 𝓡 (code.calls-walk_forms::plans::record_from 𝓡.env wired))
    (𝓡.env answer.name) refl (answer_thm.met 𝓤 𝓛 𝓜 𝓡 (code.calls-walk_forms::plans::answer_from 𝓡.env wired))
