-- By `straight-runs` of walks.
use mathlib.Core.Bool.{true, false}
use mathlib.Core.List.{[], ◌∷◌}
use mathlib.Core.Path.{◌≡◌, refl}
use lib.ListN.{length, get_or}
use mir.Syntax.{w8, w32, w64}
use Rattle.walks.proofs.Args.{uint}
use Rattle.walks.proofs.Straight.{Shape, free, let_be, let_list, let_runs}
use Rattle.walks.proofs.Straight as straights
use Rattle.walks.proofs.StraightRuns.{straight-runs}
use Rattle.walk_forms.specs.Planned.{planned_beside, Beside}
use Rattle.walk_forms.specs.Moved.{number_in, first_if, FirstBeside}
use Rattle.walk_forms.proofs.Data.{rec, answer}
use Rattle.walk_forms.proofs.Moving.{first_beside}
use Rattle.walk_forms.proofs.plans.numbers_past.Symbol as past
use Rattle.walk_forms.proofs.plans.numbers_past.Met as past_thm
use Rattle.walk_forms.proofs.straights.wrote_of.Symbol as wrote
use Rattle.walk_forms.proofs.straights.wrote_of.Met as wrote_thm
use Rattle.walk_forms.proofs.straights.look_at.Symbol as look
use Rattle.walk_forms.proofs.straights.look_at.Met as look_thm
use Rattle.walk_forms.proofs.straights.first_if.Symbol as first
use Rattle.walk_forms.proofs.straights.first_if.Met as first_thm
use Rattle.walk_forms.specs.contracts.straights.first_past.Key as key
use Rattle.walk_forms.proofs.straights.first_past.Statement.{statement}
use Rattle.walk_forms.proofs.straights.first_past.Code as code

abbrev shape : Shape
shape = record { R = rec; An = uint w32; N = w8; N' = w8; N'' = w32; len = false; unit = false; lends = true ∷ false ∷ [] }

-- 0 k, 1 used, 2 count; 3 done, 4 n, 5 c
pub first_past_spec : {M : Type 1} → statement M
first_past_spec 𝓤 𝓛 𝓜 𝓡 wired =
    straight-runs shape (uint w64 ∷ uint w64 ∷ uint w64 ∷ []) (answer ∷ uint w64 ∷ uint w32 ∷ [])
    (let_runs tt past.name (0 ∷ 1 ∷ 2 ∷ []) (tt, (tt, (tt, tt))) tt tt
    (λ l z ls ns x l' z' r. Beside (planned_beside (length l) (length z) (length ls) (get_or ns x.0 0) x.1.0 x.1.1.0) ls x.1.0 l z l' z' r)
    (let_be wrote.name (3 ∷ []) (tt, tt) tt free (λ x r. r ≡ x.0.wrote)
    (let_list look.name (1 ∷ []) (tt, tt) tt tt (λ l x l' r. (r ≡ number_in l x.0) × (l' ≡ l))
    (straights.answer first.name (4 ∷ 5 ∷ []) (tt, (tt, tt)) (λ x r. r ≡ first_if x.0 x.1.0)))))
    (λ l z ls ns x l' z' r. FirstBeside (planned_beside (length l) (length z) (length ls) (get_or ns x.0 0) x.1.0 x.1.1.0) ls x.1.0 l z l' z' r)
    (λ l z ls ns x done l₁ z' b. (tt, λ n e₁ c l₂ e₂ r e₃. first_beside _ ls x.1.0 l z l₁ l₂ z' done n c r b e₁ e₂ e₃))
    𝓛 𝓜 𝓡 𝓡.env key.name (code.unfolded 𝓤 𝓛.H 𝓜 𝓡 wired) (
      (𝓡.env past.name, (refl, past_thm.met 𝓤 𝓛 𝓜 𝓡 (code.calls-walk_forms::plans::numbers_past 𝓡.env wired))),
      (
        (𝓡.env wrote.name, (refl, wrote_thm.met 𝓤 𝓛 𝓜 𝓡 (code.calls-walk_forms::straights::wrote_of 𝓡.env wired))),
        (
          (𝓡.env look.name, (refl, look_thm.met 𝓤 𝓛 𝓜 𝓡 (code.calls-walk_forms::straights::look_at 𝓡.env wired))),
          (𝓡.env first.name, (refl, first_thm.met 𝓤 𝓛 𝓜 𝓡 (code.calls-walk_forms::straights::first_if 𝓡.env wired))),
        ),
      ),
    )
