-- By `straight` of walks.
use mathlib.Core.Bool.{true, false}
use mathlib.Core.List.{[], ◌∷◌}
use mathlib.Core.Path.{◌≡◌, refl, subst}
use Prim.Native.Nat.{ℕ, ◌<◌}
use lib.ListN.{length}
use mir.Syntax.{w8, w32, w64}
use Rattle.walks.proofs.Args.{uint}
use Rattle.walks.proofs.Straight.{Shape, asks, free, let_asked, let_be, let_len, let_list, onto}
use Rattle.walks.proofs.Straight as straights
use Rattle.walks.proofs.StraightLists.{straight}
use Rattle.walk_forms.specs.Moved.{number_in, place_or_first, least_of, put_at, Puts}
use Rattle.walk_forms.proofs.Data.{rec}
use Rattle.walk_forms.proofs.Moving.{place_within, puts}
use Rattle.walk_forms.proofs.straights.swap_first.Symbol as swap
use Rattle.walk_forms.proofs.straights.swap_first.Met as swap_thm
use Rattle.walk_forms.proofs.straights.place_or_first.Symbol as spot
use Rattle.walk_forms.proofs.straights.place_or_first.Met as spot_thm
use Rattle.walk_forms.proofs.straights.look_at.Symbol as look
use Rattle.walk_forms.proofs.straights.look_at.Met as look_thm
use Rattle.walk_forms.proofs.straights.least_of.Symbol as least
use Rattle.walk_forms.proofs.straights.least_of.Met as least_thm
use Rattle.walk_forms.proofs.straights.put.Symbol as put
use Rattle.walk_forms.proofs.straights.put.Met as put_thm
use Rattle.walk_forms.specs.contracts.straights.put_two.Key as key
use Rattle.walk_forms.proofs.straights.put_two.Statement.{statement}
use Rattle.walk_forms.proofs.straights.put_two.Code as code

abbrev shape : Shape
shape = record { R = rec; An = uint w32; N = w8; N' = w8; N'' = w8; len = true; unit = true; lends = false ∷ false ∷ false ∷ [] }

-- 0 c, 1 d, 2 k; 3 at, 4 old, 5 other, 6 least
pub put_two_spec : {M : Type 1} → statement M
put_two_spec 𝓤 𝓛 𝓜 𝓡 wired =
    straight shape (uint w32 ∷ uint w32 ∷ uint w64 ∷ []) (uint w64 ∷ uint w32 ∷ uint w32 ∷ uint w32 ∷ [])
    (let_len tt spot.name (2 ∷ []) (tt, tt) tt free (λ n x r. r ≡ place_or_first n x.0)
    (onto tt put.name (3 ∷ 0 ∷ []) (tt, (tt, tt)) tt (λ x n. x.0 < n) (λ x l. put_at l x.0 x.1.0)
    (let_asked swap.name (1 ∷ []) (tt, tt) tt tt (asks (λ x. 0 < x.0)) (λ l x l' r. (r ≡ number_in l 0) × (l' ≡ put_at l 0 x.0))
    (let_list look.name (3 ∷ []) (tt, tt) tt tt (λ l x l' r. (r ≡ number_in l x.0) × (l' ≡ l))
    (let_be least.name (4 ∷ 5 ∷ []) (tt, (tt, tt)) tt free (λ x r. r ≡ least_of x.0 x.1.0)
    (straights.answer least.name (6 ∷ 1 ∷ []) (tt, (tt, tt)) (λ x r. r ≡ least_of x.0 x.1.0)))))))
    (asks (λ x. 0 < length x.0)) (λ l x l' r. Puts l x.0 x.1.0 (place_or_first (length l) x.1.1.0) l' r)
    (λ l x h. (
      tt,
      λ at e. (
        place_within x.1.1.0 (length l) at h e,
        (
          h,
          λ old l₁ e₁ other l₂ e₂. (
            tt,
            λ low e₃ r e₄.
                subst (λ (k : ℕ). Puts l x.0 x.1.0 k l₂ r) e (puts l l₁ l₂ x.0 x.1.0 at old other low r e₁ e₂ e₃ e₄),
          ),
        ),
      ),
    ))
    𝓛 𝓜 𝓡 𝓡.env key.name (code.unfolded 𝓤 𝓛.H 𝓜 𝓡 wired) (
      (𝓡.env spot.name, (refl, spot_thm.met 𝓤 𝓛 𝓜 𝓡 (code.calls-walk_forms::straights::place_or_first 𝓡.env wired))),
      (
        (𝓡.env put.name, (refl, put_thm.met 𝓤 𝓛 𝓜 𝓡 (code.calls-walk_forms::straights::put 𝓡.env wired))),
        (
          (𝓡.env swap.name, (refl, swap_thm.met 𝓤 𝓛 𝓜 𝓡 (code.calls-walk_forms::straights::swap_first 𝓡.env wired))),
          (
            (𝓡.env look.name, (refl, look_thm.met 𝓤 𝓛 𝓜 𝓡 (code.calls-walk_forms::straights::look_at 𝓡.env wired))),
            (
              (𝓡.env least.name, (refl, least_thm.met 𝓤 𝓛 𝓜 𝓡 (code.calls-walk_forms::straights::least_of 𝓡.env wired))),
              (𝓡.env least.name, (refl, least_thm.met 𝓤 𝓛 𝓜 𝓡 (code.calls-walk_forms::straights::least_of 𝓡.env wired))),
            ),
          ),
        ),
      ),
    )
