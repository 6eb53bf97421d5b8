-- The state with the bind part changed where a call is carried through. Assumes nothing.
use mathlib.Core.Bool.{Bool, true, false, cond}
use mathlib.Core.Path.{◌≡◌, refl, ap, ◌∙◌}
use Rattle.records.specs.declared.state.BindState.{BindState}
use Rattle.records.specs.declared.state.Progress.{Progress}
use Rattle.records.specs.declared.state.State.{State}
use Rattle.calls.specs.Parts.{with_progress, with_bind}

bind-next : (t : Bool) (new : BindState) (s : State) (p : Progress) → with_bind (cond t new s.bind) (with_progress p s) ≡ with_progress p (cond t (with_bind new s) s)
bind-next true new s p = refl
bind-next false new s p = refl

pub bind-moved : (t ok : Bool) (new found : BindState) (s : State) (p : Progress) (b : BindState) → b ≡ cond ok found s.bind → found ≡ new → ok ≡ t
    → with_bind b (with_progress p s) ≡ with_progress p (cond t (with_bind new s) s)
bind-moved t ok new found s p b a f o =
    ap (λ (y : BindState). with_bind y (with_progress p s)) (a ∙ ap (λ (y : BindState). cond ok y s.bind) f ∙ ap (λ (y : Bool). cond y new s.bind) o)
    ∙ bind-next t new s p
