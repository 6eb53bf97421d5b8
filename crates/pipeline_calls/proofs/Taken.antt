-- The state with parts changed where a call is carried through. Assumes nothing.
use mathlib.Core.Bool.{Bool, true, false, cond}
use mathlib.Core.Path.{◌≡◌, refl, ap, ◌∙◌}
use Rattle.records.specs.declared.state.BindState.{BindState}
use Rattle.records.specs.declared.state.DrawState.{DrawState}
use Rattle.records.specs.declared.state.FixedState.{FixedState}
use Rattle.records.specs.declared.state.ImmediateState.{ImmediateState}
use Rattle.records.specs.declared.state.Progress.{Progress}
use Rattle.records.specs.declared.state.State.{State}
use Rattle.records.specs.declared.state.VertexState.{VertexState}
use Rattle.calls.specs.Parts.{with_progress, with_vertex, with_draw, with_fixed, with_bind, with_immediates}

fixed-taken : (t : Bool) (f : FixedState) (s : State) (p : Progress) → with_fixed (cond t f s.fixed) (with_progress p s) ≡ with_progress p (cond t (with_fixed f s) s)
fixed-taken true f s p = refl
fixed-taken false f s p = refl

-- a stencil reference's next state, from what the fixed part is
pub fixed-next : (ok : Bool) (new : FixedState) (s : State) (p : Progress) {f : FixedState} → f ≡ cond ok new s.fixed → with_fixed f (with_progress p s) ≡ with_progress p (cond ok (with_fixed new s) s)
fixed-next ok new s p e = ap (λ (x : FixedState). with_fixed x (with_progress p s)) e ∙ fixed-taken ok new s p

module _ (d : DrawState) (b : BindState) (i : ImmediateState) (s : State) (p : Progress) where
  abbrev shared : State
  shared = with_draw d (with_bind b (with_immediates i s))

  pub shared-taken : (t : Bool) → with_immediates (cond t i s.immediates) (with_bind (cond t b s.bind) (with_draw (cond t d s.draw) (with_progress p s))) ≡ with_progress p (cond t shared s)
  shared-taken true = refl
  shared-taken false = refl

  render-taken : (v : VertexState) (f : FixedState) (t : Bool)
      → with_vertex (cond t v s.vertex) (with_fixed (cond t f s.fixed) (with_progress p (cond t shared s)))
      ≡ with_progress p (cond t (with_vertex v (with_draw d (with_fixed f (with_bind b (with_immediates i s))))) s)
  render-taken v f true = refl
  render-taken v f false = refl

-- a compute pipeline's next state, from what each of its parts is
pub shared-next : (ok : Bool) (s : State) (p : Progress) {d d' : DrawState} {b b' : BindState} {i i' : ImmediateState} → d ≡ d' → b ≡ b' → i ≡ i'
    → with_progress p (cond ok (with_draw d (with_bind b (with_immediates i s))) s) ≡ with_progress p (cond ok (with_draw d' (with_bind b' (with_immediates i' s))) s)
shared-next ok s p ed eb ei = λ j. with_progress p (cond ok (with_draw (ed j) (with_bind (eb j) (with_immediates (ei j) s))) s)

-- a render pipeline's next state, from what each of its parts is
module _ (ok : Bool) (s : State) (p : Progress) (v' : VertexState) (d' : DrawState) (f' : FixedState) (b : BindState) (i' : ImmediateState) where
  pub render-next : {x shared : State} {v : VertexState} {d : DrawState} {f : FixedState} {i : ImmediateState}
      → x ≡ with_vertex (cond ok v s.vertex) (with_fixed (cond ok f s.fixed) shared) → shared ≡ with_progress p (cond ok (with_draw d (with_bind b (with_immediates i s))) s)
      → v ≡ v' → d ≡ d' → f ≡ f' → i ≡ i' → x ≡ with_progress p (cond ok (with_vertex v' (with_draw d' (with_fixed f' (with_bind b (with_immediates i' s))))) s)
  render-next {v = v} {d = d} {f = f} {i = i} e h ev ed ef ei =
      e
      ∙ ap (λ (y : State). with_vertex (cond ok v s.vertex) (with_fixed (cond ok f s.fixed) y)) h
      ∙ render-taken d b i s p v f ok
      ∙ (λ j. with_progress p (cond ok (with_vertex (ev j) (with_draw (ed j) (with_fixed (ef j) (with_bind b (with_immediates (ei j) s))))) s))
