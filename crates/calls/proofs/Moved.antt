-- The state with a part changed where a call is carried through. Assumes nothing.
use mathlib.Core.Bool.{Bool, true, false, cond}
use mathlib.Core.Path.{◌≡◌, refl, ap, ◌∙◌}
use Rattle.records.specs.declared.state.DrawState.{DrawState}
use Rattle.records.specs.declared.state.Progress.{Progress}
use Rattle.records.specs.declared.state.State.{State}
use Rattle.records.specs.declared.state.VertexState.{VertexState}
use Rattle.calls.specs.Parts.{with_progress, with_vertex, with_draw}

vertex-next : (t : Bool) (new : VertexState) (s : State) (p : Progress) → with_vertex (cond t new s.vertex) (with_progress p s) ≡ with_progress p (cond t (with_vertex new s) s)
vertex-next true new s p = refl
vertex-next false new s p = refl

pub slots-moved : (t ok : Bool) (new : VertexState) (s moved x : State) (p : Progress) (v : VertexState) → x ≡ with_vertex v moved → moved ≡ with_progress p s → v ≡ cond ok new s.vertex → ok ≡ t
    → x ≡ with_progress p (cond t (with_vertex new s) s)
slots-moved t ok new s moved x p v e m a b =
    e ∙ ap (with_vertex v) m ∙ ap (λ (y : VertexState). with_vertex y (with_progress p s)) (a ∙ ap (λ (y : Bool). cond y new s.vertex) b) ∙ vertex-next t new s p

draw-next : (t : Bool) (new : DrawState) (s : State) (p : Progress) → with_draw (cond t new s.draw) (with_progress p s) ≡ with_progress p (cond t (with_draw new s) s)
draw-next true new s p = refl
draw-next false new s p = refl

pub draw-moved : (t ok : Bool) (new : DrawState) (s moved x : State) (p : Progress) (d : DrawState) → x ≡ with_draw d moved → moved ≡ with_progress p s → d ≡ cond ok new s.draw → ok ≡ t
    → x ≡ with_progress p (cond t (with_draw new s) s)
draw-moved t ok new s moved x p d e m a b =
    e ∙ ap (with_draw d) m ∙ ap (λ (y : DrawState). with_draw y (with_progress p s)) (a ∙ ap (λ (y : Bool). cond y new s.draw) b) ∙ draw-next t new s p
