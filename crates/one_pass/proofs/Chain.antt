-- From the contracts of the seven public calls, one after the other, to that of `record_pass`. Assumes nothing.
use Prim.Native.Nat.{ℕ}
use mathlib.Core.Path.{◌≡◌, refl, subst}
use mathlib.Core.List.{List}
use Rattle.records.specs.declared.command.Record.{Record}
use Rattle.records.specs.declared.pass.RenderPassDescriptor.{RenderPassDescriptor}
use Rattle.records.specs.declared.pipeline.PrivateCapabilities.{PrivateCapabilities}
use Rattle.records.specs.declared.pipeline.RenderPipeline.{RenderPipeline}
use Rattle.records.specs.declared.state.Answer.{Answer}
use Rattle.records.specs.declared.state.State.{State}
use Rattle.pass.specs.Marks.{Lent, Label}
use Rattle.calls.specs.Call.{Call, begin_encoding, begin_render_pass, set_render_pipeline, set_vertex_buffer, draw, end_render_pass, end_encoding}
use Rattle.calls.specs.Did.{Runs, Did, Keeps, Lists, Marks}
use Rattle.book.specs.Ran.{done, then}
use Rattle.one_pass.specs.Script.{pass_of, runs_of, last_outcome, Records}

-- a call from the state that the one before handed back
from : (caps : PrivateCapabilities) (s : State) (a : Answer) (r r' : Runs) (c : Call) (b : Answer) → s ≡ a.state → Did caps s r c b r' → Did caps a.state r c b r'
from caps s a r r' c b e h = subst (λ (x : State). Did caps x r c b r') e h

pub chained : (caps : PrivateCapabilities) (s : State) (d : RenderPassDescriptor) (label : Label) (set : Lent) (p : RenderPipeline) (slot buffer offset fv vc fi ic : ℕ) (l : List Record) (bytes : List ℕ)
    (begun : Answer) → Keeps caps s begin_encoding begun → (opened : State) → opened ≡ begun.state
    → (entered : Answer) (l₁ : List Record) (bytes' : List ℕ) → Marks caps opened (begin_render_pass d label set) l bytes entered l₁ bytes' → (inside : State) → inside ≡ entered.state
    → (piped : Answer) (l₂ : List Record) → Lists caps inside (set_render_pipeline p) l₁ piped l₂ → (ready : State) → ready ≡ piped.state
    → (bound : Answer) → Keeps caps ready (set_vertex_buffer slot buffer offset) bound → (set-up : State) → set-up ≡ bound.state
    → (drawn : Answer) (l₃ : List Record) → Lists caps set-up (draw fv vc fi ic) l₂ drawn l₃ → (shown : State) → shown ≡ drawn.state
    → (ended : Answer) (l₄ : List Record) → Lists caps shown end_render_pass l₃ ended l₄ → (outside : State) → outside ≡ ended.state
    → (closed : Answer) → Keeps caps outside end_encoding closed → Records caps s (pass_of d label set p slot buffer offset fv vc fi ic) l bytes closed l₄ bytes'
unfolding last_outcome
chained caps s d label set p slot buffer offset fv vc fi ic l bytes begun h opened e entered l₁ bytes' h₁ inside e₁ piped l₂ h₂ ready e₂ bound h₃ set-up e₃ drawn l₃ h₄ shown e₄ ended l₄ h₅ outside e₅ closed h₆ queries = (
  begun,
  (
    h (runs_of l bytes queries),
    (
      then entered (from caps opened begun (runs_of l bytes queries) (runs_of l₁ bytes' queries) _ entered e (h₁ queries))
          (then piped (from caps inside entered (runs_of l₁ bytes' queries) (runs_of l₂ bytes' queries) _ piped e₁ (h₂ bytes' queries))
          (then bound (from caps ready piped (runs_of l₂ bytes' queries) (runs_of l₂ bytes' queries) _ bound e₂ (h₃ (runs_of l₂ bytes' queries)))
          (then drawn (from caps set-up bound (runs_of l₂ bytes' queries) (runs_of l₃ bytes' queries) _ drawn e₃ (h₄ bytes' queries))
          (then ended (from caps shown drawn (runs_of l₃ bytes' queries) (runs_of l₄ bytes' queries) _ ended e₄ (h₅ bytes' queries))
          (then closed (from caps outside ended (runs_of l₄ bytes' queries) (runs_of l₄ bytes' queries) _ closed e₅ (h₆ (runs_of l₄ bytes' queries))) done))))),
      refl,
    ),
  ),
)
