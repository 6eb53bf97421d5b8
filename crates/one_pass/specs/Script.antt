-- A whole list: one render pass with one pipeline, one vertex buffer and one draw; and what a function says that records it by the public calls. Definitions only.
use Rattle.std.specs.Prelude.{ℕ, ◌≡◌, List, [], ◌∷◌}
use Rattle.records.specs.declared.command.Record.{Record}
use Rattle.records.specs.declared.outcome.Outcome.{Outcome}
use Rattle.records.specs.declared.outcome.Outcome.TheVariants.{Done}
use Rattle.records.specs.declared.pass.RenderPassDescriptor.{RenderPassDescriptor}
use Rattle.records.specs.declared.pipeline.PrivateCapabilities.{PrivateCapabilities}
use Rattle.records.specs.declared.pipeline.RenderPipeline.{RenderPipeline}
use Rattle.records.specs.declared.state.Answer.{Answer}
use Rattle.records.specs.declared.state.State.{State}
use Rattle.pass.specs.Marks.{Lent, Label}
use Rattle.calls.specs.Call.{Call, begin_encoding, begin_render_pass, set_render_pipeline, set_vertex_buffer, draw, end_render_pass, end_encoding}
use Rattle.calls.specs.Did.{Runs, Did}
use Rattle.book.specs.Ran.{Ran, done, then}

-- the calls after `begin_encoding`: slot, buffer and offset of the vertex buffer; first vertex, vertex count, first instance and instance count of the draw
abbrev pub pass_of : RenderPassDescriptor → Label → Lent → RenderPipeline → ℕ → ℕ → ℕ → ℕ → ℕ → ℕ → ℕ → List Call
pass_of d label set p slot buffer offset fv vc fi ic = begin_render_pass d label set ∷ set_render_pipeline p ∷ set_vertex_buffer slot buffer offset ∷ draw fv vc fi ic ∷ end_render_pass ∷ end_encoding ∷ []

-- the runs that the function is lent, and any queries: no call of it is lent them
abbrev pub runs_of : List Record → List ℕ → List ℕ → Runs
runs_of l bytes queries = record { commands = l; bytes = bytes; queries = queries }

-- what the last call of a run came back with
unfoldable pub last_outcome : {caps : PrivateCapabilities} {s s' : State} {r r' : Runs} {cs : List Call} → Outcome → Ran caps s r cs s' r' → Outcome
last_outcome o done = o
last_outcome o (then a d R) = last_outcome a.outcome R

-- after `begin_encoding`, carried through or not, the calls were made one after the other, each as its contract says, refused ones too; what the last one answered is handed back
abbrev pub Records : PrivateCapabilities → State → List Call → List Record → List ℕ → Answer → List Record → List ℕ → Type 0
Records caps s calls l bytes a l' bytes' =
    (queries : List ℕ) → (b : Answer) × (Did caps s (runs_of l bytes queries) begin_encoding b (runs_of l bytes queries)
    × ((R : Ran caps b.state (runs_of l bytes queries) calls a.state (runs_of l' bytes' queries)) × (last_outcome Done R ≡ a.outcome)))
