-- A plan of a draw: what is prepared, and then its own commands. Definitions only.
use Rattle.std.specs.Prelude.{ℕ, ◌+◌, ◌*◌, ◌<◌, ◌^◌, ◌≡◌, Bool, false, List, [], ◌∷◌, ◌++◌, length, get_or}
use Rattle.tables.specs.Tabulate.{tabulate}
use Rattle.records.specs.declared.command.Command.{Command}
use Rattle.records.specs.declared.command.Command.TheVariants.{DrawIndirect, DrawIndexedIndirect, PopDebugGroup}
use Rattle.records.specs.declared.state.Answer.{Answer}
use Rattle.records.specs.declared.state.State.{State}
use Rattle.slots.specs.Vertex.{stepped}
use Rattle.slots.specs.Prepare.{prepared, prepared_over}
use Rattle.slots.specs.Sent.{prepared_places}
use Rattle.draw_calls.specs.declared.drawn.Own.{Own}
use Rattle.draw_calls.specs.declared.drawn.Own.TheVariants.{One, Indirect, IndexedIndirect}
use Rattle.draw_calls.specs.declared.drawn.Drawn.{Drawn}
use Rattle.draw_calls.specs.declared.drawn.DrawPlan.{DrawPlan}
use Rattle.calls.specs.Draws.{indirect_over}
use Rattle.calls.specs.Meaning.{Meaning}
use Rattle.calls.specs.Parts.{with_progress, with_vertex}
use Rattle.calls.specs.Planned.{Right}

-- a draw's own commands: one, or as many as its count, 16 or 20 bytes apart
abbrev pub own_commands : Own → List Command
own_commands (One c) = c ∷ []
own_commands (Indirect topology raw offset location n) = tabulate n (λ i. DrawIndirect topology raw (offset + i * 16) location)
own_commands (IndexedIndirect topology type raw offset location n) = tabulate n (λ i. DrawIndexedIndirect topology type raw (offset + i * 20) location)

-- the last record's offset past 64 bits
abbrev pub own_over : Own → Bool
own_over (One c) = false
own_over (Indirect topology raw offset location n) = indirect_over 16 offset n
own_over (IndexedIndirect topology type raw offset location n) = indirect_over 20 offset n

abbrev pub drawn_commands : Drawn → List Command
drawn_commands b = prepared b.caps b.vertex b.instance ++ own_commands b.own

-- the batch holds what `prepare` gave, and no sum leaves its field
pub record Sound (b : Drawn) : Type 0 where
  pub places : b.places ≡ prepared_places b.caps b.vertex b.instance
  pub first : b.first ≡ length (prepared b.caps b.vertex b.instance)
  pub slots_fit : prepared_over b.caps b.vertex b.instance ≡ false
  pub own_fits : own_over b.own ≡ false
  pub own_small : length (own_commands b.own) < 2 ^ 32

abbrev pub DrawAllowed : Drawn → ℕ → Type 0
DrawAllowed b i = (i < length (drawn_commands b)) × Sound b

abbrev pub drawn_at : Drawn → ℕ → Command
drawn_at b i = get_or (drawn_commands b) i PopDebugGroup

-- the state that a plan leaves
abbrev pub draw_next : DrawPlan → State → State
draw_next p s = with_vertex (stepped s.vertex p.dirty p.instances) (with_progress p.progress s)

abbrev pub DrawOf : ℕ → State → Meaning → DrawPlan → Type 0
DrawOf room s m p = Right room s m p.outcome (draw_next p s) p.batch.at p.batch.n (drawn_at p.batch) (DrawAllowed p.batch)

abbrev pub draw_answer : DrawPlan → State → Answer
draw_answer p s = record { outcome = p.outcome; state = draw_next p s }
