-- A plan of one command. Definitions only.
use Rattle.std.specs.Prelude.{ℕ, List}
use Rattle.records.specs.declared.command.Command.{Command}
use Rattle.records.specs.declared.outcome.Outcome.{Outcome}
use Rattle.records.specs.declared.state.Answer.{Answer}
use Rattle.records.specs.declared.state.State.{State}
use Rattle.single_calls.specs.declared.one.OnePlan.{OnePlan}
use Rattle.calls.specs.Meaning.{Meaning}
use Rattle.calls.specs.Parts.{with_draw, with_progress}
use Rattle.calls.specs.Planned.{Laid, Answered, outcome_in, state_in}

-- the state that a plan leaves
abbrev pub one_next : OnePlan → State → State
one_next p s = with_draw p.draw (with_progress p.progress s)

-- right for a call with this outcome, next state and commands
abbrev pub OneFor : ℕ → State → Outcome → State → List Command → OnePlan → Type 0
OneFor room s o after cs p =
    Answered s o after p.outcome (one_next p s) × Laid room s o cs p.batch.at p.batch.n (λ i. p.batch.command)

abbrev pub OneOf : ℕ → State → Meaning → OnePlan → Type 0
OneOf room s m p = OneFor room s (outcome_in room s m) (state_in m) m.commands p

abbrev pub one_answer : OnePlan → State → Answer
one_answer p s = record { outcome = p.outcome; state = one_next p s }
