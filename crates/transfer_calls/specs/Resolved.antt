-- A plan of query results: one command, and the queries that it copies. Definitions only.
use Rattle.std.specs.Prelude.{ℕ, ◌+◌, ◌≤◌, List, length, get_or}
use Rattle.walks.specs.Fill.{filled}
use Rattle.records.specs.declared.command.Command.{Command}
use Rattle.records.specs.declared.command.Command.TheVariants.{CopyQueryResults}
use Rattle.records.specs.declared.outcome.Outcome.{Outcome}
use Rattle.records.specs.declared.state.Answer.{Answer}
use Rattle.records.specs.declared.state.State.{State}
use Rattle.calls.specs.Meaning.{Meaning}
use Rattle.calls.specs.Parts.{with_progress}
use Rattle.calls.specs.Planned.{query_rooms, Put, Laid, Answered, state_in}
use Rattle.calls.specs.Step.{outcome_of}
use Rattle.transfer_calls.specs.declared.resolved.Resolved.{Resolved}
use Rattle.transfer_calls.specs.declared.resolved.ResolvedPlan.{ResolvedPlan}
use Rattle.transfer_calls.specs.Moved.{moved_answer}

abbrev pub resolved_at : Resolved → ℕ → Command
resolved_at b i = CopyQueryResults b.range b.dst b.target b.offset

-- no query past the set or the query list
abbrev pub QueriesFit : List ℕ → ResolvedPlan → ℕ → Type 0
QueriesFit set p room = (p.to + p.size ≤ room) × (p.from + p.size ≤ length set)

-- query i that is copied
abbrev pub query_from : List ℕ → ResolvedPlan → ℕ → ℕ
query_from set p i = get_or set (p.from + i) 0

abbrev pub queries_copied : List ℕ → ResolvedPlan → List ℕ → List ℕ
queries_copied set p queries = filled (query_from set p) queries p.to p.size

-- right for a call with this outcome, next state, commands and queries
abbrev pub ResolvedFor : List ℕ → ℕ → ℕ → State → Outcome → State → List Command → List ℕ → ResolvedPlan → Type 0
ResolvedFor set room queries s o after cs qs p =
    Answered s o after p.outcome (with_progress p.progress s)
    × Laid room s o cs p.batch.at p.batch.n (resolved_at p.batch)
    × Put queries s.progress.queries o qs 0 p.to p.size (query_from set p)
    × (p.from + p.size ≤ length set)
    × (p.batch.n ≤ 1)

abbrev pub ResolvedOf : List ℕ → ℕ → ℕ → State → Meaning → ResolvedPlan → Type 0
ResolvedOf set room queries s m p = ResolvedFor set room queries s (outcome_of (query_rooms room queries) s m) (state_in m) m.commands m.queries p

abbrev pub resolved_answer : ResolvedPlan → State → Answer
resolved_answer p s = moved_answer p.outcome p.progress s
