-- The answer of a call that changes nothing of the state but its progress. Definitions only.
use Rattle.records.specs.declared.outcome.Outcome.{Outcome}
use Rattle.records.specs.declared.state.Answer.{Answer}
use Rattle.records.specs.declared.state.Progress.{Progress}
use Rattle.records.specs.declared.state.State.{State}
use Rattle.calls.specs.Parts.{with_progress}

abbrev pub moved_answer : Outcome → Progress → State → Answer
moved_answer o p s = record { outcome = o; state = with_progress p s }
