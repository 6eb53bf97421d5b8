-- A plan of buffer barriers. Definitions only.
use Rattle.std.specs.Prelude.{ℕ, ◌+◌, ◌*◌, ◌<◌, List, ◌≡◌, length, get_or}
use Rattle.records.specs.declared.command.Command.{Command}
use Rattle.records.specs.declared.command.Command.TheVariants.{BufferBarrier, PopDebugGroup}
use Rattle.records.specs.declared.state.Answer.{Answer}
use Rattle.records.specs.declared.state.State.{State}
use Rattle.calls.specs.Meaning.{Meaning}
use Rattle.calls.specs.Parts.{with_progress}
use Rattle.calls.specs.Planned.{Right}
use Rattle.calls.specs.Transfers.{Barrier, buffer_barriers, buffer_barrier_commands}
use Rattle.transfer_calls.specs.declared.barriers.Barriers.{Barriers}
use Rattle.transfer_calls.specs.declared.barriers.BarrierPlan.{BarrierPlan}
use Rattle.transfer_calls.specs.Moved.{moved_answer}

-- barrier i of a run
abbrev pub barrier_at : List ℕ → ℕ → Barrier
barrier_at run i = record { buffer = get_or run (3 * i) 0; from = get_or run (3 * i + 1) 0; to = get_or run (3 * i + 2) 0 }

-- the commands of the counted barriers
abbrev pub barriers_recorded : List ℕ → ℕ → List Command
barriers_recorded run count = buffer_barrier_commands (buffer_barriers (record { run = run; count = count }))

-- command i is that of the barrier at place j
pub record Recorded (run : List ℕ) (count i j : ℕ) : Type 0 where
  pub inside : 3 * j + 2 < length run
  pub command : BufferBarrier (get_or run (3 * j) 0) (get_or run (3 * j + 2) 0) ≡ get_or (barriers_recorded run count) i PopDebugGroup

abbrev pub BarrierAllowed : List ℕ → Barriers → ℕ → Type 0
BarrierAllowed run b i = i < length (barriers_recorded run b.count)

abbrev pub barrier_command_at : List ℕ → Barriers → ℕ → Command
barrier_command_at run b i = get_or (barriers_recorded run b.count) i PopDebugGroup

abbrev pub BarriersOf : List ℕ → ℕ → State → Meaning → BarrierPlan → Type 0
BarriersOf run room s m p = Right room s m p.outcome (with_progress p.progress s) p.batch.at p.batch.n (barrier_command_at run p.batch) (BarrierAllowed run p.batch)

abbrev pub barrier_answer : BarrierPlan → State → Answer
barrier_answer p s = moved_answer p.outcome p.progress s
