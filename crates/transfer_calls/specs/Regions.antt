-- A plan of copies between buffers. Definitions only.
use Rattle.std.specs.Prelude.{ℕ, ◌+◌, ◌*◌, ◌<◌, List, map, length, get_or}
use Rattle.records.specs.declared.command.BufferCopy.{BufferCopy}
use Rattle.records.specs.declared.command.Command.{Command}
use Rattle.records.specs.declared.command.Command.TheVariants.{PopDebugGroup}
use Rattle.records.specs.declared.state.Answer.{Answer}
use Rattle.records.specs.declared.state.State.{State}
use Rattle.calls.specs.Meaning.{Meaning}
use Rattle.calls.specs.Parts.{with_progress}
use Rattle.calls.specs.Planned.{Right}
use Rattle.calls.specs.Transfers.{regions_of, copy_command}
use Rattle.transfer_calls.specs.declared.regions.Copies.{Copies}
use Rattle.transfer_calls.specs.declared.regions.CopyPlan.{CopyPlan}
use Rattle.transfer_calls.specs.Moved.{moved_answer}

-- region i of a run
abbrev pub region_at : List ℕ → ℕ → BufferCopy
region_at run i = record { src_offset = get_or run (3 * i) 0; dst_offset = get_or run (3 * i + 1) 0; size = get_or run (3 * i + 2) 0 }

-- the commands of the counted regions
abbrev pub copies_recorded : List ℕ → Copies → List Command
copies_recorded run b = map (copy_command b.src b.dst) (regions_of (record { run = run; count = b.count }))

abbrev pub CopyAllowed : List ℕ → Copies → ℕ → Type 0
CopyAllowed run b i = i < length (copies_recorded run b)

abbrev pub copy_at : List ℕ → Copies → ℕ → Command
copy_at run b i = get_or (copies_recorded run b) i PopDebugGroup

abbrev pub CopiesOf : List ℕ → ℕ → State → Meaning → CopyPlan → Type 0
CopiesOf run room s m p = Right room s m p.outcome (with_progress p.progress s) p.batch.at p.batch.n (copy_at run p.batch) (CopyAllowed run p.batch)

abbrev pub copy_answer : CopyPlan → State → Answer
copy_answer p s = moved_answer p.outcome p.progress s
