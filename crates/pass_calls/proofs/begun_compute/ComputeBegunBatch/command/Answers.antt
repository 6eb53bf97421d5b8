-- `pass_calls::begun_compute::ComputeBegunBatch::command` meets its contract. Assumes nothing.
use mathlib.Core.List.{[]}
use Rattle.records.specs.declared.command.Command.TheVariants.{PopDebugGroup}
use Rattle.pass_calls.proofs.begun_compute.ComputeBegunBatch.command.Goals as goal

pub returns : goal.returns
returns c =
    let p = c.requires in
    c.opening_at.ensures [] p.1.bytes p.0 PopDebugGroup
