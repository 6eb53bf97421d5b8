-- `binding_calls::grouped::GroupCommandsBatch::command` meets its contract. Assumes nothing.
use native.Mathlib.Omega.{arith}
use Rattle.records.specs.declared.command.Command.TheVariants.{PopDebugGroup}
use Rattle.binding_calls.proofs.grouped.GroupCommandsBatch.command.Goals as goal

pub overflow_cast-i : goal.overflow_cast-i
overflow_cast-i c =
    let i = c.requires.0 in
    let f = c.requires.1.few in
    omega arith

pub returns : goal.returns
returns c =
    let k = c.requires.1 in
    c.bind_group_command_at.ensures k.offsets_fit k.first c.requires.0 PopDebugGroup
