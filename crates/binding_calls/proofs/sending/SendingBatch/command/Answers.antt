-- `binding_calls::sending::SendingBatch::command` meets its contract. Assumes nothing.
use Rattle.records.specs.declared.command.Command.TheVariants.{PopDebugGroup}
use Rattle.binding_calls.proofs.sending.SendingBatch.command.Goals as goal

pub returns : goal.returns
returns c =
    c.immediate_command_at.ensures c.args.self.now.put c.requires.2 c.requires.1 PopDebugGroup
