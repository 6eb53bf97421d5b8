use Rattle.records.specs.declared.command.Command.TheVariants.{PopDebugGroup}
use Rattle.pipeline_calls.proofs.programmed.ProgrammedBatch.command.Goals as goal

pub returns : goal.returns
returns c = c.inner_command_at.ensures c.requires.0 PopDebugGroup
