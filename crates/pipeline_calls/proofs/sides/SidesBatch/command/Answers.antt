use Rattle.records.specs.declared.command.Command.TheVariants.{PopDebugGroup}
use Rattle.pipeline_calls.proofs.sides.SidesBatch.command.Goals as goal

pub returns : goal.returns
returns c = c.stencil_func_at.ensures c.requires.0 PopDebugGroup
