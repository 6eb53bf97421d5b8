-- `pass_calls::ended::EndedBatch::command` meets its contract, by the kind of the pass. Assumes nothing.
use Rattle.records.specs.declared.command.Command.TheVariants.{PopDebugGroup}
use Rattle.pass_calls.proofs.ended.EndedBatch.command.Goals as goal

pub returns-then-self : goal.returns-then-self
returns-then-self c =
    let t = c.if-self.true in
    let p = c.requires in
    rw t (c.end_command_at.ensures p.1.resolves (rw t at p.0) PopDebugGroup)

pub returns-else-self : goal.returns-else-self
returns-else-self c =
    let t = c.if-self.false in
    rw t (c.end_compute_at.ensures (rw t at c.requires.0) PopDebugGroup)
