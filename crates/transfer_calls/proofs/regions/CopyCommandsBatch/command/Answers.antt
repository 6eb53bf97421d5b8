-- `transfer_calls::regions::CopyCommandsBatch::command` meets its contract. Assumes nothing.
use mathlib.Core.Path.{ap, ◌∙◌}
use native.Mathlib.Omega.{arith}
use Rattle.records.specs.declared.command.Command.TheVariants.{PopDebugGroup}
use Rattle.calls.specs.Transfers.{copy_command}
use Rattle.transfer_calls.proofs.Triples.{inside, placed, each, copies}
use Rattle.transfer_calls.proofs.regions.CopyCommandsBatch.command.Goals as goal

pub region_at-copy-requires : goal.region_at-copy-requires
region_at-copy-requires c =
    let k = inside _ _ (each (copy_command c.args.self.now.batch.now.src c.args.self.now.batch.now.dst) copies) c.args.self.now.run.now c.args.self.now.batch.now.count c.args.i c.requires in
    omega arith

pub returns : goal.returns
returns c =
    let b = c.args.self.now.batch.now in
    c.copy_of.ensures ∙ ap (copy_command b.src b.dst) c.region_at-copy.ensures
    ∙ placed _ _ (each (copy_command b.src b.dst) copies) c.args.self.now.run.now b.count c.args.i PopDebugGroup c.requires
