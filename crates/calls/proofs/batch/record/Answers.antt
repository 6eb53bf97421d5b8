use Rattle.std.proofs.Common.{ap}
use Rattle.walks.proofs.Fronts.{front_none, front-more}
use Rattle.calls.specs.Did.{record_of}
use Rattle.calls.proofs.batch.record.Goals as goal

pub loop-i-init : goal.loop-i-init
loop-i-init g c = front_none _ _ _ _

pub loop-i-preserved : goal.loop-i-preserved
loop-i-preserved g c = front-more _ _ _ _ _ _ _ c.loop-i.invariant c.loop-i-test.true (ap record_of c.command.ensures)
