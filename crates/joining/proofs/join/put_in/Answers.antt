use Rattle.std.proofs.Common.{ap}
use Rattle.walks.proofs.Fronts.{front_none, front-more}
use Rattle.joining.specs.Joins.{record_of}
use Rattle.joining.proofs.join.put_in.Goals as goal

pub loop-i-init : goal.loop-i-init
loop-i-init c = front_none _ _ _ _

pub loop-i-preserved : goal.loop-i-preserved
loop-i-preserved c = front-more _ _ _ _ _ _ _ c.loop-i.invariant c.loop-i-test.true (ap record_of c.reset_at-command.ensures)
