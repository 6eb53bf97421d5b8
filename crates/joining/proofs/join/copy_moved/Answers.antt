use Rattle.list_walks.proofs.Mapped.{copied_none, copied_more}
use Rattle.joining.proofs.join.copy_moved.Goals as goal

pub loop-i-init : goal.loop-i-init
loop-i-init c = copied_none _ _ _ _ _

pub loop-i-preserved : goal.loop-i-preserved
loop-i-preserved c = copied_more _ _ _ _ _ _ _ _ _ c.loop-i.invariant c.loop-i-test.true c.requires.0 c.requires.1 c.moved_record.ensures
