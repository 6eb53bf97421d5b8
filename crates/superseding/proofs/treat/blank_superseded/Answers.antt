-- One record before them: a blank, or as it was.
use Rattle.list_walks.proofs.Backwards.{back_none, back-more, back-end}
use Rattle.superseding.proofs.treat.blank_superseded.Goals as goal

pub loop-i-init : goal.loop-i-init
loop-i-init c = back_none _ _ _ _ _

pub loop-i-preserved : goal.loop-i-preserved
loop-i-preserved c = back-more _ _ _ _ _ _ _ _ _ _ _ c.loop-i.invariant c.loop-i-test.true c.requires c.look_back-a.ensures c.blanked.ensures

pub returns : goal.returns
returns c = back-end _ _ _ _ _ _ _ _ c.loop-i.invariant c.loop-i-test.false
