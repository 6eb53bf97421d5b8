-- `records::check::bad_immediates` meets its contract: where none is counted none is bad. Assumes nothing.
use Rattle.records.specs.Check.{some?}
use Rattle.records.proofs.check.bad_immediates.Goals as goal

pub returns-then-immediates-eq0 : goal.returns-then-immediates-eq0
unfolding some?
returns-then-immediates-eq0 c = rw c.if-immediates-eq0.true

pub returns-then-immediates-le8 : goal.returns-then-immediates-le8
returns-then-immediates-le8 c = c.bad_few.ensures c.if-immediates-le8.true
