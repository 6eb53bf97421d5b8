-- `single_calls::one::count_of` meets its contract. Assumes nothing.
use Rattle.single_calls.proofs.one.count_of.Goals as goal

pub returns-then-some : goal.returns-then-some
returns-then-some c = λ x. rw c.if-some.true

pub returns-else-some : goal.returns-else-some
returns-else-some c = λ x. rw c.if-some.false
