-- `slots::woken` meets its contract. Assumes nothing.
use Rattle.slots.proofs.woken.Goals as goal

pub returns : goal.returns
returns c = rw c.moved.ensures
