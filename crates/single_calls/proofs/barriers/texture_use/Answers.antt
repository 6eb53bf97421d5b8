-- `single_calls::barriers::texture_use` meets its contract. Assumes nothing.
use Rattle.single_calls.proofs.barriers.texture_use.Goals as goal

pub returns : goal.returns
returns c = rw (c.test-2.ensures, c.test.ensures) at c.pick.ensures
