-- `pass::begin::full_depth` meets its contract. Assumes nothing.
use Rattle.pass.proofs.begin.full_depth.Goals as goal

pub returns : goal.returns
returns c = rw (c.of_bits32-2.ensures, c.of_bits32.ensures)
