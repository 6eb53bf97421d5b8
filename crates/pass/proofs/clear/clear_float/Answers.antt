-- `pass::clear::clear_float` meets its contract. Assumes nothing.
use Rattle.pass.proofs.clear.clear_float.Goals as goal

pub returns : goal.returns
returns c = rw (c.to_f32-4.ensures, c.to_f32-3.ensures, c.to_f32-2.ensures, c.to_f32.ensures)
