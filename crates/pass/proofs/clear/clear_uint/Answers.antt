-- `pass::clear::clear_uint` meets its contract: a number is the absolute value of itself. Assumes nothing.
use Rattle.pass.proofs.clear.clear_uint.Goals as goal

pub returns : goal.returns
returns c = rw (← c.trunc_u32_f64-4.ensures, ← c.trunc_u32_f64-3.ensures, ← c.trunc_u32_f64-2.ensures, ← c.trunc_u32_f64.ensures)
