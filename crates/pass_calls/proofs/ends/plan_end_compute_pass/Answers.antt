-- `pass_calls::ends::plan_end_compute_pass` meets its contract. Assumes nothing.
use Rattle.pass_calls.proofs.ends.plan_end_compute_pass.Goals as goal

pub returns : goal.returns
returns c = rw c.end_compute_pass-pass.ensures at c.plan_end.ensures
