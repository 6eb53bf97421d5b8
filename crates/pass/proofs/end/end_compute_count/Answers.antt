-- `pass::end::end_compute_count` meets its contract. Assumes nothing.
use native.Mathlib.Omega.{arith}
use lib.ListN.{length-append}
use Rattle.pass.specs.Marks.{pop_label, timestamp}
use Rattle.pass.proofs.Ending.{pop-one}
use Rattle.pass.proofs.end.end_compute_count.Goals as goal

pub returns : goal.returns
returns c =
    let s = c.args.s in
    let p = pop-one s.has_pass_label in
    let a = length-append (pop_label s.has_pass_label) (timestamp s.end_of_pass_timestamp) in
    omega (arith, p, a, c.stamp_count.ensures.0, c.one_if.ensures.0)
