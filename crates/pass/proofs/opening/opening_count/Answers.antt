-- `pass::opening::opening_count` meets its contract. Assumes nothing.
use native.Mathlib.Omega.{arith}
use lib.ListN.{length-append}
use Rattle.pass.specs.Marks.{timestamp, push_label}
use Rattle.pass.proofs.Beginning.{push-one}
use Rattle.pass.proofs.opening.opening_count.Goals as goal

pub overflow_add-result : goal.overflow_add-result
overflow_add-result c = omega (arith, c.one_if.ensures.1, c.stamp_count.ensures.1)

pub returns : goal.returns
returns c = (
  rw (c.one_if.ensures.0, c.stamp_count.ensures.0),
  omega (arith, c.one_if.ensures.1, c.stamp_count.ensures.1),
  λ bytes at.
      let a = c.args in
      let p = push-one a.label bytes at in
      let l = length-append (timestamp a.query) (push_label (record { present = a.label; bytes = bytes }) at) in
      omega (arith, p, l, c.one_if.ensures.0, c.stamp_count.ensures.0),
)
