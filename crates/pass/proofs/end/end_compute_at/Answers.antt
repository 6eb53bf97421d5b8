-- `pass::end::end_compute_at` meets its contract: the label, then the timestamp. Assumes nothing.
use Prim.Native.Nat.{◌-◌}
use mathlib.Core.Path.{◌≡◌, sym, ◌∙◌}
use native.Mathlib.Omega.{arith}
use lib.ListN.{length}
use Rattle.records.specs.declared.command.Command.TheVariants.{PopDebugGroup}
use Rattle.slots.proofs.Parts.{stands-left, stands-right}
use Rattle.pass.specs.Marks.{pop_label, timestamp}
use Rattle.pass.specs.Places.{no_command}
use Rattle.pass.proofs.Gathered.{only}
use Rattle.pass.proofs.Ending.{few-stamp, pop-one, pop-at}
use Rattle.pass.proofs.end.end_compute_at.Goals as goal

pub returns-then-k-labelled : goal.returns-then-k-labelled
returns-then-k-labelled c =
    let a = c.args in
    let b = a.s.has_pass_label in
    let p : c.one_if-labelled.result ≡ length (pop_label b) = c.one_if-labelled.ensures.0 ∙ sym (pop-one b) in
    stands-left PopDebugGroup a.k (pop_label b) (timestamp a.s.end_of_pass_timestamp) (omega (arith, p, c.if-k-labelled.true)) (pop-at b a.k)

pub returns-else-k-labelled : goal.returns-else-k-labelled
returns-else-k-labelled c =
    let a = c.args in
    let b = a.s.has_pass_label in
    let t = a.s.end_of_pass_timestamp in
    let p : c.one_if-labelled.result ≡ length (pop_label b) = c.one_if-labelled.ensures.0 ∙ sym (pop-one b) in
    stands-right c.stamp_command.result a.k (pop_label b) (timestamp t) (omega (arith, p, c.if-k-labelled.false))
    (rw c.stamp_command.ensures (only (timestamp t) no_command (a.k - length (pop_label b)) (few-stamp t)))
