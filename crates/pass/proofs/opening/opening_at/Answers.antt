-- `pass::opening::opening_at` meets its contract: the timestamp, then the label. Assumes nothing.
use Prim.Native.Nat.{◌+◌, ◌-◌}
use native.Mathlib.Omega.{arith}
use lib.ListN.{length}
use Rattle.records.specs.declared.command.Command.TheVariants.{PushDebugGroup}
use Rattle.slots.proofs.Parts.{stands-left, stands-right}
use Rattle.pass.specs.Marks.{timestamp, push_label}
use Rattle.pass.specs.Places.{no_command}
use Rattle.pass.proofs.Gathered.{only, stands-if}
use Rattle.pass.proofs.opening.opening_at.Goals as goal

pub returns-then-k-stamp_count : goal.returns-then-k-stamp_count
returns-then-k-stamp_count c =
    λ run h.
    let a = c.args in
    let n = c.stamp_count.ensures in
    let ys = push_label (record { present = a.label; bytes = record { run = run; count = a.bytes } }) a.at in
    stands-left c.stamp_command.result a.k (timestamp a.query) ys (omega (arith, n.0))
    (rw c.stamp_command.ensures (only (timestamp a.query) no_command a.k (omega (arith, n.0, n.1))))

pub returns-else-k-stamp_count : goal.returns-else-k-stamp_count
returns-else-k-stamp_count c =
    λ run h.
    let a = c.args in
    let n = c.stamp_count.ensures in
    let xs = timestamp a.query in
    let ys = push_label (record { present = a.label; bytes = record { run = run; count = a.bytes } }) a.at in
    stands-right c.push_label.result a.k xs ys (omega (arith, n.0))
    (rw (c.push_label.ensures h) (stands-if a.label (PushDebugGroup (record { start = a.at; end = a.at + a.bytes })) (a.k - length xs)))
