-- `pass::end::after_resolves_at` meets its contract, part by part. Assumes nothing.
use Prim.Native.Nat.{◌-◌}
use mathlib.Core.Path.{◌≡◌, sym, ◌∙◌}
use mathlib.Core.List.{◌++◌}
use native.Mathlib.Omega.{arith}
use lib.Dec.{eqb}
use lib.ListN.{length}
use Rattle.records.specs.declared.command.Command.TheVariants.{InvalidateAttachments, PopDebugGroup}
use Rattle.slots.proofs.Parts.{stands-left, stands-right}
use Rattle.pass.specs.Marks.{pop_label}
use Rattle.pass.specs.Render.{invalidate_command}
use Rattle.pass.specs.End.{unsetting}
use Rattle.pass.proofs.Gathered.{stands-unless}
use Rattle.pass.proofs.Ending.{invalid-one, pop-one, pop-at}
use Rattle.pass.proofs.end.after_resolves_at.Goals as goal

pub returns-then-k-invalidates : goal.returns-then-k-invalidates
returns-then-k-invalidates c =
    let a = c.args in
    let m = a.s.invalidate_attachments in
    let b = a.s.has_pass_label in
    let inv = invalidate_command m in
    let pop = pop_label b in
    let i : c.one_if-invalidates.result ≡ length inv = c.one_if-invalidates.ensures.0 ∙ sym (invalid-one m) in
    let p : c.one_if-labelled.result ≡ length pop = c.one_if-labelled.ensures.0 ∙ sym (pop-one b) in
    stands-left (InvalidateAttachments m) a.k inv (pop ++ unsetting a.s a.v) (omega (arith, i, c.if-k-invalidates.true)) (stands-unless (eqb m 0) (InvalidateAttachments m) a.k)

pub returns-then-k-invalidates-2 : goal.returns-then-k-invalidates-2
returns-then-k-invalidates-2 c =
    let a = c.args in
    let m = a.s.invalidate_attachments in
    let b = a.s.has_pass_label in
    let inv = invalidate_command m in
    let pop = pop_label b in
    let i : c.one_if-invalidates.result ≡ length inv = c.one_if-invalidates.ensures.0 ∙ sym (invalid-one m) in
    let p : c.one_if-labelled.result ≡ length pop = c.one_if-labelled.ensures.0 ∙ sym (pop-one b) in
    stands-right PopDebugGroup a.k inv (pop ++ unsetting a.s a.v) (omega (arith, i, c.if-k-invalidates.false))
    (stands-left PopDebugGroup (a.k - length inv) pop (unsetting a.s a.v) (omega (arith, i, p, c.if-k-invalidates-2.true)) (pop-at b (a.k - length inv)))

pub returns-else-k-invalidates-2 : goal.returns-else-k-invalidates-2
returns-else-k-invalidates-2 c =
    let a = c.args in
    let m = a.s.invalidate_attachments in
    let b = a.s.has_pass_label in
    let inv = invalidate_command m in
    let pop = pop_label b in
    let i : c.one_if-invalidates.result ≡ length inv = c.one_if-invalidates.ensures.0 ∙ sym (invalid-one m) in
    let p : c.one_if-labelled.result ≡ length pop = c.one_if-labelled.ensures.0 ∙ sym (pop-one b) in
    let r = c.unset_at.result in
    stands-right r a.k inv (pop ++ unsetting a.s a.v) (omega (arith, i, c.if-k-invalidates.false))
    (stands-right r (a.k - length inv) pop (unsetting a.s a.v) (omega (arith, i, p, c.if-k-invalidates-2.false)) (rw (i, p) at c.unset_at.ensures))
