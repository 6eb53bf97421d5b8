-- `pass::end::end_command_at` meets its contract: the resolves, then the rest. Assumes nothing.
use mathlib.Core.Path.{◌≡◌, sym, ◌∙◌}
use native.Mathlib.Omega.{arith}
use lib.ListN.{length, length-map}
use Rattle.slots.proofs.Parts.{stands-left, stands-right}
use Rattle.pass.specs.Render.{resolve_command}
use Rattle.pass.specs.End.{resolves_in, resolve_commands, after_resolves}
use Rattle.pass.proofs.end.end_command_at.Goals as goal

pub returns-then-k-n : goal.returns-then-k-n
returns-then-k-n c =
    λ e.
    let a = c.args in
    let q = length-map (resolves_in a.s) (resolve_command a.s.render_size) in
    stands-left c.resolve_at.result a.k (resolve_commands a.s) (after_resolves a.s a.v) (omega (arith, q, c.if-k-n.true, c.resolve_count-n.ensures.0)) (c.resolve_at.ensures e)

pub returns-else-k-n : goal.returns-else-k-n
returns-else-k-n c =
    λ e.
    let a = c.args in
    let n : c.resolve_count-n.result ≡ length (resolve_commands a.s) = c.resolve_count-n.ensures.0 ∙ sym (length-map (resolves_in a.s) (resolve_command a.s.render_size)) in
    stands-right c.after_resolves_at.result a.k (resolve_commands a.s) (after_resolves a.s a.v) (omega (arith, n, c.if-k-n.false)) (rw n at c.after_resolves_at.ensures)
