use Rattle.std.proofs.Common.{◌≡◌, ◌+◌, ◌-◌, get_or, refl, sym, arith}
use Rattle.calls.proofs.Copied.{copied}
use Rattle.pass_calls.proofs.marked.copy_label.Goals as goal

pub returns : goal.returns
returns c =
    let a = c.args in
    let k : a.at + a.n - a.at ≡ a.n = omega arith in
    rw (k, c.copy_from_slice.ensures.after) (sym (copied (λ i. get_or a.label.now i 0) a.bytes.now a.label.now 0 a.at a.n c.requires.0 c.requires.1 (λ i l. refl)))
