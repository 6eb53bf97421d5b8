use Rattle.std.proofs.Common.{◌≡◌, ◌+◌, ◌-◌, ◌≤◌, length, drop, get_or, sym, arith}
use lib.ListN.{length-drop}
use lib.Seq.{get_or-drop}
use Rattle.calls.proofs.Copied.{copied}
use Rattle.transfer_calls.proofs.resolved.copy_queries.Goals as goal

pub returns : goal.returns
returns c =
    let p = c.args.plan in
    let set = c.args.set.now in
    let to : p.to + p.size - p.to ≡ p.size = omega arith in
    let from : p.from + p.size - p.from ≡ p.size = omega arith in
    let long : p.size ≤ length (drop p.from set) = omega (arith, c.requires.1, length-drop p.from set) in
    rw (to, c.copy_from_slice.ensures.after, from) (sym (copied (λ i. get_or set (p.from + i) 0) c.args.queries.now (drop p.from set) 0 p.to p.size c.requires.0 long (λ i l. sym (get_or-drop p.from set i 0))))
