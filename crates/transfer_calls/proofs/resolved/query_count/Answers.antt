-- `transfer_calls::resolved::query_count` meets its contract. Assumes nothing.
use Prim.Native.Nat.{min}
use mathlib.Core.Path.{sym, ◌∙◌}
use lib.ListN.{length}
use Rattle.transfer_calls.proofs.Found.{gap, many}
use Rattle.transfer_calls.proofs.resolved.query_count.Goals as goal

pub returns : goal.returns
returns c =
    let a = c.args in
    rw (c.within-first.ensures, c.within-last.ensures, c.within.ensures) (gap (min a.count (length a.set.now)) a.end a.start ∙ sym (many a.set.now a.count a.start a.end))
