-- `bindings::entry_command::sum_of` meets its contract. Assumes nothing.
use Prim.Native.Nat.{◌<◌, ◌^◌}
use borrow.Author.Rules.{rules}
use Rattle.bindings.proofs.Whole.{fits-wide, sum_fits, sum_back}
use Rattle.bindings.proofs.entry_command.sum_of.Goals as goal

pub overflow_cast-result : goal.overflow_cast-result
overflow_cast-result c = fits-wide c.args.offset c.ranges.offset

pub overflow_add-result : goal.overflow_add-result
overflow_add-result c =
    let held : c.args.more < 2 ^ 32 = search rules in
    sum_fits c.args.offset c.args.more c.ranges.offset held

pub returns : goal.returns
returns c =
    let held : c.args.more < 2 ^ 32 = search rules in
    sum_back c.args.offset c.args.more c.ranges.offset held
