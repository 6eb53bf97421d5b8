-- `cheaper::order::orders_of` meets its contract: the table of factorials. Assumes nothing.
use Rattle.cheaper.proofs.Digits.{all-factorials}
use Rattle.cheaper.proofs.order.orders_of.Goals as goal

pub returns : goal.returns
returns c = all-factorials c.args.n c.requires
