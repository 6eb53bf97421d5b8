-- The order theorem about what `record_pass` hands back. Assumes nothing.
use Rattle.order.proofs.OfRun.{order-of-run}
use Rattle.one_pass.specs.Script.{runs_of}
use Rattle.one_pass.specs.InOrder.{InOrder}

pub in_order : InOrder
in_order caps s calls l l' bytes bytes' queries a R e P =
    order-of-run caps s a.state (runs_of l bytes queries) (runs_of l bytes queries) (runs_of l' bytes' queries) (R queries).0 calls (R queries).1.0 e (R queries).1.1.0 P
