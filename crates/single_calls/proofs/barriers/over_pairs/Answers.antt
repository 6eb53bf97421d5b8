-- `single_calls::barriers::over_pairs` meets its contract. Assumes nothing.
use Rattle.single_calls.proofs.Pairs.{past-run}
use Rattle.single_calls.proofs.barriers.over_pairs.Goals as goal

pub returns : goal.returns
returns c = past-run c.args.length c.args.count
