-- `transfer_calls::threes::over_run` meets its contract. Assumes nothing.
use Rattle.transfer_calls.proofs.Triples.{past-run}
use Rattle.transfer_calls.proofs.threes.over_run.Goals as goal

pub returns : goal.returns
returns c = past-run c.args.length c.args.count
