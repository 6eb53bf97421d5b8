use Rattle.joining.proofs.Planning.{runs_fit}
use Rattle.joining.proofs.Contract.{runs_done}
use Rattle.joining.proofs.join.join.Goals as goal

pub join_runs-requires : goal.join_runs-requires
join_runs-requires c =
    let a = c.args in
    let h = c.join_list-plan.ensures in
    runs_fit a.list.now a.bytes.now a.queries.now a.other.now a.other_bytes.now a.other_queries.now a.used a.other_used c.join_list-plan.new.list c.join_list-plan.result h

pub returns : goal.returns
returns c =
    let a = c.args in
    let h = c.join_list-plan.ensures in
    runs_done a.list.now a.bytes.now a.queries.now a.other.now a.other_bytes.now a.other_queries.now a.used a.other_used c.join_list-plan.new.list c.join_list-plan.result
    c.join_runs.new.bytes c.join_runs.new.queries c.join_runs.result h c.join_runs.ensures
