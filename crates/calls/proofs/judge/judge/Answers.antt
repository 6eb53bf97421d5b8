-- `calls::judge::judge` meets its contract. Assumes nothing.
use native.Mathlib.Omega.{arith}
use Rattle.calls.proofs.Judged.{fitting-by, said}
use Rattle.calls.proofs.judge.judge.Goals as goal

pub overflow_add-result : goal.overflow_add-result
overflow_add-result c =
    let w = fitting-by c.args.rooms c.args.broken c.args.p c.args.c c.args.phase c.args.more
    (said c.args.rooms c.args.broken c.args.p c.args.c c.args.phase c.args.more c.outcome_for-outcome.ensures c.accepted.ensures c.if-accepted.true) in
    let l = w.commands_limit in
    omega arith

pub overflow_add-result-then-accepted : goal.overflow_add-result-then-accepted
overflow_add-result-then-accepted c =
    let w = fitting-by c.args.rooms c.args.broken c.args.p c.args.c c.args.phase c.args.more
    (said c.args.rooms c.args.broken c.args.p c.args.c c.args.phase c.args.more c.outcome_for-outcome.ensures c.accepted.ensures c.if-accepted.true) in
    let l = w.bytes_limit in
    omega arith

pub overflow_add-result-then-accepted-2 : goal.overflow_add-result-then-accepted-2
overflow_add-result-then-accepted-2 c =
    let w = fitting-by c.args.rooms c.args.broken c.args.p c.args.c c.args.phase c.args.more
    (said c.args.rooms c.args.broken c.args.p c.args.c c.args.phase c.args.more c.outcome_for-outcome.ensures c.accepted.ensures c.if-accepted.true) in
    let l = w.queries_limit in
    omega arith
