use mathlib.Core.Path.{sym, ap, ◌∙◌}
use Rattle.joining.specs.Joins.{is_done}
use Rattle.joining.specs.Plan.{total}
use Rattle.joining.proofs.Judging.{well, plan-done, plan-refused}
use Rattle.joining.proofs.join.plan_join.Goals as goal

-- src/join.rt:109:27
pub done_plan-requires : goal.done_plan-requires
done_plan-requires c = (well c.args.x c.args.a c.args.s (total c.args.x c.resets_count-n.result) (ap is_done (sym c.judge-outcome.ensures) ∙ sym c.is_done.ensures ∙ c.if-is_done.true)).0

-- src/join.rt:103:1
pub returns-then-is_done : goal.returns-then-is_done
returns-then-is_done c = c.done_plan.ensures ∙ plan-done c.args.x c.args.a c.args.s c.resets_count-n.result c.resets_count-n.ensures.0 (ap is_done (sym c.judge-outcome.ensures) ∙ sym c.is_done.ensures ∙ c.if-is_done.true)

-- src/join.rt:103:1
pub returns-else-is_done : goal.returns-else-is_done
returns-else-is_done c = c.refused_plan.ensures ∙ plan-refused c.args.x c.args.a c.args.s c.resets_count-n.result c.judge-outcome.result c.resets_count-n.ensures.0 c.judge-outcome.ensures (sym c.is_done.ensures ∙ c.if-is_done.false)
