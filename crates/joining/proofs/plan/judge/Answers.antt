use mathlib.Core.Path.{sym, ◌∙◌}
use Rattle.joining.specs.Plan.{total}
use Rattle.joining.proofs.Judging.{is-many, is-range, is-long, is-small, is-well}
use Rattle.joining.proofs.plan.judge.Goals as goal

-- src/plan.rt:255:9
pub returns-then-breaks-others : goal.returns-then-breaks-others
returns-then-breaks-others c = is-many c.args.x c.args.a c.args.s (total c.args.x c.args.n) c.if-breaks-others.true

-- src/plan.rt:258:9
pub returns-then-breaks-others-2 : goal.returns-then-breaks-others-2
returns-then-breaks-others-2 c = is-range c.args.x c.args.a c.args.s (total c.args.x c.args.n) c.if-breaks-others.false c.if-breaks-others-2.true

-- src/plan.rt:261:9
pub returns-then-too_long : goal.returns-then-too_long
returns-then-too_long c = is-long c.args.x c.args.a c.args.s (total c.args.x c.args.n) c.if-breaks-others.false c.if-breaks-others-2.false (sym c.too_long.ensures ∙ c.if-too_long.true)

-- src/plan.rt:263:8
pub too_small-requires : goal.too_small-requires
too_small-requires c = sym c.too_long.ensures ∙ c.if-too_long.false

-- src/plan.rt:264:9
pub returns-then-too_small : goal.returns-then-too_small
returns-then-too_small c = is-small c.args.x c.args.a c.args.s (total c.args.x c.args.n) c.if-breaks-others.false c.if-breaks-others-2.false (sym c.too_long.ensures ∙ c.if-too_long.false) (sym c.too_small.ensures ∙ c.if-too_small.true)

-- src/plan.rt:247:1
pub returns : goal.returns
returns c = is-well c.args.x c.args.a c.args.s (total c.args.x c.args.n) c.if-breaks-others.false c.if-breaks-others-2.false (sym c.too_long.ensures ∙ c.if-too_long.false) (sym c.too_small.ensures ∙ c.if-too_small.false)
