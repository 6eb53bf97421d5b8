-- `pass::clear::clear_color` meets its contract, case by case. Assumes nothing.
use mathlib.Core.Path.{sym, ◌∙◌}
use Rattle.pass.proofs.clear.clear_color.Goals as goal

pub returns-then-test : goal.returns-then-test
returns-then-test c = simp (sym c.test.ensures ∙ c.if-test.true) c.clear_kind.ensures

pub returns-else-test : goal.returns-else-test
returns-else-test c = simp (sym c.test.ensures ∙ c.if-test.false)
