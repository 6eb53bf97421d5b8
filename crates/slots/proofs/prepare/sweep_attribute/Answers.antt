-- `slots::prepare::sweep_attribute` meets its contract: sent or passed over. Assumes nothing.
use mathlib.Core.Path.{sym, ◌∙◌}
use Rattle.slots.specs.Sweep.{sweep_one}
use Rattle.slots.proofs.prepare.sweep_attribute.Goals as goal

pub returns-then-test : goal.returns-then-test
unfolding sweep_one
returns-then-test c =
    rw (c.attribute_over.ensures, c.set_if.ensures, sym c.test.ensures ∙ c.if-test.true)

pub returns-else-test : goal.returns-else-test
unfolding sweep_one
returns-else-test c = rw (sym c.test.ensures ∙ c.if-test.false)
