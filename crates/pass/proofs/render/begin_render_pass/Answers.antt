-- `pass::render::begin_render_pass` meets its contract, by what place 0 is. Assumes nothing.
use mathlib.Core.Path.{sym, ◌∙◌}
use Rattle.pass.proofs.render.begin_render_pass.Goals as goal

pub returns-then-default_first : goal.returns-then-default_first
returns-then-default_first c = λ bytes. rw (sym c.default_first.ensures ∙ c.if-default_first.true, c.end_timestamp-end_of_pass_timestamp.ensures)

pub returns-else-default_first : goal.returns-else-default_first
returns-else-default_first c = λ bytes. rw (sym c.default_first.ensures ∙ c.if-default_first.false, c.end_timestamp-end_of_pass_timestamp.ensures, c.lay_resolves-laid.ensures, c.invalidations.ensures)
