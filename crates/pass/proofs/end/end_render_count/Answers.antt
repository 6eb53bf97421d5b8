-- `pass::end::end_render_count` meets its contract: the sum of its parts. Assumes nothing.
use mathlib.Core.Path.{sym}
use Rattle.pass.proofs.Ending.{end-long}
use Rattle.pass.proofs.end.end_render_count.Goals as goal

pub returns : goal.returns
returns c =
    let a = c.args in
    rw (c.stamp_count.ensures.0, c.unset_count.ensures.0, c.resolve_count.ensures.0, c.one_if-labelled.ensures.0, c.one_if-invalidates.ensures.0) (sym (end-long a.s a.v))
