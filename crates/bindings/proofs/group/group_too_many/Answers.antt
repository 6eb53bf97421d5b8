-- `bindings::group::group_too_many` meets its contract. Assumes nothing.
use Rattle.std.proofs.Common.{◌∙◌, sym, take}
use Rattle.records.specs.Any.{some-any}
use Rattle.bindings.specs.Group.{long_group}
use Rattle.bindings.proofs.group.group_too_many.Goals as goal

pub returns : goal.returns
returns c = rw (c.long_group.ensures ∙ sym (some-any long_group (take c.args.l.group_count c.args.l.groups)))
