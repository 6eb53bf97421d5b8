-- `records::check::bad_descriptors` meets its contract. Assumes nothing.
use Rattle.std.proofs.Common.{List, ◌∙◌, ap, sym, take}
use Rattle.std.specs.List.{list_any}
use Rattle.records.specs.declared.command.ImmediateDesc.{ImmediateDesc}
use Rattle.records.specs.Any.{some-any}
use Rattle.records.specs.Check.{bad_descriptor}
use Rattle.records.proofs.check.bad_descriptors.Goals as goal

pub returns : goal.returns
returns c = c.any_bad.ensures ∙ ap (λ (l : List ImmediateDesc). list_any bad_descriptor l) c.counted.ensures ∙ sym (some-any bad_descriptor (take c.args.count c.args.descs))
