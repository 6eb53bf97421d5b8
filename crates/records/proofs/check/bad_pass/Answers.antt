-- `records::check::bad_pass` meets its contract: where none is counted none is bad. Assumes nothing.
use Rattle.std.proofs.Common.{List, ◌∙◌, ap, sym, take}
use Rattle.std.specs.List.{list_any}
use Rattle.records.specs.declared.state.ResolveDesc.{ResolveDesc}
use Rattle.records.specs.Any.{some-any}
use Rattle.records.specs.Check.{some?, bad_resolve}
use Rattle.records.proofs.check.bad_pass.Goals as goal

pub returns-then-pass-eq0 : goal.returns-then-pass-eq0
unfolding some?
returns-then-pass-eq0 c = rw c.if-pass-eq0.true

pub returns : goal.returns
returns c =
    let p = c.args.pass in
    c.bad_resolves.ensures ∙ ap (λ (l : List ResolveDesc). list_any bad_resolve l) c.counted.ensures ∙ sym (some-any bad_resolve (take p.resolve_count p.resolves))
