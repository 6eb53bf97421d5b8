-- `pass_calls::marked::label_size` meets its contract. Assumes nothing.
use Rattle.pass_calls.proofs.marked.label_size.Goals as goal

pub returns-then-has_label : goal.returns-then-has_label
returns-then-has_label c = rw c.if-has_label.true c.within.ensures
