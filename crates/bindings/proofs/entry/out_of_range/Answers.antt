-- `bindings::entry::out_of_range` meets its contract. Assumes nothing.
use Rattle.bindings.proofs.entry.out_of_range.Goals as goal

pub returns : goal.returns
returns c = rw c.content_out_of_range.ensures
