-- `single_calls::settings::indexed` meets its contract. Assumes nothing.
use Rattle.single_calls.proofs.settings.indexed.Goals as goal

pub returns-then-ok : goal.returns-then-ok
returns-then-ok c = rw c.if-ok.true
