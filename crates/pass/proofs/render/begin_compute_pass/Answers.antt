-- `pass::render::begin_compute_pass` meets its contract. Assumes nothing.
use Rattle.pass.proofs.render.begin_compute_pass.Goals as goal

pub returns : goal.returns
returns c = λ bytes. rw c.end_timestamp.ensures
