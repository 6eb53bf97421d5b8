-- `records::state::State::new` meets its contract, by those of its parts' constructors. Assumes nothing.
use Rattle.records.proofs.state.State.new.Goals as goal

pub returns : goal.returns
returns c =
    simp (
      c.new-immediates.ensures,
      c.new-pass.ensures,
      c.new-bind.ensures,
      c.new-fixed.ensures,
      c.new-draw.ensures,
      c.new-vertex.ensures,
      c.new-progress.ensures,
    )
