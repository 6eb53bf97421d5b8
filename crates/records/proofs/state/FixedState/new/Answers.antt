-- `records::state::FixedState::new` meets its contract, by those of its parts' constructors. Assumes nothing.
use Rattle.records.proofs.state.FixedState.new.Goals as goal

pub returns : goal.returns
returns c = simp (c.new-depth_bias.ensures, c.new-stencil.ensures, c.new-target.ensures, c.new-primitive.ensures)
