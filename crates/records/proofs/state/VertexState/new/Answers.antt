-- `records::state::VertexState::new` meets its contract, by those of its parts' constructors. Assumes nothing.
use Rattle.records.proofs.state.VertexState.new.Goals as goal

pub returns : goal.returns
returns c = simp (c.new-attribute.ensures, c.new-slot.ensures)
