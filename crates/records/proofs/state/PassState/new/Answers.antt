-- `records::state::PassState::new` meets its contract, by those of its parts' constructors. Assumes nothing.
use Rattle.records.proofs.state.PassState.new.Goals as goal

pub returns : goal.returns
returns c = simp (c.new-resolve.ensures, c.new-render_size.ensures)
