-- `bindings::entry_state::textures_after` meets its contract. Assumes nothing.
use borrow.Author.Rules.{rules}
use Rattle.mask.specs.Mask.{set_bit_if}
use Rattle.bindings.proofs.entry_state.textures_after.Goals as goal

pub returns-in_default : goal.returns-in_default
unfolding set_bit_if
returns-in_default c = search rules
