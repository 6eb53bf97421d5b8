-- `slots::command::slot_desc` meets its contract. Assumes nothing.
use Rattle.slots.proofs.command.slot_desc.Goals as goal

pub returns : goal.returns
returns c = rw (c.step_of-step.ensures, c.test.ensures, c.slot_at-slot.ensures)
