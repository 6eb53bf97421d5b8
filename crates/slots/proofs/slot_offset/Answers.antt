-- `slots::slot_offset` meets its contract. Assumes nothing.
use Rattle.slots.proofs.slot_offset.Goals as goal

pub returns : goal.returns
returns c = rw (c.instance_offset.ensures, c.test.ensures, c.slot_at-slot.ensures)
