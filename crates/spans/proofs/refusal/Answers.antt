-- `spans::refusal` meets its contract. Assumes nothing.
use Rattle.spans.proofs.refusal.Goals as goal

pub returns : goal.returns
returns c = rw (c.outcome_of.ensures, c.over_room.ensures, c.no_rooms.ensures, c.broken_limits-broken.ensures)
