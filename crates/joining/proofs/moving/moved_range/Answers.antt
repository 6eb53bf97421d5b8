use Rattle.joining.proofs.moving.moved_range.Goals as goal

-- src/moving.rt:23:1
pub returns : goal.returns
returns c = simp (c.shifted-2.ensures, c.shifted.ensures)
