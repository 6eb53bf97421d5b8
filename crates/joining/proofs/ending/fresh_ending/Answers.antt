use Rattle.joining.proofs.ending.fresh_ending.Goals as goal

pub returns : goal.returns
returns c = simp (c.new.ensures, c.no_color.ensures)
