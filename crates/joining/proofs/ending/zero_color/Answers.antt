use Rattle.joining.proofs.ending.zero_color.Goals as goal

-- src/ending.rt:107:1
pub returns : goal.returns
returns c = simp (c.bits32-4.ensures, c.bits32-3.ensures, c.bits32-2.ensures, c.bits32.ensures)
