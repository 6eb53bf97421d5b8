use Rattle.std.proofs.Common.{sym}
use Rattle.tables.specs.Tabulate.{long}
use Rattle.draw_calls.proofs.drawn.own_count.Goals as goal

pub returns-in-One : goal.returns-in-One
returns-in-One c = rw c.in-One.is

pub returns-in-Indirect : goal.returns-in-Indirect
returns-in-Indirect c = rw c.in-Indirect.is (sym (long _ _))

pub returns-in-IndexedIndirect : goal.returns-in-IndexedIndirect
returns-in-IndexedIndirect c = rw c.in-IndexedIndirect.is (sym (long _ _))
