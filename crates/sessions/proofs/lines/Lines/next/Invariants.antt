-- The line's room and the number of lines stay while a line is read.
use Rattle.std.proofs.Common.{◌≡◌, ◌≤◌, length}
use Rattle.sessions.proofs.lines.Lines.next.Given as goal

abbrev pub invariant-loop : goal.invariant-loop
invariant-loop g l =
    (l.part.length ≤ length l.fn.self.line.now)
    × (length l.self.line.now ≡ length l.fn.self.line.now)
    × (l.self.number ≡ l.fn.self.number)
