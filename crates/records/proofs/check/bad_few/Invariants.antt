-- `records::check::bad_few` meets its contract. Invariant: `bad` says whether a counted descriptor from `i` on is bad, where up to eight are counted. Assumes nothing.
use Prim.Native.Nat.{◌≤◌}
use mathlib.Core.Path.{◌≡◌}
use lib.ListN.{take, drop}
use Rattle.records.specs.Check.{some?, bad_descriptor}
use Rattle.records.proofs.check.bad_few.Given as goal

abbrev pub invariant-loop-i : goal.invariant-loop-i
invariant-loop-i l = l.immediates.count ≤ 8 → l.bad ≡ some? bad_descriptor (drop l.i (take l.immediates.count l.immediates.descs))
