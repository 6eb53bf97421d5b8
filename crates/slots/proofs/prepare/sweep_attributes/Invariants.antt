-- `slots::prepare::sweep_attributes` meets its contract. Invariant: the sweep is that of the attributes from `i` on. Assumes nothing.
use Rattle.std.proofs.Common.{◌≡◌, ◌+◌, ◌≤◌, length, drop}
use Rattle.slots.specs.Sweep.{swept}
use Rattle.slots.proofs.prepare.sweep_attributes.Given as goal

abbrev pub invariant-loop-i : goal.invariant-loop-i
invariant-loop-i l = (l.sweep.count + l.i ≤ length l.attributes) × (l.sweep ≡ swept l.m l.fn.v l.w (drop l.i l.attributes))
