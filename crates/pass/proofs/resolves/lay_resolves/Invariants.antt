-- `pass::resolves::lay_resolves` meets its contract. Invariant: the resolves of the first i places are laid over the old ones. Assumes nothing.
use Prim.Native.Nat.{◌≤◌}
use mathlib.Core.Path.{◌≡◌}
use lib.ListN.{take}
use Rattle.pass.specs.Render.{places_of}
use Rattle.pass.specs.Gather.{gather}
use Rattle.pass.specs.Resolves.{laid_over, resolves_at, resolve_at}
use Rattle.pass.proofs.resolves.lay_resolves.Given as goal

abbrev pub invariant-loop-i : goal.invariant-loop-i
invariant-loop-i l =
    (l.r.count ≤ l.i) × (l.r ≡ laid_over (gather (resolves_at l.caps) resolve_at 0 (take l.i (places_of l.d))) l.initial.r.at)
