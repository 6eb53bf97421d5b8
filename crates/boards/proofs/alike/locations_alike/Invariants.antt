-- `same` says whether the locations below l are alike.
use Rattle.std.proofs.Common.{◌≡◌}
use Rattle.machine.specs.Found.{fetch_at}
use Rattle.boards.specs.Alike.{location_alike, all_below}
use Rattle.boards.specs.Settings.{vertices_of}
use Rattle.boards.proofs.alike.locations_alike.Given as goal

abbrev pub invariant-loop-l : goal.invariant-loop-l
invariant-loop-l l = l.same ≡ all_below l.l (λ k. location_alike (fetch_at (vertices_of l.x) k) (fetch_at (vertices_of l.y) k))
