-- `bindings::immediate_command::place_descriptors` meets its contract. Invariant: the first j descriptors are placed. Assumes nothing.
use Prim.Native.Nat.{ℕ, ◌*◌, ◌≤◌, min}
use mathlib.Core.Bool.{false}
use mathlib.Core.Path.{◌≡◌}
use lib.ListN.{length, take}
use Rattle.records.specs.Check.{some?, bad_descriptor}
use Rattle.bindings.specs.Placed.{places_of, size_of}
use Rattle.bindings.proofs.immediate_command.place_descriptors.Given as goal

abbrev pub invariant-loop-j : goal.invariant-loop-j
invariant-loop-j l =
    (l.j ≤ l.n)
    × (l.p.total ≤ 256 * l.j)
    × (length l.p.at ≡ 192)
    × ((count : ℕ) → l.n ≡ min count 192 → some? bad_descriptor (take count l.descs) ≡ false
    → (take l.j l.p.at ≡ places_of (take l.j (take count l.descs)) l.first) × (l.p.total ≡ size_of (take l.j (take count l.descs))))
