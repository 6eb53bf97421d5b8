-- A draw's own commands, by place. Assumes nothing.
use Prim.Native.Nat.{ℕ, ◌+◌, ◌*◌, ◌-◌, ◌<◌, ◌≤◌, ◌^◌}
use mathlib.Core.Bool.{true, false}
use mathlib.Core.Path.{◌≡◌, sym, ◌∙◌, subst}
use native.Mathlib.Nat.{mul-le-mul_right}
use native.Mathlib.Omega.{arith}
use lib.Dec.{ltb}
use borrow.Author.Tests.{lt-ltb, leb-false}
use Rattle.tables.specs.Tabulate.{tabulate, long, at_place}
use Rattle.records.specs.declared.command.Command.{Command}
use Rattle.slots.specs.Place.{Stands}
use Rattle.calls.specs.Draws.{indirect_over}

-- where the last record's offset fits, each record's does
pub each_fits : (size offset n i : ℕ) → indirect_over size offset n ≡ false → i < n → offset + i * size < 2 ^ 64
each_fits size offset n i e h =
    let t : ltb 0 n ≡ true = lt-ltb 0 n (omega arith) in
    let k : offset + (n - 1) * size < 2 ^ 64 = leb-false _ _ (rw t at e) in
    let m : i * size ≤ (n - 1) * size = mul-le-mul_right size (omega arith) in
    omega arith

-- a table of records, by place
pub record-at : (n : ℕ) (f : ℕ → Command) (k : ℕ) (c : Command) → (k < n → c ≡ f k) → Stands c k (tabulate n f)
record-at n f k c e h d =
    let l : k < n = subst (λ (m : ℕ). k < m) (long n f) h in
    e l ∙ sym (at_place n f k d l)
