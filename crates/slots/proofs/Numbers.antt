-- The numbers that the slots remember, where a draw binds none of them. Assumes nothing.
use Prim.Native.Nat.{ℕ}
use mathlib.Core.Bool.{Bool, cond}
use mathlib.Core.List.{List}
use mathlib.Core.Path.{◌≡◌, sym, ap, ◌∙◌}
use lib.ListN.{length, get_or}
use Rattle.tables.specs.Tabulate.{alike, same-long}
use Rattle.mask.specs.Mask.{test_bit}
use Rattle.mask.specs.Laws.{test_zero}
use Rattle.slots.specs.Prepare.{remembered}

pub none-remembered : (l : List ℕ) (w : ℕ) → length l ≡ 16 → remembered l 0 w ≡ l
none-remembered l w e =
    alike 16 (λ i. cond (test_bit 0 i) w (get_or l i 0)) (λ i. get_or l i 0) (λ i h. ap (λ (t : Bool). cond t w (get_or l i 0)) (test_zero i))
    ∙ sym (same-long l 16 0 e)
