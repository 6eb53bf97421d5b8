use Prim.Native.Nat.{ℕ, ◌+◌}
use mathlib.Core.Path.{◌∙◌, ap, ap₂}
use mathlib.Core.Bool.{◌||◌}
use native.Mathlib.Nat.{zero-add}
use lib.Dec.{ltb}
use Rattle.joining.proofs.plan.too_long.Goals as goal

-- src/plan.rt:218:1
pub returns : goal.returns
returns c = let x = c.args.x in
    ap₂ ◌||◌ c.beyond-commands.ensures
    (ap₂ ◌||◌ (c.beyond-bytes.ensures ∙ ap (λ (k : ℕ). ltb 65536 (x.used.bytes + k)) (zero-add x.other.bytes)) (c.beyond-queries.ensures ∙ ap (λ (k : ℕ). ltb 1024 (x.used.queries + k)) (zero-add x.other.queries)))
