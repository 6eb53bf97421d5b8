-- A label's bytes, and the command that pushes it. Assumes nothing.
use Prim.Native.Nat.{ℕ, min, ◌<◌, ◌≤◌, zero-le}
use mathlib.Core.Bool.{Bool, true, false, cond}
use mathlib.Core.List.{List, []}
use mathlib.Core.Path.{◌≡◌, refl, sym, ap, subst}
use native.Mathlib.Omega.{arith}
use lib.Dec.{ltb}
use lib.ListN.{length, get_or, length-take}
use lib.Seq.{get_or-take}
use borrow.Author.Tests.{ltb-false}
use Rattle.records.specs.Outcome.{accepted}
use Rattle.records.specs.declared.outcome.Outcome.{Outcome}
use Rattle.pass.specs.Marks.{label_bytes, push_label}
use Rattle.calls.specs.Planned.{Put}
use Rattle.pass_calls.specs.Marked.{LabelFits, label_of}

pub none_below : {X : Type 0} {i : ℕ} → i < 0 → X
none_below h = absurd (omega arith)

pub label-long : (has : Bool) (run : List ℕ) (count : ℕ) → cond has (min count (length run)) 0 ≡ length (label_bytes (label_of has run count))
label-long true run count = sym (length-take count run)
label-long false run count = refl

-- its bytes are the run's first
pub label-bytes : (has : Bool) (run : List ℕ) (count i : ℕ) → i < length (label_bytes (label_of has run count)) → get_or run i 0 ≡ get_or (label_bytes (label_of has run count)) i 0
label-bytes true run count i h = sym (get_or-take count run i 0 (omega (arith, length-take count run)))
label-bytes false run count i h = none_below h

-- of a label that is not short all bytes count
pub push-same : (has : Bool) (run : List ℕ) (count size at : ℕ) → size ≡ length (label_bytes (label_of has run count)) → ltb (length run) count ≡ false
    → push_label (label_of has [] size) at ≡ push_label (label_of has run count) at
push-same true run count size at e h =
    let l : count ≤ length run = ltb-false (length run) count h in
    let k : size ≡ count = omega (arith, length-take count run) in
    ap (λ (n : ℕ). push_label (label_of true [] n) at) k
push-same false run count size at e h = refl

-- what is copied of a label fits
pub label-fits : (o : Outcome) (room used : ℕ) (has : Bool) (run : List ℕ) (count at n : ℕ) (f : ℕ → ℕ) → Put room used o (label_bytes (label_of has run count)) 0 at n f → LabelFits run at n room
label-fits o room used has run count at n f p = (p.fits, subst (λ (k : ℕ). k ≤ length run) (sym p.count) (go (accepted o) has))
  where
    go : (t b : Bool) → length (cond t (label_bytes (label_of b run count)) []) ≤ length run
    go true true = omega (arith, length-take count run)
    go true false = zero-le
    go false b = zero-le
