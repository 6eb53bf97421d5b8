-- The look at a list: its draws never pass the place. Assumes nothing.
use Prim.Native.Nat.{ℕ, ◌+◌, ◌≤◌}
use Rattle.records.specs.declared.command.Record.{Record}
use Rattle.lists.proofs.Surveying as surveying
use Rattle.joining.specs.declared.plan.Looked.{Looked}
use Rattle.joining.specs.Plan.{look_record}

pub next : (i : ℕ) (l : Looked) (x : Record) → l.surveyed.draws ≤ i → (look_record l i x).surveyed.draws ≤ i + 1
next i l x h = surveying.next i l.surveyed x h
