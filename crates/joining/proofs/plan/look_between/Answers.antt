use Rattle.std.proofs.Common.{◌≡◌, ℕ, ◌+◌, ◌≤◌, ap, arith}
use Rattle.list_walks.proofs.Folded.{folded_none, folded_more}
use Rattle.records.specs.declared.command.Record.{Record}
use Rattle.joining.specs.declared.plan.Looked.{Looked}
use Rattle.joining.specs.Plan.{look_record}
use Rattle.joining.proofs.Looking.{next}
use Rattle.joining.proofs.plan.look_between.Goals as goal

low : (a b : Looked) (i : ℕ) (x : Record) → a.surveyed.draws ≤ i → b ≡ look_record a i x → b.surveyed.draws ≤ i + 1
low a b i x h e = omega (arith, ap (λ (c : Looked). c.surveyed.draws) e, next i a x h)

pub loop-i-init : goal.loop-i-init
loop-i-init c = record { folded = folded_none _ _ _ _ _ c.requires.0; low = c.requires.2 }

pub loop-i-preserved : goal.loop-i-preserved
loop-i-preserved c =
    record {
      folded = folded_more _ _ _ _ _ _ _ _ _ c.loop-i.invariant.folded c.loop-i-test.true c.requires.1 c.look_record-a.ensures;
      low = low _ _ _ _ c.loop-i.invariant.low c.look_record-a.ensures;
    }
