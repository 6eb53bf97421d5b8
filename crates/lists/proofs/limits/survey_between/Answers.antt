-- One more record is one more step of the fold.
use Rattle.std.proofs.Common.{◌≡◌, ℕ, ◌+◌, ◌≤◌, ◌<◌, length, ap, arith}
use Rattle.list_walks.proofs.Folded.{folded_none, folded_more}
use Rattle.records.specs.declared.command.Record.{Record}
use Rattle.lists.specs.declared.limits.Surveyed.{Surveyed}
use Rattle.lists.specs.Survey.{survey_record}
use Rattle.lists.proofs.Floats.{part-f32_none, part-f32_more}
use Rattle.lists.proofs.Surveying.{next}
use Rattle.lists.proofs.limits.survey_between.Goals as goal

low : (a b : Surveyed) (i : ℕ) (x : Record) → a.draws ≤ i → b ≡ survey_record a i x → b.draws ≤ i + 1
low a b i x h e = omega (arith, ap (λ (s : Surveyed). s.draws) e, next i a x h)

pub loop-i-init : goal.loop-i-init
loop-i-init c = record { folded = folded_none _ _ _ _ _ c.requires.0; floats = part-f32_none c.args.list.now c.args.from; low = c.requires.2 }

pub loop-i-preserved : goal.loop-i-preserved
loop-i-preserved c =
    let h = c.loop-i.invariant.folded in
    let less : c.loop-i.i < length c.args.list.now = omega arith in
    record {
      folded = folded_more _ _ _ _ _ _ _ _ _ h c.loop-i-test.true c.requires.1 c.survey_record-a.ensures.survey;
      floats = part-f32_more c.args.list.now c.args.from _ _ c.loop-i.invariant.floats h.0 less c.survey_record-a.ensures.floats;
      low = low _ _ _ _ c.loop-i.invariant.low c.survey_record-a.ensures.survey;
    }
