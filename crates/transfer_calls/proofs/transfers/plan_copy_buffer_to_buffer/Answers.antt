-- `transfer_calls::transfers::plan_copy_buffer_to_buffer` meets its contract. Assumes nothing.
use mathlib.Core.List.{map}
use mathlib.Core.Bool.{false, not}
use mathlib.Core.Path.{refl, sym, ◌∙◌}
use lib.ListN.{length-map}
use Rattle.records.specs.Check.{some?}
use Rattle.records.specs.declared.outcome.Conditions.{Conditions}
use Rattle.pass.specs.Marks.{Lent}
use Rattle.calls.specs.Meaning.{in_open}
use Rattle.calls.specs.Step.{outcome_of}
use Rattle.calls.specs.Transfers.{regions_of, empty_copy, copy_command, over_run_by}
use Rattle.calls.proofs.Plans.{found, laid, same, some_written}
use Rattle.transfer_calls.proofs.transfers.plan_copy_buffer_to_buffer.Goals as goal

pub returns : goal.returns
unfolding outcome_of
returns c =
    let a = c.args in
    let s = a.s in
    let l : Lent = record { run = a.regions.now; count = a.count } in
    let cs = map (copy_command a.src a.dst) (regions_of l) in
    let asks : Conditions =
    record { phase = not (in_open s.progress.phase); many = false; range = some? empty_copy (regions_of l); absent = false; kind = false; sum = false; room = over_run_by 3 l } in
    let k = found a.room s asks s.progress.phase cs _ _ _ _ _ c.list_rooms-rooms.ensures c.broken_limits-broken.ensures (c.region_count-n.ensures ∙ sym (length-map (regions_of l) (copy_command a.src a.dst))) c.commands_only-more.ensures
    (rw (c.run_asks-c.ensures, c.in_open.ensures, c.over_run-short.ensures, c.empty_region-range.ensures) at c.judge-v.ensures) c.spot_of-place.ensures in (
      (k.said, same a.room s asks s.progress.phase cs k _ refl),
      laid a.room s asks s.progress.phase cs _ _ _ k.here k.many (λ h i l. refl),
      λ i h. (some_written a.room s asks s.progress.phase cs k i h).1,
    )
