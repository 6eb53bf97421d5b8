-- `transfer_calls::transfers::plan_transition_buffers` meets its contract. Assumes nothing.
use mathlib.Core.Bool.{false, not, cond, ◌&&◌}
use mathlib.Core.Path.{refl, ◌∙◌, ap}
use Rattle.records.specs.Check.{some?}
use Rattle.records.specs.declared.command.Command.TheVariants.{BufferBarrier}
use Rattle.records.specs.declared.outcome.Conditions.{Conditions}
use Rattle.pass.specs.Marks.{Lent}
use Rattle.calls.specs.Meaning.{in_open}
use Rattle.calls.specs.Step.{outcome_of}
use Rattle.calls.specs.Transfers.{buffer_barriers, buffer_barrier_commands, barrier_absent, on_board, over_run_by}
use Rattle.calls.proofs.Plans.{found, laid, same, some_written}
use Rattle.transfer_calls.proofs.Recorded.{board-long, board-at}
use Rattle.transfer_calls.proofs.transfers.plan_transition_buffers.Goals as goal

pub returns : goal.returns
unfolding outcome_of
returns c =
    let a = c.args in
    let s = a.s in
    let t = a.caps.memory_barriers in
    let l : Lent = record { run = a.barriers.now; count = a.count } in
    let bs = buffer_barrier_commands (buffer_barriers l) in
    let cs = on_board a.caps bs in
    let asks : Conditions =
    record { phase = not (in_open s.progress.phase); many = false; range = false; absent = t && some? barrier_absent (buffer_barriers l); kind = false; sum = false; room = over_run_by 3 l } in
    let k = found a.room s asks s.progress.phase cs _ _ _ _ _ c.list_rooms-rooms.ensures c.broken_limits-broken.ensures (c.on_board-n.ensures ∙ ap (λ (n : _). cond t n 0) c.barrier_count.ensures ∙ board-long t bs) c.commands_only-more.ensures
    (rw (c.barrier_asks-c.ensures, c.in_open.ensures, c.over_run-short.ensures, c.barrier_absent.ensures) at c.judge-v.ensures) c.spot_of-place.ensures in (
      (k.said, same a.room s asks s.progress.phase cs k _ refl),
      laid a.room s asks s.progress.phase cs _ _ _ k.here k.many (λ h i l. (board-at t bs i _ l).1),
      λ i h. (board-at t bs i (BufferBarrier 0 0) (some_written a.room s asks s.progress.phase cs k i h).1).0,
    )
