-- `binding_calls::groups::plan_set_bind_group` meets its contract. Assumes nothing.
use Prim.Native.Nat.{ℕ, ◌+◌, ◌≤◌}
use mathlib.Core.Bool.{not}
use mathlib.Core.List.{List, ◌++◌}
use mathlib.Core.Path.{◌≡◌, sym, ap, ◌∙◌}
use native.Mathlib.Omega.{arith}
use lib.ListN.{length, get_or, take, length-append}
use Rattle.records.specs.declared.command.Command.{Command}
use Rattle.records.specs.declared.command.Command.TheVariants.{PopDebugGroup}
use Rattle.records.specs.declared.outcome.Conditions.{Conditions}
use Rattle.records.specs.declared.state.BindState.{BindState}
use Rattle.bindings.specs.Group.{Entry, entries_of, group_commands, group_state, textures_named, samplers_named}
use Rattle.bindings.specs.Units.{dirty_units, sampler_commands}
use Rattle.calls.specs.Meaning.{Meaning}
use Rattle.calls.specs.Parts.{with_bind}
use Rattle.calls.specs.Planned.{list_rooms, commands_only}
use Rattle.calls.specs.Step.{set_bind_group_meaning, outcome_of}
use Rattle.calls.proofs.Judged.{fitting, no-sum}
use Rattle.calls.proofs.Plans.{found, laid, next, some_written}
use Rattle.binding_calls.proofs.GroupMoved.{bind-moved}
use Rattle.binding_calls.proofs.groups.plan_set_bind_group.Goals as goal

part-fits : (used n k : ℕ) → used + n ≤ k → n ≤ k
part-fits used n k h = omega arith

pub returns : goal.returns
unfolding outcome_of
returns c =
    let a = c.args in
    let s = a.s in
    let phase = s.progress.phase in
    let os : List ℕ = take a.count a.offsets.now in
    let xs : List Entry = entries_of a.layout a.index a.entries a.group in
    let sweep = c.sweep_entries-sweep in
    let swept = sweep.ensures in
    let dirty = c.dirty_units-units in
    let new : BindState = group_state xs s.bind in
    let units : ℕ = dirty_units new (textures_named xs) (samplers_named xs) in
    let gs : List Command = group_commands xs os in
    let cs : List Command = gs ++ sampler_commands new units in
    let named : dirty.result ≡ units = rw (swept.2, swept.3, swept.4) at dirty.ensures in
    let more : c.sampler_count.result ≡ length (sampler_commands new units) = c.sampler_count.ensures.0 new ∙ ap (λ (u : ℕ). length (sampler_commands new u)) named in
    let all : gs ++ sampler_commands sweep.result.bind dirty.result ≡ cs = rw (swept.2, named) in
    let m : Meaning = set_bind_group_meaning s a.layout a.index a.entries a.group (record { run = a.offsets.now; count = a.count }) in
    let asks : Conditions =
    record {
      phase = not (m.allowed phase);
      many = m.asks.many;
      range = m.asks.range;
      absent = m.asks.absent;
      kind = m.asks.kind;
      sum = m.asks.sum;
      room = m.asks.room;
    } in
    let k = found a.room s asks phase cs _ _ _ _ _ c.list_rooms-rooms.ensures c.broken_limits-broken.ensures (rw (swept.0, more) (sym (length-append gs (sampler_commands new units)))) c.commands_only-more.ensures
    (rw (c.group_asks-c.ensures, swept.1, swept.5, swept.6, swept.7, c.over_run-short.ensures) at c.judge-v.ensures) c.spot_of-place.ensures in
    let after = bind-moved _ _ new _ s _ _ c.taken-after.ensures swept.2 k.sure in (
      (k.said, next a.room s asks phase cs k (with_bind new s) _ after),
      laid a.room s asks phase cs _ _ _ k.here k.many (λ h i l. ap (λ (x : List Command). get_or x i PopDebugGroup) all),
      λ i h.
          let w = some_written a.room s asks phase cs k i h in
          let few : length cs ≤ 4096 = part-fits s.progress.commands (length cs) 4096 (fitting (list_rooms a.room) s asks phase (commands_only (length cs)) w.0).commands_limit in (
            rw all w.1,
            record { first = swept.0; offsets_fit = no-sum (list_rooms a.room) s asks phase (commands_only (length cs)) w.0; few = rw all few },
          ),
    )
